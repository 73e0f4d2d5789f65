-- The loops that put the holes in binding's order.
use Prim.Native.Nat.{ℕ, zero, suc, ◌+◌, ◌-◌, ◌≤◌, ◌<◌}
use mathlib.Core.Path.{◌≡◌, refl, sym, ap, ◌∙◌, subst}
use mathlib.Core.Bool.{Bool, true, false}
use mathlib.Core.List.{List}
use native.Mathlib.Omega.{arith}
use native.Mathlib.Numerals.{add-one}
use native.Mathlib.Nat.{not-suc-le-zero}
use native.Mathlib.Decide.{ℕ_discrete}
use lib.ListN.{length, get_or, set}
use lib.Seq.{get_or-set_same, get_or-set_other}
use Rattle.table.specs.Fronts.{KeptFrom, kept_all, kept_before, kept_less, kept_then}
use Rattle.anchor.specs.declared.Anchor.{Anchor}
use Rattle.anchor.specs.Anchors.{Anchors, listed_anchor}
use Rattle.precede.specs.Precedence.{goes_before}
use Rattle.order.specs.HoleOrder.{slot, sorted}
use Rattle.order.specs.Insertion.{Inserted, InsertedInto, slot_same, image, slot_in, sorted_more, entries}
use Rattle.order.specs.HoleLists.{by_anchor, slot_of, Ordered}

-- ---- the place, as the loop looks for it
slot_down : (test : ℕ → Bool) (p : ℕ) → 0 < p → test (p - 1) ≡ true → slot test p ≡ slot test (p - 1)
unfolding slot
slot_down test zero h e = absurd (not-suc-le-zero h)
slot_down test (suc p) h e = let q : suc p - 1 ≡ p = omega arith in let e' : test p ≡ true = rw q at e in rw (q, e')

slot_stop : (test : ℕ → Bool) (p : ℕ) → 0 < p → test (p - 1) ≡ false → slot test p ≡ p
unfolding slot
slot_stop test zero h e = refl
slot_stop test (suc p) h e = let q : suc p - 1 ≡ p = omega arith in let e' : test p ≡ false = rw q at e in rw e'

-- ---- the loop of `insert`: a gap at p; what was from p on has moved by one
pub record Shifted (test : ℕ → Bool) (old new : List ℕ) (m p : ℕ) : Type 0 where
  pub within : p ≤ m
  pub kept : KeptFrom 0 (m + 1) old new
  pub below : (i : ℕ) → i < p → get_or new i 0 ≡ get_or old i 0
  pub above : (i : ℕ) → p ≤ i → i < m → get_or new (i + 1) 0 ≡ get_or old i 0
  pub same : slot test m ≡ slot test p

pub shift_start : (test : ℕ → Bool) (old : List ℕ) (m : ℕ) → Shifted test old old m m
shift_start test old m = record { within = omega arith; kept = kept_all 0 (m + 1) old; below = λ i l. refl; above = λ i l k. absurd (no_i i l k); same = refl }
  where
    no_i : (i : ℕ) → m ≤ i → i < m → ⊥
    no_i i l k = omega arith

module _ (test : ℕ → Bool) (old new : List ℕ) (m p : ℕ) (s : Shifted test old new m p) (r : m < length old) where
  pub shift_more : 0 < p → test (p - 1) ≡ true → (d : ℕ) → d ≡ get_or new (p - 1) 0 → Shifted test old (set new p d) m (p - 1)
  shift_more h t d q = record {
    within = omega (arith, s.within);
    kept = kept_before 0 (m + 1) old new s.kept p d (omega (arith, s.within));
    below = λ i l. get_or-set_other new p i d 0 (λ e. omega arith) ∙ s.below i (omega arith);
    above = λ i l k. at i l k (ℕ_discrete (i + 1) p);
    same = s.same ∙ slot_down test p h t;
  }
    where
      at : (i : ℕ) → p - 1 ≤ i → i < m → Dec (i + 1 ≡ p) → get_or (set new p d) (i + 1) 0 ≡ get_or old i 0
      at i l k (yes e) =
          let z : p - 1 ≡ i = omega arith in
          rw e (get_or-set_same new p d 0 (omega (arith, s.within, s.kept.len))) ∙ q ∙ s.below (p - 1) (omega arith) ∙ ap (λ (j : ℕ). get_or old j 0) z
      at i l k (no e) = get_or-set_other new p (i + 1) d 0 e ∙ s.above i (omega arith) k

  put : (c : ℕ) → slot test m ≡ p → InsertedInto old (set new p c) m (slot test m) c
  put c e = rw e (record {
    inserted = record {
      within = s.within;
      below = λ i l. get_or-set_other new p i c 0 (λ q. omega arith) ∙ s.below i l;
      here = get_or-set_same new p c 0 (omega (arith, s.within, s.kept.len));
      above = λ i l k. get_or-set_other new p (i + 1) c 0 (λ q. omega arith) ∙ s.above i l k;
    };
    kept = kept_before 0 (m + 1) old new s.kept p c (omega (arith, s.within));
  })

  pub shift_stop : (c : ℕ) → 0 < p → test (p - 1) ≡ false → InsertedInto old (set new p c) m (slot test m) c
  shift_stop c h t = put c (s.same ∙ slot_stop test p h t)

  pub shift_end : (c : ℕ) → p ≤ 0 → InsertedInto old (set new p c) m (slot test m) c
  unfolding slot
  shift_end c h = let e : p ≡ 0 = omega arith in put c (s.same ∙ rw e)

-- the code's test of the hole that stands before the gap
pub went : (h : Anchors) (who old new : List ℕ) (j p : ℕ) → Shifted (λ q. by_anchor h who j (get_or old q 0)) old new j p → 0 < p
    → (a b : Anchor) → a ≡ listed_anchor h j → b ≡ listed_anchor h (get_or new (p - 1) 0) → (r : Bool) → r
    ≡ goes_before a b (get_or who j 0) (get_or who (get_or new (p - 1) 0) 0)
    → {v : Bool} → r ≡ v → by_anchor h who j (get_or old (p - 1) 0) ≡ v
went h who old new j p s l a b ea eb r e {v} q =
    let z : get_or new (p - 1) 0 ≡ get_or old (p - 1) 0 = s.below (p - 1) (omega arith) in
    rw (← z) (sym (rw (ea, eb) at e) ∙ q)

-- ---- the loop of `order_holes`: the first j holes are in order
pub record Ordering (h : Anchors) (who old new : List ℕ) (j : ℕ) : Type 0 where
  pub kept : KeptFrom 0 j old new
  pub done : Ordered h who j new

pub ordering_start : (h : Anchors) (who old : List ℕ) → Ordering h who old old 0
ordering_start h who old = record { kept = kept_all 0 0 old; done = λ i l. absurd (not-suc-le-zero l) }

module _ (h : Anchors) (who old mid : List ℕ) (j : ℕ) (o : Ordering h who old mid j) where
  pub ordering_below : (i : ℕ) → i < j → get_or mid i 0 < j
  ordering_below i l = rw (o.done i l) (entries (λ k. k < j) (by_anchor h who) (λ k. k) j (λ k n. n) i l)

  pub ordering_more : (new : List ℕ) → InsertedInto mid new j (slot_of h who mid j) j → Ordering h who old new (j + 1)
  ordering_more new s = record {
    kept = kept_then 0 (j + 1) old mid new (kept_less 0 j old mid o.kept (j + 1) (omega arith)) s.kept;
    done = rw (add-one j) (image (λ k. k) mid new (sorted (by_anchor h who) (λ k. k) j) (sorted (by_anchor h who) (λ k. k) (suc j)) j (slot_of h who mid j) j j
        s.inserted
        (subst (λ (p : ℕ). Inserted (sorted (by_anchor h who) (λ k. k) j) (sorted (by_anchor h who) (λ k. k) (suc j)) j p j) (sym places)
        (sorted_more (by_anchor h who) (λ k. k) j))
        refl o.done);
  }
    where
      places : slot_of h who mid j ≡ slot_in (by_anchor h who) (λ k. k) j
      places = slot_same (λ p. by_anchor h who j (get_or mid p 0)) (λ p. by_anchor h who j (get_or (sorted (by_anchor h who) (λ k. k) j) p 0)) j
          (λ p k. ap (by_anchor h who j) (o.done p k))
