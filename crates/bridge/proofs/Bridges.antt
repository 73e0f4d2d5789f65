-- A `Bridge` after its stores, by the sorts of its two ends: each leads to the far end of the other, and rule 1 names its entry.
use Prim.Native.Nat.{ℕ, ◌<◌}
use native.Mathlib.Omega.{arith}
use mathlib.Core.Path.{◌≡◌, refl, sym, ap, ◌∙◌}
use mathlib.Core.Logic.{◌⊎◌, inl, inr}
use mathlib.Core.Bool.{Bool, true, false, ◌||◌}
use mathlib.Core.List.{List, [], ◌∷◌}
use lib.IntN.{ℤ, pos}
use lib.Signed.{lt_z}
use lib.ListN.{length, get_or, set}
use lib.Seq.{get_or-set_same}
use borrow.Author.Tests.{eq-eqb, ne_eqb}
use Rattle.laws.specs.Test.{pick, pick_true, pick_false}
use Rattle.laws.specs.Ring.{ring, var, con, ◌:-◌, ◌:*◌}
use Rattle.turn.specs.declared.Point.{Point}
use Rattle.turn.specs.Points.{before, differ, turn, clockwise}
use Rattle.graph.specs.Graph.{Graph}
use Rattle.rings.specs.Ends.{a_end, b_end, link_of, far, end_of, a_link, b_link, far_a, far_b}
use Rattle.rings.specs.Field.{named, LaidBridge}
use Rattle.pairs.specs.Stores.{paired, led}
use Rattle.bridge.proofs.Stored.{at_first, at_second}

-- ---- two points are one whichever is asked first, and one that is the start of a turn makes none
pub differ_either : (p q : Point) → differ p q ≡ differ q p
differ_either p q = by (before p q) (before q p)
  where
    by : (s t : Bool) → s || t ≡ t || s
    by true true = refl
    by true false = refl
    by false true = refl
    by false false = refl

no_turn : (p q r : Point) → r ≡ p → clockwise p q r ≡ false
no_turn p q r e = ap (λ (s : Point). clockwise p q s) e ∙ ap (λ (z : ℤ). lt_z z (pos 0)) none
  where
    none : turn p q p ≡ pos 0
    none = ring (p.x ∷ p.y ∷ q.x ∷ q.y ∷ [])
        ((var 2 :- var 0) :* (var 1 :- var 1) :- (var 3 :- var 1) :* (var 0 :- var 0)) (con (pos 0)) tt

-- ---- the entry that is named, by what `lead` holds
module _ (g : Graph) (lead nxt : List ℕ) (k x : ℕ) where
  own : get_or lead k 0 ≡ 1 → named g lead nxt k ≡ k
  own h = rw h

  pub other : get_or lead k 0 ≡ 2 → link_of (get_or nxt (a_end k) 0) ≡ x → named g lead nxt k ≡ x
  other h e = rw h e

  pub by_rule : get_or lead k 0 ≡ 0 → link_of (get_or nxt (a_end k) 0) ≡ x
      → named g lead nxt k ≡ pick (clockwise (g.a x) (g.b x) (g.b k)) x k
  by_rule h e = rw (h, e)

-- ---- node v of a graph, with entries e and f
module _ (g : Graph) (v e f : ℕ) where
  -- the entry that rule 1 names
  abbrev first : Bool
  first = clockwise (g.a e) (g.b e) (g.b f)

  abbrev Leads : List ℕ → List ℕ → Type 0
  Leads nxt lead = (k : ℕ) → (k ≡ e) ⊎ (k ≡ f) → g.a_node k ≡ v → named g lead nxt k ≡ pick first e f

  at_a : (k : ℕ) → g.a_node k ≡ v → end_of g v k ≡ a_end k
  at_a k h = pick_true (a_end k) (b_end k) (eq-eqb (g.a_node k) v h)

  at_b : (k : ℕ) → (g.a_node k ≡ v → ⊥) → end_of g v k ≡ b_end k
  at_b k h = pick_false (a_end k) (b_end k) (ne_eqb (g.a_node k) v h)

  -- of ends p and q
  laid : {nxt lead : List ℕ} (p q : ℕ) → end_of g v e ≡ p → end_of g v f ≡ q → get_or nxt p 0 ≡ far q → get_or nxt q 0 ≡ far p → Leads nxt lead
      → LaidBridge g v e f nxt lead
  laid {nxt} p q s t i j l = record {
    onto = ap (λ (h : ℕ). get_or nxt h 0) s ∙ i ∙ ap far (sym t);
    back = ap (λ (h : ℕ). get_or nxt h 0) t ∙ j ∙ ap far (sym s);
    leads = l;
  }

  module _ (nxt lead : List ℕ) (le : b_end e < length nxt) (lf : b_end f < length nxt) where
    -- e's b and f's a: by the rule
    pub laid_b_a : (g.a_node e ≡ v → ⊥) → g.a_node f ≡ v → get_or lead f 0 ≡ 0
        → LaidBridge g v e f (paired nxt (b_end e) (b_end f) (a_end f) (a_end e)) lead
    laid_b_a n h z = laid (b_end e) (a_end f) (at_b e n) (at_a f h) (on ∙ sym (far_a f)) (back ∙ sym (far_b e)) leads
      where
        new : List ℕ
        new = paired nxt (b_end e) (b_end f) (a_end f) (a_end e)

        on : get_or new (b_end e) 0 ≡ b_end f
        on = at_first nxt (b_end e) (b_end f) (a_end f) (a_end e) le (λ q. omega arith)

        back : get_or new (a_end f) 0 ≡ a_end e
        back = at_second nxt (b_end e) (b_end f) (a_end f) (a_end e) (omega arith)

        leads : Leads new lead
        leads k (inl q) i = absurd (n (ap g.a_node (sym q) ∙ i))
        leads k (inr q) i = rw q (by_rule g lead new f e z (ap link_of back ∙ a_link e))

    -- e's a and f's b, at one point: f, as no turn is clockwise
    pub laid_a_b : g.a_node e ≡ v → (g.a_node f ≡ v → ⊥) → e < length lead → g.b f ≡ g.a e
        → LaidBridge g v e f (paired nxt (b_end f) (b_end e) (a_end e) (a_end f)) (set lead e 2)
    laid_a_b h n l p = laid (a_end e) (b_end f) (at_a e h) (at_b f n) (on ∙ sym (far_b f)) (back ∙ sym (far_a e)) leads
      where
        new : List ℕ
        new = paired nxt (b_end f) (b_end e) (a_end e) (a_end f)

        on : get_or new (a_end e) 0 ≡ a_end f
        on = at_second nxt (b_end f) (b_end e) (a_end e) (a_end f) (omega arith)

        back : get_or new (b_end f) 0 ≡ b_end e
        back = at_first nxt (b_end f) (b_end e) (a_end e) (a_end f) lf (λ q. omega arith)

        leads : Leads new (set lead e 2)
        leads k (inl q) i =
            rw q (other g (set lead e 2) new e f (get_or-set_same lead e 2 0 l) (ap link_of on ∙ a_link f)
            ∙ sym (pick_false e f (no_turn (g.a e) (g.b e) (g.b f) p)))
        leads k (inr q) i = absurd (n (ap g.a_node (sym q) ∙ i))

    -- two b's: rule 1 is never asked there
    pub laid_b_b : (g.a_node e ≡ v → ⊥) → (g.a_node f ≡ v → ⊥) → (e ≡ f → ⊥)
        → LaidBridge g v e f (paired nxt (b_end e) (a_end f) (b_end f) (a_end e)) lead
    laid_b_b n m d = laid (b_end e) (b_end f) (at_b e n) (at_b f m)
        (at_first nxt (b_end e) (a_end f) (b_end f) (a_end e) le (λ q. d (omega arith)) ∙ sym (far_b f))
        (at_second nxt (b_end e) (a_end f) (b_end f) (a_end e) lf ∙ sym (far_b e)) leads
      where
        leads : Leads (paired nxt (b_end e) (a_end f) (b_end f) (a_end e)) lead
        leads k (inl q) i = absurd (n (ap g.a_node (sym q) ∙ i))
        leads k (inr q) i = absurd (m (ap g.a_node (sym q) ∙ i))

    -- two a's: the one that is told
    module _ (he : g.a_node e ≡ v) (hf : g.a_node f ≡ v) (d : e ≡ f → ⊥) (ke : e < length lead) (kf : f < length lead) where
      abbrev joined : List ℕ
      joined = paired nxt (a_end e) (b_end f) (a_end f) (b_end e)

      on_a : get_or joined (a_end e) 0 ≡ b_end f
      on_a = at_first nxt (a_end e) (b_end f) (a_end f) (b_end e) (omega arith) (λ q. d (omega arith))

      back_a : get_or joined (a_end f) 0 ≡ b_end e
      back_a = at_second nxt (a_end e) (b_end f) (a_end f) (b_end e) (omega arith)

      of_e : (t : Bool) → named g (led t lead e f) joined e ≡ pick t e f
      of_e true = own g (paired lead e 1 f 2) joined e e (at_first lead e 1 f 2 ke d)
      of_e false = other g (paired lead e 2 f 1) joined e f (at_first lead e 2 f 1 ke d) (ap link_of on_a ∙ b_link f)

      of_f : (t : Bool) → named g (led t lead e f) joined f ≡ pick t e f
      of_f true = other g (paired lead e 1 f 2) joined f e (at_second lead e 1 f 2 kf) (ap link_of back_a ∙ b_link e)
      of_f false = own g (paired lead e 2 f 1) joined f f (at_second lead e 2 f 1 kf)

      pub laid_a_a : LaidBridge g v e f joined (led first lead e f)
      laid_a_a = laid (a_end e) (a_end f) (at_a e he) (at_a f hf) (on_a ∙ sym (far_a f)) (back_a ∙ sym (far_a e)) leads
        where
          leads : Leads joined (led first lead e f)
          leads k (inl q) i = rw q (of_e first)
          leads k (inr q) i = rw q (of_f first)
