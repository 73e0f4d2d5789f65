-- Check 11 passes exactly the tables whose holes have their least points as anchors, in order.
use Rattle.std.specs.Prelude.{ℕ, zero, suc, ◌+◌, ◌-◌, ◌≤◌, ◌<◌, ◌≡◌, refl, Bool, true, false, ◌&&◌, ltb}
use Rattle.std.proofs.Common.{arith, not-suc-le-zero, subst, lt-ltb, ltb-true}
use Rattle.std.proofs.Math.Decide.{ℕ_discrete}
use Rattle.laws.specs.Test.{pick, true≢false}
use Rattle.laws.specs.Lowest.{lowest, some}
use Rattle.laws.specs.Fails.{Iff, Fails, then, or_fails, some_fails}
use Rattle.turn.specs.Points.{before}
use Rattle.turn.specs.PointOrder.{before_irreflexive, not_before_transitive}
use Rattle.turn.specs.Refusals.{refuses, no_fault}
use Rattle.turn.specs.declared.Reason.TheVariants.{WrongAnchor}
use Rattle.table.specs.Table.{Table, point, contour_count, first_of, len_of, is_hole}
use Rattle.anchor.specs.AnchorChecks.{hole_before, before_previous_hole, bad_anchor, anchors_checked}
use Rattle.anchor.specs.Anchor.{anchor_point}
use Rattle.anchor.specs.Anchored.{Anchored}

-- a test that is joined to another fails exactly where it fails wherever the other passes
and_fails : {b : Bool} {P : Type 0} (a : Bool) → Fails b P → Fails (a && b) (a ≡ true → P)
and_fails true h = record { to = λ e _. h.to e; from = λ f. h.from (f refl) }
and_fails false h = record { to = λ e f. absurd (true≢false f refl); from = λ f. refl }

same : {P : Type 0} → Iff P P
same = record { to = λ p. p; from = λ p. p }

-- ---- the last hole
hole_here : (t : Table) (c : ℕ) → is_hole t c ≡ true → hole_before t (suc c) ≡ suc c
unfolding hole_before
hole_here t c e = rw e

hole_earlier : (t : Table) (c : ℕ) → is_hole t c ≡ false → hole_before t (suc c) ≡ hole_before t c
unfolding hole_before
hole_earlier t c e = rw e

pub record LastHole (t : Table) (c h : ℕ) : Type 0 where
  pub below : h < c
  pub hole : is_hole t h ≡ true

pub last_hole : (t : Table) (c : ℕ) → 0 < hole_before t c → LastHole t c (hole_before t c - 1)
unfolding hole_before
last_hole t zero h = absurd (not-suc-le-zero h)
last_hole t (suc c) h = go (is_hole t c) refl (last_hole t c) h
  where
    go : (b : Bool) → is_hole t c ≡ b → (0 < hole_before t c → LastHole t c (hole_before t c - 1)) → 0 < pick b (suc c) (hole_before t c)
        → LastHole t (suc c) (pick b (suc c) (hole_before t c) - 1)
    go true e r h = let q : suc c - 1 ≡ c = omega arith in rw q (record { below = omega arith; hole = e })
    go false e r h = let l = r h in record { below = omega (arith, l.below); hole = l.hole }

module _ (t : Table) (cw : Bool) where
  -- ---- one hole
  abbrev Least : ℕ → Type 0
  Least c = (k : ℕ) → k < len_of t c → before (point t (first_of t c + k)) (anchor_point t cw c) ≡ false

  abbrev Fit : ℕ → Type 0
  Fit c = is_hole t c ≡ true → (Least c) × (before_previous_hole t cw c ≡ false)

  parts : Iff (anchors_checked t cw ≡ no_fault) ((c : ℕ) → c < contour_count t → Fit c)
  unfolding anchors_checked
  parts =
      then (refuses (some (bad_anchor t cw) (contour_count t)) WrongAnchor (lowest (bad_anchor t cw) (contour_count t)) no_fault)
      (then (record { to = λ h. h.0; from = λ h. (h, refl) })
      (some_fails (contour_count t) (λ c. and_fails (is_hole t c) (or_fails (some_fails (len_of t c) (λ k. same)) same))))

  -- ---- from the holes one by one to the order of all
  module _ (f : (c : ℕ) → c < contour_count t → Fit c) where
    -- the last hole before n is not before any hole there
    record Last (n c : ℕ) : Type 0 where
      any : 0 < hole_before t n
      after : before (anchor_point t cw (hole_before t n - 1)) (anchor_point t cw c) ≡ false

    not_out : (c : ℕ) → c < contour_count t → is_hole t c ≡ true → 0 < hole_before t c
        → before (anchor_point t cw c) (anchor_point t cw (hole_before t c - 1)) ≡ false
    not_out c l e h = let q = lt-ltb 0 (hole_before t c) h in rw q at (f c l e).1

    last : (n c : ℕ) → n ≤ contour_count t → c < n → is_hole t c ≡ true → Last n c
    last zero c h l e = absurd (not-suc-le-zero l)
    last (suc n) c h l e = go (is_hole t n) refl (ℕ_discrete c n) (λ m. last n c (omega arith) m e)
      where
        here : suc n - 1 ≡ n
        here = omega arith

        go : (b : Bool) → is_hole t n ≡ b → Dec (c ≡ n) → (c < n → Last n c) → Last (suc n) c
        go true q (yes i) r =
            record { any = rw (hole_here t n q) (omega arith); after = rw (hole_here t n q, here, i) (before_irreflexive (anchor_point t cw n)) }
        go true q (no i) r =
            let m = r (omega arith) in
            record {
              any = rw (hole_here t n q) (omega arith);
              after = rw (hole_here t n q, here)
                  (not_before_transitive (anchor_point t cw c) (anchor_point t cw (hole_before t n - 1)) (anchor_point t cw n) m.after
                  (not_out n h q m.any));
            }
        go false q (yes i) r = absurd (true≢false (subst (λ (x : ℕ). is_hole t x ≡ true) i e) q)
        go false q (no i) r = let m = r (omega arith) in record { any = rw (hole_earlier t n q) m.any; after = rw (hole_earlier t n q) m.after }

    anchored_of : Anchored t cw
    anchored_of = record {
      least = λ c p l e m n.
          let q : first_of t c + (p - first_of t c) ≡ p = omega arith in
          subst (λ (x : ℕ). before (point t x) (anchor_point t cw c) ≡ false) q ((f c l e).0 (p - first_of t c) (omega arith));
      order = λ c d l m e g.
          let k = last d c (omega arith) l e in
          not_before_transitive (anchor_point t cw c) (anchor_point t cw (hole_before t d - 1)) (anchor_point t cw d) k.after (not_out d m g k.any);
    }

  fit_of : Anchored t cw → (c : ℕ) → c < contour_count t → Fit c
  fit_of a c l e = ((λ k m. a.least c (first_of t c + k) l e (omega arith) (omega arith)), go (ltb 0 (hole_before t c)) refl)
    where
      go : (b : Bool) → ltb 0 (hole_before t c) ≡ b → b && before (anchor_point t cw c) (anchor_point t cw (hole_before t c - 1)) ≡ false
      go true q = let h = last_hole t c (ltb-true 0 (hole_before t c) q) in a.order (hole_before t c - 1) c h.below l h.hole e
      go false q = refl

-- check 11 passes exactly where the anchors are least and in order
pub passes_anchored : (t : Table) (cw : Bool) → Iff (anchors_checked t cw ≡ no_fault) (Anchored t cw)
passes_anchored t cw = then (parts t cw) (record { to = anchored_of t cw; from = fit_of t cw })
