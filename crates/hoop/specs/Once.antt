-- An end has one place in a ring alone: whatever list of ends the ring is, two places that `find_place` may answer are equal.
use Rattle.std.specs.Prelude.{ℕ, ◌+◌, ◌<◌, ◌≤◌, ◌≡◌, refl, Bool, true, false, List, pos, neg_ℤ, length, get_or}
use Rattle.std.proofs.Common.{zero-le, arith, sym, ap, ◌∙◌, subst}
use Rattle.std.proofs.Math.Decide.{dec_le}
use Rattle.std.specs.Int.Signed.{lt_z}
use Rattle.laws.specs.Test.{true≢false}
use Rattle.laws.specs.Sign.{Sgn, mns, zer, pls, sgn, flip, eq_s, sgn_neg, gt_z_sgn}
use Rattle.turn.specs.declared.Point.{Point}
use Rattle.turn.specs.Points.{cross}
use Rattle.turn.specs.Directions.{cross_anti}
use Rattle.rings.specs.Ends.{is_a}
use Rattle.rings.specs.RingOrder.{in_turn}
use Rattle.hoop.specs.declared.Place.{Place}
use Rattle.hoop.specs.declared.Place.TheVariants.{First, After, Alike}
use Rattle.hoop.specs.Hoops.{way_of, Before, Parallel, BeforeFrom, GoesAfter, RunsAlike, Placed}

-- ---- of two ends one stands before the other at most, and neither where they run alike
both_turns : (s t x y : Bool) → in_turn s t x ≡ true → in_turn t s y ≡ true → (x ≡ true) × (y ≡ true)
both_turns true true x y p q = (p, q)
both_turns false false x y p q = (p, q)
both_turns true false x y p q = absurd (true≢false p refl)
both_turns false true x y p q = absurd (true≢false q refl)

no_turn : (s t x : Bool) → s ≡ t → x ≡ false → in_turn s t x ≡ true → ⊥
no_turn true true x e f p = true≢false p f
no_turn false false x e f p = true≢false p f
no_turn true false x e f p = true≢false p refl
no_turn false true x e f p = true≢false e refl

not_both : (s : Sgn) → eq_s s pls ≡ true → eq_s (flip s) pls ≡ true → ⊥
not_both mns p q = true≢false p refl
not_both zer p q = true≢false p refl
not_both pls p q = true≢false q refl

module _ (a b : ℕ → Point) (home : Point) (h k : ℕ) where
  pub before_once : Before a b home h k → Before a b home k h → ⊥
  before_once p q =
      let t = both_turns (is_a h) (is_a k) _ _ p.turns q.turns in
      let u = way_of a b home h in
      let v = way_of a b home k in
      not_both (sgn (cross u v)) (sym (gt_z_sgn (cross u v)) ∙ t.0)
      (ap (λ s. eq_s s pls) (sym (ap sgn (cross_anti u v) ∙ sgn_neg (cross u v))) ∙ sym (gt_z_sgn (cross v u)) ∙ t.1)

  pub parallel_first : Parallel a b home h k → Before a b home h k → ⊥
  parallel_first p q = no_turn (is_a h) (is_a k) _ p.sort (ap (lt_z (pos 0)) p.flat) q.turns

  pub parallel_second : Parallel a b home h k → Before a b home k h → ⊥
  parallel_second p q =
      no_turn (is_a k) (is_a h) _ (sym p.sort)
      (ap (lt_z (pos 0)) (cross_anti (way_of a b home h) (way_of a b home k) ∙ ap neg_ℤ p.flat)) q.turns

-- ---- so the place is one alone
module _ (a b : ℕ → Point) (home : Point) (e : ℕ → ℕ) (l : List ℕ) (q : ℕ) where
  first_after : (h : ℕ) → BeforeFrom a b home e l q 0 → GoesAfter a b home e l q h → ⊥
  first_after h p r =
      before_once a b home q h (subst (Before a b home q) (sym r.here) (p r.place zero-le r.within)) r.first

  first_alike : BeforeFrom a b home e l q 0 → RunsAlike a b home e l q → ⊥
  first_alike p r = parallel_second a b home _ q r.parallel (p r.place zero-le r.within)

  -- an end r that stands before q, or runs as q does, stands behind no place whose followers q stands before
  module _ (i j : ℕ) (within : j < length l) (rest : BeforeFrom a b home e l q (i + 1)) where
    not_behind : Before a b home (e (get_or l j 0)) q → i < j → ⊥
    not_behind t n = before_once a b home q _ (rest j (omega arith) within) t

    not_alike_behind : Parallel a b home (e (get_or l j 0)) q → i < j → ⊥
    not_alike_behind t n = parallel_second a b home _ q t (rest j (omega arith) within)

  abbrev end_before : {h : ℕ} (p : GoesAfter a b home e l q h) → Before a b home (e (get_or l p.place 0)) q
  end_before p = subst (λ x. Before a b home x q) p.here p.first

  after_once : (h k : ℕ) → GoesAfter a b home e l q h → GoesAfter a b home e l q k → h ≡ k
  after_once h k p r = by (dec_le p.place r.place) (dec_le r.place p.place)
    where
      by : Dec (p.place ≤ r.place) → Dec (r.place ≤ p.place) → h ≡ k
      by (yes i) (yes j) = let n : p.place ≡ r.place = omega arith in p.here ∙ ap (λ z. e (get_or l z 0)) n ∙ sym r.here
      by (yes i) (no j) = absurd (not_behind p.place r.place r.within p.rest (end_before r) (omega arith))
      by (no i) d = absurd (not_behind r.place p.place p.within r.rest (end_before p) (omega arith))

  after_alike : (h : ℕ) → GoesAfter a b home e l q h → RunsAlike a b home e l q → ⊥
  after_alike h p r = by (dec_le p.place r.place) (dec_le r.place p.place)
    where
      by : Dec (p.place ≤ r.place) → Dec (r.place ≤ p.place) → ⊥
      by (yes i) (yes j) =
          let n : r.place ≡ p.place = omega arith in
          parallel_first a b home _ q (subst (λ z. Parallel a b home (e (get_or l z 0)) q) n r.parallel) (end_before p)
      by (yes i) (no j) = not_alike_behind p.place r.place r.within p.rest r.parallel (omega arith)
      by (no i) d = not_behind r.place p.place p.within r.rest (end_before p) (omega arith)

  pub placed_once : (x y : Place) → Placed a b home e l q x → Placed a b home e l q y → x ≡ y
  placed_once First First p r = refl
  placed_once First (After h) p r = absurd (first_after h p r)
  placed_once First Alike p r = absurd (first_alike p r)
  placed_once (After h) First p r = absurd (first_after h r p)
  placed_once (After h) (After k) p r = ap After (after_once h k p r)
  placed_once (After h) Alike p r = absurd (after_alike h p r)
  placed_once Alike First p r = absurd (first_alike r p)
  placed_once Alike (After h) p r = absurd (after_alike h r p)
  placed_once Alike Alike p r = refl
