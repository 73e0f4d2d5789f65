-- What the comparison of two ends tells, and that a link's far point lies within the bounds.
use Prim.Native.Nat.{ℕ, ◌%◌, ◌≤◌, ◌<◌}
use native.Mathlib.Omega.{arith}
use mathlib.Core.Path.{◌≡◌, refl, sym, ap, ap₂, ◌∙◌}
use mathlib.Core.Bool.{Bool, true, false}
use mir.Syntax.{w64}
use mir.Val.{of_z}
use lib.Dec.{eqb}
use lib.IntN.{ℤ, pos, nat_abs}
use lib.Signed.{lt_z}
use borrow.Author.Tests.{eq-eqb, ne_eqb}
use Rattle.laws.specs.Test.{pick_ind, true≢false, true_is}
use Rattle.laws.specs.Bounds.{Z, fits64, same64}
use Rattle.laws.specs.Sign.{Sgn, mns, zer, pls, sgn, flip, eq_s, eq_s_eq, sgn_zer, sgn_neg, gt_z_sgn, eq0_sgn}
use Rattle.turn.specs.declared.Point.{Point}
use Rattle.turn.specs.Points.{OnGrid, cross, product_bound}
use Rattle.turn.specs.Directions.{cross_anti}
use Rattle.rings.specs.Ends.{link_of, is_a}
use Rattle.rings.specs.RingOrder.{in_turn}
use Rattle.hoop.specs.Hoops.{far_point, way_of, Before, Parallel}

-- ---- what the code's tests tell of ends h and q
module _ (a b : ℕ → Point) (home : Point) (h q : ℕ) where
  pub unlike_earlier : (h % 2 ≡ q % 2 → ⊥) → h % 2 ≡ 1 → Before a b home h q
  unlike_earlier d e =
      let s : is_a h ≡ false = ne_eqb (h % 2) 0 (λ z. omega arith) in
      let t : is_a q ≡ true = eq-eqb (q % 2) 0 (even d) in
      record { turns = ap₂ (λ i j. in_turn i j (lt_z (pos 0) (cross (way_of a b home h) (way_of a b home q)))) s t }
    where
      even : (h % 2 ≡ q % 2 → ⊥) → q % 2 ≡ 0
      even n = omega arith

  pub unlike_later : (h % 2 ≡ q % 2 → ⊥) → (h % 2 ≡ 1 → ⊥) → Before a b home q h
  unlike_later d e =
      let s : is_a q ≡ false = ne_eqb (q % 2) 0 (odd d e) in
      let t : is_a h ≡ true = eq-eqb (h % 2) 0 (even e) in
      record { turns = ap₂ (λ i j. in_turn i j (lt_z (pos 0) (cross (way_of a b home q) (way_of a b home h)))) s t }
    where
      even : (h % 2 ≡ 1 → ⊥) → h % 2 ≡ 0
      even n = omega arith

      odd : (h % 2 ≡ q % 2 → ⊥) → (h % 2 ≡ 1 → ⊥) → q % 2 ≡ 0 → ⊥
      odd n m z = omega arith

  like : (s t r : Bool) → s ≡ t → r ≡ true → in_turn s t r ≡ true
  like true true r q e = e
  like true false r q e = absurd (true≢false refl q)
  like false true r q e = refl
  like false false r q e = e

  sorts : h % 2 ≡ q % 2 → is_a h ≡ is_a q
  sorts e = ap (λ x. eqb x 0) e

  module _ (product : ℤ) (is : product ≡ cross (way_of a b home h) (way_of a b home q)) (e : h % 2 ≡ q % 2) where
    pub like_level : nat_abs product ≤ product_bound → of_z w64 product ≡ 0 → Parallel a b home h q
    like_level small z = record {
      sort = sorts e;
      flat = sym is ∙ sgn_zer product (eq_s_eq (true_is (sym (eq0_sgn product (fits64 product (omega (arith, small)))) ∙ eq-eqb _ 0 z)));
    }

    -- the code reads the product from its bits
    signed : nat_abs product ≤ product_bound → lt_z (pos 0) (Z product) ≡ lt_z (pos 0) product
    signed small = ap (lt_z (pos 0)) (same64 product (omega (arith, small)))

    pub like_earlier : nat_abs product ≤ product_bound → lt_z (pos 0) (Z product) ≡ true → Before a b home h q
    like_earlier small t = record {
      turns = like (is_a h) (is_a q) _ (sorts e) (ap (lt_z (pos 0)) (sym is) ∙ sym (signed small) ∙ t);
    }

    pub like_later : nat_abs product ≤ product_bound → (of_z w64 product ≡ 0 → ⊥) → lt_z (pos 0) (Z product) ≡ false → Before a b home q h
    like_later small z t = record {
      turns = like (is_a q) (is_a h) _ (sym (sorts e)) (gt_z_sgn (cross (way_of a b home q) (way_of a b home h))
          ∙ ap (λ s. eq_s s pls) (ap sgn (cross_anti (way_of a b home h) (way_of a b home q)) ∙ sgn_neg (cross (way_of a b home h) (way_of a b home q))
          ∙ ap (λ x. flip (sgn x)) (sym is))
          ∙ by (sgn product) (sym (eq0_sgn product (fits64 product (omega (arith, small)))) ∙ ne_eqb _ 0 z) (sym (gt_z_sgn product) ∙ sym (signed small) ∙ t));
    }
      where
        by : (s : Sgn) → eq_s s zer ≡ false → eq_s s pls ≡ false → eq_s (flip s) pls ≡ true
        by mns p r = refl
        by zer p r = absurd (true≢false refl p)
        by pls p r = absurd (true≢false refl r)

-- the far end's point lies within the bounds
pub far_grid : (a b : ℕ → Point) (h n : ℕ) → ((k : ℕ) → k < n → OnGrid (a k)) → ((k : ℕ) → k < n → OnGrid (b k)) → link_of h < n
    → OnGrid (far_point a b h)
far_grid a b h n p r l = pick_ind (is_a h) (b (link_of h)) (a (link_of h)) OnGrid (λ _. r (link_of h) l) (λ _. p (link_of h) l)
