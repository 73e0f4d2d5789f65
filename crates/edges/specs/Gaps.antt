-- Gaps and slopes are fractions with a denominator above 0, compared by cross products: that is the comparison of the
-- exact fractions, and it stays within 64 signed bits.
use Rattle.std.specs.Prelude.{◌≤◌, ◌<◌, ◌≡◌, Bool, [], ◌∷◌, ℤ, pos, nat_abs, ◌+ℤ◌, ◌-ℤ◌, ◌*ℤ◌, ◌<ℤ◌}
use Rattle.std.proofs.Common.{sym, ap, ap₂, ◌∙◌, arith}
use Rattle.laws.specs.Test.{Is}
use Rattle.laws.specs.Ring.{ring, var, ◌:+◌, ◌:-◌, ◌:*◌}
use Rattle.laws.specs.Sign.{sgn, plus_ok, three, sgn_mul}
use Rattle.laws.specs.Order.{<-sgn, mul_pos}
use Rattle.laws.specs.Bounds.{mul_below}
use Rattle.laws.specs.Compare.{lower, by_sign, lower_sign}
use Rattle.turn.specs.Points.{product_bound, span}
use Rattle.anchor.specs.declared.Anchor.{Anchor}
use Rattle.edges.specs.declared.Edge.{Edge}
use Rattle.edges.specs.Edges.{run, rise, height, gap_bound}

-- ---- what a height is: run times the distance from the edge's line, at the anchor's x, up to the anchor.
-- At that x the line has the height left y + rise · (x - left x) / run.
pub height_is : (a : Anchor) (e : Edge) → height a e ≡ run e *ℤ a.at.y -ℤ (run e *ℤ e.left.y +ℤ rise e *ℤ (a.at.x -ℤ e.left.x))
height_is a e =
    ring (e.left.x ∷ e.left.y ∷ e.right.x ∷ e.right.y ∷ a.at.x ∷ a.at.y ∷ [])
    ((var 2 :- var 0) :* (var 5 :- var 1) :- (var 3 :- var 1) :* (var 4 :- var 0))
    ((var 2 :- var 0) :* var 5 :- ((var 2 :- var 0) :* var 1 :+ (var 3 :- var 1) :* (var 4 :- var 0))) tt

-- ---- the comparison by cross products is that of the exact fractions
-- The fractions n / d and m / e, d and e above 0, over one denominator w above 0 are p / w and q / w: then n·e against m·d compares as p against q.
module _ (n d m e p q w : ℤ) (hd : pos 0 <ℤ d) (he : pos 0 <ℤ e) (hw : pos 0 <ℤ w) (np : p *ℤ d ≡ n *ℤ w) (mq : q *ℤ e ≡ m *ℤ w) where
  cross : w *ℤ (n *ℤ e -ℤ m *ℤ d) ≡ (d *ℤ e) *ℤ (p -ℤ q)
  cross =
      ring (n ∷ d ∷ m ∷ e ∷ w ∷ []) (var 4 :* (var 0 :* var 3 :- var 2 :* var 1)) ((var 0 :* var 4) :* var 3 :- (var 2 :* var 4) :* var 1) tt
      ∙ ap₂ (λ x y. x *ℤ e -ℤ y *ℤ d) (sym np) (sym mq)
      ∙ ring (p ∷ q ∷ d ∷ e ∷ []) ((var 0 :* var 2) :* var 3 :- (var 1 :* var 3) :* var 2) ((var 2 :* var 3) :* (var 0 :- var 1)) tt

  scaled_sign : (c x : ℤ) → pos 0 <ℤ c → sgn (c *ℤ x) ≡ sgn x
  scaled_sign c x h = rw (sgn_mul c x, <-sgn c h)

  pub exact : (r : Bool) → lower (n *ℤ e) (m *ℤ d) r ≡ lower p q r
  exact r =
      lower_sign (n *ℤ e) (m *ℤ d) r
      ∙ ap (λ s. by_sign s r) (sym (scaled_sign w (n *ℤ e -ℤ m *ℤ d) hw) ∙ ap sgn cross ∙ scaled_sign (d *ℤ e) (p -ℤ q) (mul_pos hd he))
      ∙ sym (lower_sign p q r)

-- ---- it stays within 64 signed bits: a height times a run, and so a rise times a run
pub gap_fits : (h w : ℤ) → nat_abs h ≤ product_bound → nat_abs w ≤ span → nat_abs (h *ℤ w) ≤ gap_bound
gap_fits h w = mul_below h w product_bound span

pub in_64_bits : gap_bound < 9223372036854775808
in_64_bits = omega arith

-- ---- comparisons of fractions add up: the least first, and the greatest first
module _ (n1 d1 n2 d2 n3 d3 : ℤ) (h1 : pos 0 <ℤ d1) (h2 : pos 0 <ℤ d2) (h3 : pos 0 <ℤ d3) where
  pub rising : Is (plus_ok (sgn (n1 *ℤ d2 -ℤ n2 *ℤ d1)) (sgn (n2 *ℤ d3 -ℤ n3 *ℤ d2)) (sgn (n1 *ℤ d3 -ℤ n3 *ℤ d1)))
  rising =
      rw (<-sgn d1 h1, <-sgn d2 h2, <-sgn d3 h3) at
      (three d2 (n1 *ℤ d3 -ℤ n3 *ℤ d1) d3 (n1 *ℤ d2 -ℤ n2 *ℤ d1) d1 (n2 *ℤ d3 -ℤ n3 *ℤ d2)
      (ring (n1 ∷ d1 ∷ n2 ∷ d2 ∷ n3 ∷ d3 ∷ [])
      (var 3 :* (var 0 :* var 5 :- var 4 :* var 1))
      (var 5 :* (var 0 :* var 3 :- var 2 :* var 1) :+ var 1 :* (var 2 :* var 5 :- var 4 :* var 3)) tt))

  pub falling : Is (plus_ok (sgn (n2 *ℤ d1 -ℤ n1 *ℤ d2)) (sgn (n3 *ℤ d2 -ℤ n2 *ℤ d3)) (sgn (n3 *ℤ d1 -ℤ n1 *ℤ d3)))
  falling =
      rw (<-sgn d1 h1, <-sgn d2 h2, <-sgn d3 h3) at
      (three d2 (n3 *ℤ d1 -ℤ n1 *ℤ d3) d3 (n2 *ℤ d1 -ℤ n1 *ℤ d2) d1 (n3 *ℤ d2 -ℤ n2 *ℤ d3)
      (ring (n1 ∷ d1 ∷ n2 ∷ d2 ∷ n3 ∷ d3 ∷ [])
      (var 3 :* (var 4 :* var 1 :- var 0 :* var 5))
      (var 5 :* (var 2 :* var 1 :- var 0 :* var 3) :+ var 1 :* (var 4 :* var 3 :- var 2 :* var 5)) tt))
