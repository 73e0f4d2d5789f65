-- `pairs::like_wrong` meets its contract: by the two tests, of which the second asks for the sign of the cross product.
use Prim.Native.Nat.{ℕ}
use native.Mathlib.Omega.{arith}
use mathlib.Core.Path.{◌≡◌, sym, ap, ap₂, ◌∙◌}
use mathlib.Core.Bool.{Bool, false, not, ◌||◌, ◌&&◌}
use mir.Syntax.{w64}
use mir.Val.{of_z}
use lib.Dec.{eqb}
use lib.IntN.{ℤ}
use lib.ListN.{get_or}
use Rattle.laws.specs.Test.{pick, pick_true, pick_false}
use Rattle.laws.specs.Bounds.{fits64}
use Rattle.laws.specs.Sign.{zer, sgn, eq_s, eq0_sgn}
use Rattle.turn.specs.declared.Point.{Point}
use Rattle.turn.specs.Points.{differ, from_to, cross}
use Rattle.graph.specs.Graph.{point_at}
use Rattle.graph.specs.Checks.{skipped}
use Rattle.pairs.proofs.like_wrong.Goals as goal

pub returns-then-wide-v : goal.returns-then-wide-v
returns-then-wide-v c =
    let p : ℕ → Point = point_at c.args.px.now c.args.py.now in
    let test : Bool = not (eqb (get_or c.args.pid.now c.args.e 0) c.args.v) || eqb c.args.e c.args.f
    || differ (p c.args.e) (p c.args.f) in
    let asked : let x = c.args in not (eqb c.wide.result x.v) || eqb x.e x.f || c.differ.result ≡ test = let x = c.args in
    ap₂ (λ (n : ℕ) (t : Bool). not (eqb n x.v) || eqb x.e x.f || t) c.wide.ensures
    (c.differ.ensures ∙ ap₂ differ c.point_at-p.ensures c.point_at-r.ensures) in
    sym (pick_true _ _ (sym asked ∙ c.if-wide-v.true))

pub between-requires : goal.between-requires
between-requires c =
    let d = c in
    let s = c in (
      rw d.point_at-p.ensures (s.requires.grids.a_grid s.args.e s.requires.e_in_bounds.0),
      rw c.point_at.ensures (s.requires.grids.b_grid s.args.e s.requires.e_in_bounds.0),
    )

pub point_at-requires-2 : goal.point_at-requires-2
point_at-requires-2 c =
    let r = c.requires in (omega (arith, r.points.bx_long, r.e_in_bounds.1), omega (arith, r.points.by_long, r.e_in_bounds.1))

pub between-requires-2 : goal.between-requires-2
between-requires-2 c =
    let d = c in
    let s = c in (
      rw d.point_at-r.ensures (s.requires.grids.a_grid s.args.f s.requires.e_in_bounds.1),
      rw c.point_at-2.ensures (s.requires.grids.b_grid s.args.f s.requires.e_in_bounds.1),
    )

pub parallel_wrong-requires : goal.parallel_wrong-requires
parallel_wrong-requires c =
    let r = c.requires in (omega (arith, r.state_len, r.e_in_bounds.0), omega (arith, r.state_len, r.e_in_bounds.1))

pub returns : goal.returns
returns c =
    let p : ℕ → Point = point_at c.args.px.now c.args.py.now in
    let test : Bool = not (eqb (get_or c.args.pid.now c.args.e 0) c.args.v) || eqb c.args.e c.args.f
    || differ (p c.args.e) (p c.args.f) in
    let asked : let x = c.args in not (eqb c.wide.result x.v) || eqb x.e x.f || c.differ.result ≡ test = let x = c.args in
    ap₂ (λ (n : ℕ) (t : Bool). not (eqb n x.v) || eqb x.e x.f || t) c.wide.ensures
    (c.differ.ensures ∙ ap₂ differ c.point_at-p.ensures c.point_at-r.ensures) in
    let passed : test ≡ false = sym asked ∙ c.if-wide-v.false in
    let q : ℕ → Point = point_at c.args.qx.now c.args.qy.now in
    let product : ℤ = cross (from_to (p c.args.e) (q c.args.e)) (from_to (p c.args.f) (q c.args.f)) in
    let product_is : c.cross_product-turn.result ≡ product = let d = c in
    c.cross_product-turn.ensures.0 ∙ ap₂ cross
    (c.between.ensures.0 ∙ ap₂ from_to d.point_at-p.ensures
    c.point_at.ensures)
    (c.between-2.ensures.0 ∙ ap₂ from_to d.point_at-r.ensures c.point_at-2.ensures) in
    let parallel : eq_s (sgn product) zer ≡ eqb (of_z w64 c.cross_product-turn.result) 0 = ap (λ (z : ℤ). eq_s (sgn z) zer) (sym product_is)
    ∙ sym (eq0_sgn c.cross_product-turn.result (fits64 c.cross_product-turn.result (omega (arith, c.cross_product-turn.ensures.1)))) in
    let x = c.args in
    c.parallel_wrong.ensures
    ∙ ap (λ (t : Bool). pick t (not (skipped x.state.now x.e) && not (skipped x.state.now x.f)) false) (sym parallel)
    ∙ sym (pick_false _ _ passed)
