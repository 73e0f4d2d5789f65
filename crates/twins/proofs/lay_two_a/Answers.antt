-- `twins::lay_two_a` meets its contract: by the two tests, of which the second asks for the sign of the cross product; the sign tells the lead.
use Prim.Native.Nat.{ℕ}
use native.Mathlib.Omega.{arith}
use mathlib.Core.Path.{◌≡◌, refl, sym, ap, ap₂, ◌∙◌}
use mathlib.Core.Bool.{Bool, false, not, ◌||◌, ◌&&◌}
use mir.Syntax.{w64}
use mir.Val.{to_z, of_z}
use lib.Dec.{eqb}
use lib.IntN.{ℤ, pos}
use lib.Signed.{lt_z}
use lib.ListN.{get_or}
use Rattle.laws.specs.Test.{pick, pick_true, pick_false, or_false}
use Rattle.laws.specs.Bounds.{fits64, same64}
use Rattle.laws.specs.Sign.{zer, sgn, eq_s, eq0_sgn}
use Rattle.turn.specs.declared.Point.{Point}
use Rattle.turn.specs.Points.{differ, from_to, cross, clockwise}
use Rattle.graph.specs.Graph.{point_at}
use Rattle.graph.specs.Checks.{skipped}
use Rattle.graph.specs.Quick.{like_wrong}
use Rattle.pairs.specs.Stores.{led}
use Rattle.twins.proofs.Turns.{like_turn}
use Rattle.twins.proofs.lay_two_a.Goals as goal

pub returns-then-wide-v : goal.returns-then-wide-v
returns-then-wide-v c =
    let a : ℕ → Point = point_at c.args.ax.now c.args.ay.now in
    let test : Bool = not (eqb (get_or c.args.aid.now c.args.e 0) c.args.v) || eqb c.args.e c.args.f
    || differ (a c.args.e) (a c.args.f) in
    let asked : let x = c.args in not (eqb c.wide.result x.v) || eqb x.e x.f || c.differ.result ≡ test = let x = c.args in
    ap₂ (λ (n : ℕ) (t : Bool). not (eqb n x.v) || eqb x.e x.f || t) c.wide.ensures
    (c.differ.ensures ∙ ap₂ differ c.point_at-p.ensures c.point_at-r.ensures) in
    (sym (pick_true _ _ (sym asked ∙ c.if-wide-v.true)), (refl, refl))

pub between-requires : goal.between-requires
between-requires c =
    let d = c in
    let s = c in (
      rw d.point_at-p.ensures (s.requires.grids.a_grid s.args.e s.requires.e_in_bounds.0),
      rw c.point_at.ensures (s.requires.grids.b_grid s.args.e s.requires.e_in_bounds.0),
    )

pub point_at-requires-2 : goal.point_at-requires-2
point_at-requires-2 c =
    let r = c.requires in (omega (arith, r.points.bx_long, r.e_in_bounds.1), omega (arith, r.points.by_long, r.e_in_bounds.1))

pub between-requires-2 : goal.between-requires-2
between-requires-2 c =
    let d = c in
    let s = c in (
      rw d.point_at-r.ensures (s.requires.grids.a_grid s.args.f s.requires.e_in_bounds.1),
      rw c.point_at-2.ensures (s.requires.grids.b_grid s.args.f s.requires.e_in_bounds.1),
    )

pub parallel_wrong-requires : goal.parallel_wrong-requires
parallel_wrong-requires c =
    let r = c.requires in (omega (arith, r.state_len, r.e_in_bounds.0), omega (arith, r.state_len, r.e_in_bounds.1))

pub returns-then-parallel_wrong : goal.returns-then-parallel_wrong
returns-then-parallel_wrong c =
    let a : ℕ → Point = point_at c.args.ax.now c.args.ay.now in
    let b : ℕ → Point = point_at c.args.bx.now c.args.by.now in
    let test : Bool = not (eqb (get_or c.args.aid.now c.args.e 0) c.args.v) || eqb c.args.e c.args.f
    || differ (a c.args.e) (a c.args.f) in
    let asked : let x = c.args in not (eqb c.wide.result x.v) || eqb x.e x.f || c.differ.result ≡ test = let x = c.args in
    ap₂ (λ (n : ℕ) (t : Bool). not (eqb n x.v) || eqb x.e x.f || t) c.wide.ensures
    (c.differ.ensures ∙ ap₂ differ c.point_at-p.ensures c.point_at-r.ensures) in
    let passed : test ≡ false = sym asked ∙ c.if-wide-v.false in
    let product : ℤ = cross (from_to (a c.args.e) (b c.args.e)) (from_to (a c.args.f) (b c.args.f)) in
    let product_is : c.cross_product-turn.result ≡ product = let d = c in
    c.cross_product-turn.ensures.0 ∙ ap₂ cross
    (c.between.ensures.0 ∙ ap₂ from_to d.point_at-p.ensures
    c.point_at.ensures)
    (c.between-2.ensures.0 ∙ ap₂ from_to d.point_at-r.ensures c.point_at-2.ensures) in
    let parallel : eq_s (sgn product) zer ≡ eqb (of_z w64 c.cross_product-turn.result) 0 = ap (λ (z : ℤ). eq_s (sgn z) zer) (sym product_is)
    ∙ sym (eq0_sgn c.cross_product-turn.result (fits64 c.cross_product-turn.result (omega (arith, c.cross_product-turn.ensures.1)))) in
    let wrong : let s = c in c.parallel_wrong.result ≡ like_wrong s.args.aid.now a b s.args.state.now s.args.v s.args.e s.args.f = let x = c.args in
    c.parallel_wrong.ensures
    ∙ ap (λ (t : Bool). pick t (not (skipped x.state.now x.e) && not (skipped x.state.now x.f)) false) (sym parallel)
    ∙ sym (pick_false _ _ passed) in
    (sym c.if-parallel_wrong.true ∙ wrong, (refl, refl))

pub returns : goal.returns
returns c =
    let a : ℕ → Point = point_at c.args.ax.now c.args.ay.now in
    let b : ℕ → Point = point_at c.args.bx.now c.args.by.now in
    let test : Bool = not (eqb (get_or c.args.aid.now c.args.e 0) c.args.v) || eqb c.args.e c.args.f
    || differ (a c.args.e) (a c.args.f) in
    let asked : let x = c.args in not (eqb c.wide.result x.v) || eqb x.e x.f || c.differ.result ≡ test = let x = c.args in
    ap₂ (λ (n : ℕ) (t : Bool). not (eqb n x.v) || eqb x.e x.f || t) c.wide.ensures
    (c.differ.ensures ∙ ap₂ differ c.point_at-p.ensures c.point_at-r.ensures) in
    let passed : test ≡ false = sym asked ∙ c.if-wide-v.false in
    let product : ℤ = cross (from_to (a c.args.e) (b c.args.e)) (from_to (a c.args.f) (b c.args.f)) in
    let product_is : c.cross_product-turn.result ≡ product = let d = c in
    c.cross_product-turn.ensures.0 ∙ ap₂ cross
    (c.between.ensures.0 ∙ ap₂ from_to d.point_at-p.ensures
    c.point_at.ensures)
    (c.between-2.ensures.0 ∙ ap₂ from_to d.point_at-r.ensures c.point_at-2.ensures) in
    let parallel : eq_s (sgn product) zer ≡ eqb (of_z w64 c.cross_product-turn.result) 0 = ap (λ (z : ℤ). eq_s (sgn z) zer) (sym product_is)
    ∙ sym (eq0_sgn c.cross_product-turn.result (fits64 c.cross_product-turn.result (omega (arith, c.cross_product-turn.ensures.1)))) in
    let wrong : let s = c in c.parallel_wrong.result ≡ like_wrong s.args.aid.now a b s.args.state.now s.args.v s.args.e s.args.f = let x = c.args in
    c.parallel_wrong.ensures
    ∙ ap (λ (t : Bool). pick t (not (skipped x.state.now x.e) && not (skipped x.state.now x.f)) false) (sym parallel)
    ∙ sym (pick_false _ _ passed) in
    let turned : let s = c in lt_z (to_z w64 (of_z w64 c.cross_product-turn.result)) (pos 0) ≡ clockwise (a s.args.e) (b s.args.e) (b s.args.f) = let s = c in
    ap (λ (z : ℤ). lt_z z (pos 0)) (same64 c.cross_product-turn.result (omega (arith, c.cross_product-turn.ensures.1)) ∙ product_is)
    ∙ like_turn (a s.args.e) (a s.args.f) (b s.args.e) (b s.args.f)
    (or_false (not (eqb (get_or s.args.aid.now s.args.e 0) s.args.v) || eqb s.args.e s.args.f) _ passed).1 in
    let l = c in
    let t = c in
    let s = c in (
      sym t.if-parallel_wrong.false ∙ wrong,
      (
        c.lay_pair.ensures,
        l.set_lead.ensures ∙ ap (λ (first : Bool). led first s.args.lead.now s.args.e s.args.f) turned,
      ),
    )
