-- `hoop::compare` meets its contract: by the ends' sorts, and where they are of one sort by the cross product.
use mathlib.Core.Path.{◌≡◌, ap, ap₂, ◌∙◌}
use Rattle.turn.specs.Points.{from_to, cross}
use Rattle.turn.specs.declared.Point.{Point}
use Rattle.graph.specs.Graph.{point_at}
use Prim.Native.Nat.{ℕ}
use Rattle.hoop.specs.Hoops.{far_point, way_of}
use Rattle.hoop.proofs.Ways.{unlike_earlier, unlike_later, like_level, like_earlier, like_later, far_grid}
use Rattle.hoop.proofs.compare.Goals as goal

pub returns-then-h-eq1 : goal.returns-then-h-eq1
returns-then-h-eq1 c =
    let a : ℕ → Point = point_at c.args.ax.now c.args.ay.now in
    let b : ℕ → Point = point_at c.args.bx.now c.args.by.now in
    let s = c in unlike_earlier a b _ _ _ c.if-h-q.true c.if-h-eq1.true

pub returns-then-h-q : goal.returns-then-h-q
returns-then-h-q c =
    let a : ℕ → Point = point_at c.args.ax.now c.args.ay.now in
    let b : ℕ → Point = point_at c.args.bx.now c.args.by.now in
    let s = c in unlike_later a b _ _ _ c.if-h-q.true c.if-h-eq1.false

pub far_point-requires : goal.far_point-requires
far_point-requires c = (c.requires.points, c.requires.h_in_bounds.0)

pub between-requires : goal.between-requires
between-requires c =
    let a : ℕ → Point = point_at c.args.ax.now c.args.ay.now in
    let b : ℕ → Point = point_at c.args.bx.now c.args.by.now in
    let s = c in
    (s.requires.h_in_bounds.1, rw c.far_point.ensures (far_grid a b _ _ s.requires.grids.a_grid s.requires.grids.b_grid s.requires.h_in_bounds.0))

pub cross_product-turn-requires : goal.cross_product-turn-requires
cross_product-turn-requires c = (c.between.ensures.1, c.requires.h_in_bounds.2)

pub returns-then-turn-eq0 : goal.returns-then-turn-eq0
returns-then-turn-eq0 c =
    let a : ℕ → Point = point_at c.args.ax.now c.args.ay.now in
    let b : ℕ → Point = point_at c.args.bx.now c.args.by.now in
    let product_is : let s = c in c.cross_product-turn.result ≡ cross (way_of a b s.args.home s.args.h) (way_of a b s.args.home s.args.q) = let s = c in
    c.cross_product-turn.ensures.0
    ∙ ap₂ cross (c.between.ensures.0
    ∙ ap (from_to s.args.home) {y = far_point a b s.args.h} c.far_point.ensures) s.requires.way_value in
    let d = c in let s = c in
    like_level a b _ _ _ d.cross_product-turn.result product_is d.if-h-q.false d.cross_product-turn.ensures.1 c.if-turn-eq0.true

pub returns-then-turn-gt0 : goal.returns-then-turn-gt0
returns-then-turn-gt0 c =
    let a : ℕ → Point = point_at c.args.ax.now c.args.ay.now in
    let b : ℕ → Point = point_at c.args.bx.now c.args.by.now in
    let product_is : let s = c in c.cross_product-turn.result ≡ cross (way_of a b s.args.home s.args.h) (way_of a b s.args.home s.args.q) = let s = c in
    c.cross_product-turn.ensures.0
    ∙ ap₂ cross (c.between.ensures.0
    ∙ ap (from_to s.args.home) {y = far_point a b s.args.h} c.far_point.ensures) s.requires.way_value in
    let d = c in let s = c in
    like_earlier a b _ _ _ d.cross_product-turn.result product_is d.if-h-q.false d.cross_product-turn.ensures.1
    c.if-turn-gt0.true

pub returns : goal.returns
returns c =
    let a : ℕ → Point = point_at c.args.ax.now c.args.ay.now in
    let b : ℕ → Point = point_at c.args.bx.now c.args.by.now in
    let product_is : let s = c in c.cross_product-turn.result ≡ cross (way_of a b s.args.home s.args.h) (way_of a b s.args.home s.args.q) = let s = c in
    c.cross_product-turn.ensures.0
    ∙ ap₂ cross (c.between.ensures.0
    ∙ ap (from_to s.args.home) {y = far_point a b s.args.h} c.far_point.ensures) s.requires.way_value in
    let d = c in let s = c in
    like_later a b _ _ _ d.cross_product-turn.result product_is d.if-h-q.false d.cross_product-turn.ensures.1
    c.if-turn-eq0.false c.if-turn-gt0.false
