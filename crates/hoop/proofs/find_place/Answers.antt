-- `hoop::find_place` meets its contract: from the last end backward, as `Search` says.
use native.Mathlib.Omega.{arith}
use Prim.Native.Nat.{ℕ, ◌+◌, ◌-◌, ◌*◌, ◌<◌}
use mathlib.Core.Path.{◌≡◌, refl, ap, ◌∙◌}
use lib.ListN.{length}
use Rattle.turn.specs.declared.Point.{Point}
use Rattle.turn.specs.Points.{from_to}
use Rattle.graph.specs.Graph.{point_at}
use Rattle.rings.specs.Ends.{link_below}
use Rattle.hoop.specs.Hoops.{far_point}
use Rattle.hoop.proofs.Ways.{far_grid}
use Rattle.hoop.proofs.Search.{search_start, search_end, search_after, search_alike, search_on, search_below}
use Rattle.hoop.proofs.find_place.Goals as goal

pub between-way-requires : goal.between-way-requires
between-way-requires c =
    let a : ℕ → Point = point_at c.args.ax.now c.args.ay.now in
    let b : ℕ → Point = point_at c.args.bx.now c.args.by.now in
    let s = c in (
      s.requires.q_in_bounds.1,
      rw c.far_point.ensures (far_grid a b _ _ s.requires.grids.a_grid s.requires.grids.b_grid s.requires.q_in_bounds.0),
    )

pub loop-init : goal.loop-init
loop-init c =
    let e : c.args.hoop.count - 0 ≡ c.args.hoop.count = omega arith in
    rw e search_start

pub compare-requires : goal.compare-requires
compare-requires c =
    let a : ℕ → Point = point_at c.args.ax.now c.args.ay.now in
    let b : ℕ → Point = point_at c.args.bx.now c.args.by.now in
    let below : c.loop.at < 2 * length c.args.ax.now = let s = c in search_below c.loop.invariant (omega arith) _ s.args.hoop refl refl
    s.requires.sought in
    let s = c in
    let w = c.between-way.ensures in record {
      points = s.requires.points;
      grids = s.requires.grids;
      h_in_bounds = (link_below _ _ below, s.requires.q_in_bounds.1, w.1);
      way_value = w.0 ∙ ap (from_to s.args.home) {y = far_point a b s.args.q} c.far_point.ensures;
    }

pub returns-in-Less : goal.returns-in-Less
returns-in-Less c =
    let d = c in
    search_after d.loop.invariant (omega arith) c.in-Less.ensures

pub returns-in-Equal : goal.returns-in-Equal
returns-in-Equal c =
    let d = c in
    search_alike d.loop.invariant (omega arith) c.in-Equal.ensures

pub offset_bounds-prv-at : goal.offset_bounds-prv-at
offset_bounds-prv-at c =
    let below : c.loop.at < 2 * length c.args.ax.now = let s = c in search_below c.loop.invariant (omega arith) _ s.args.hoop refl refl
    s.requires.sought in
    omega (arith, below, c.requires.sought.few)

pub bounds-prv-at : goal.bounds-prv-at
bounds-prv-at c =
    let below : c.loop.at < 2 * length c.args.ax.now = let s = c in search_below c.loop.invariant (omega arith) _ s.args.hoop refl refl
    s.requires.sought in
    omega (arith, below, c.requires.sought.long)

pub loop-preserved : goal.loop-preserved
loop-preserved c =
    let e : c.args.hoop.count - (c.loop.counter + 1) ≡ c.args.hoop.count - c.loop.counter - 1 = omega arith in
    rw e (search_on c.loop.invariant (omega arith) c.in-Greater.ensures c.wide-at.result c.wide-at.ensures)

pub returns : goal.returns
returns c = search_end c.loop.invariant (omega arith)
