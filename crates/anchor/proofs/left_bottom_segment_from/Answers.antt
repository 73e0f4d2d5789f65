-- `left_bottom_segment_from`: the lowest so far, visit by visit, as `UpTo` says.
use Prim.Native.Nat.{◌+◌, ◌-◌}
use mathlib.Core.Path.{ap, ◌∙◌}
use native.Mathlib.Omega.{arith}
use Rattle.table.specs.Table.{point_in}
use Rattle.table.specs.TableLaws.{grid_read}
use Rattle.anchor.specs.AnchorPositions.{anchor_high, lowest_on_grid, first_visit, further_visit, edge_is}
use Rattle.anchor.proofs.left_bottom_segment_from.Goals as goal

pub overflow_add-to : goal.overflow_add-to
overflow_add-to c = omega (arith, c.requires, c.well_formed)

pub anchor_point-at-requires : goal.anchor_point-at-requires
anchor_point-at-requires c = omega (arith, c.requires)

pub anchor_position-requires : goal.anchor_position-requires
anchor_position-requires c = let s = c in omega (arith, s.requires, s.well_formed)

pub overflow_add-anchor_position : goal.overflow_add-anchor_position
overflow_add-anchor_position c = let s = c in omega (arith, c.anchor_position.ensures, anchor_high s.args.from s.args.clockwise, s.requires, s.well_formed)

pub point_in-best-requires : goal.point_in-best-requires
point_in-best-requires c =
    let s = c in omega (arith, c.anchor_position.ensures, anchor_high s.args.from s.args.clockwise, s.requires)

pub next_visit-p-requires : goal.next_visit-p-requires
next_visit-p-requires c = (omega arith, c.requires.1)

pub loop-p-init : goal.loop-p-init
loop-p-init c =
    let a = c.args in
    first_visit a.points.now a.from (a.from + a.len) _ _ _ c.next_visit-p.ensures

pub lowest_there-best-requires : goal.lowest_there-best-requires
lowest_there-best-requires c =
    let s = c in
    let a = s.args in
    let l = c.loop-p in
    let h = anchor_high a.from a.clockwise in (
      omega (arith, l.invariant.low),
      omega (arith, l.invariant.low, c.loop-p-test.true),
      s.requires.1,
      s.requires.2,
      grid_read a.points.now _ _ c.anchor_point-at.ensures s.requires.2 (omega (arith, s.requires)),
      lowest_on_grid a.points.now a.from (a.from + a.len) _ _ l.best (l.p - a.from) l.invariant.is s.requires.2 s.requires.1
          (omega (arith, l.invariant.low, l.invariant.high))
          (grid_read a.points.now _ _ c.point_in-best.ensures s.requires.2
          (omega (arith, c.anchor_position.ensures, s.requires))),
    )

pub overflow_add-p : goal.overflow_add-p
overflow_add-p c =
    let s = c in omega (arith, c.loop-p-test.true, s.requires, s.well_formed)

pub next_visit-p-requires-in-loop-p : goal.next_visit-p-requires-in-loop-p
next_visit-p-requires-in-loop-p c = (omega (arith, c.loop-p-test.true), c.requires.1)

pub loop-p-smaller : goal.loop-p-smaller
loop-p-smaller c = omega (arith, c.loop-p-test.true, c.next_visit-p-in-loop-p.ensures.searched.low)

pub loop-p-preserved : goal.loop-p-preserved
loop-p-preserved c =
    let a = c.args in
    let l = c.loop-p in
    further_visit a.points.now a.from (a.from + a.len) _ _ l.best _ l.p _ l.invariant c.loop-p-test.true
    c.lowest_there-best.ensures c.next_visit-p-in-loop-p.ensures

pub returns : goal.returns
returns c =
    let s = c in
    let a = s.args in
    let l = c.loop-p in
    edge_is a.points.now a.from a.len a.clockwise s.requires.0 _ _ l.best l.p
    c.anchor_point-at.ensures
    (c.point_in-best.ensures ∙ ap (λ x. point_in a.points.now (x + 1)) c.anchor_position.ensures)
    l.invariant c.loop-p-test.false
