-- `gather_holes`: contour by contour, as `Gathering` says.
use native.Mathlib.Omega.{arith}
use Prim.Native.Nat.{◌≤◌, ◌<◌}
use lib.ListN.{length}
use Rattle.table.specs.Table.{Table, table_of, max_contours}
use Rattle.table.specs.Passing.{contours_few}
use Rattle.order.proofs.Gathers.{gather_room, gather_start, gather_skip, gather_more}
use Rattle.order.proofs.gather_holes.Goals.{then-contours-c-eq1, else-contours-c-eq1}
use Rattle.order.proofs.gather_holes.Goals as goal

pub loop-c-init : goal.loop-c-init
loop-c-init c = gather_start _ _ _ _

pub overflow_cast-who : goal.overflow_cast-who
overflow_cast-who c =
    let t : Table = table_of c.args.contours in
    let room : length c.args.contours.first.now ≤ max_contours = contours_few t c.requires.sound in
    let few : c.loop-c.c < max_contours = omega (arith, room) in
    let s = c in
    omega (arith, few)

pub bounds-who-m : goal.bounds-who-m
bounds-who-m c =
    let t : Table = table_of c.args.contours in
    let room : length c.args.contours.first.now ≤ max_contours = contours_few t c.requires.sound in
    let few : c.loop-c.c < max_contours = omega (arith, room) in
    let s = c in
    omega (
      arith,
      few,
      c.loop-c.invariant.few,
      c.loop-c.invariant.into.who_kept.len,
      s.requires.room.0,
    )

pub bounds-anchors-m : goal.bounds-anchors-m
bounds-anchors-m c =
    let t : Table = table_of c.args.contours in
    let room : length c.args.contours.first.now ≤ max_contours = contours_few t c.requires.sound in
    let s = c in
    gather_room t _ _ _ _ _ _ _ c.loop-c.invariant c.loop-c-test.true (omega (arith, room, s.requires.room.1))

pub offset_bounds-anchors-m : goal.offset_bounds-anchors-m
offset_bounds-anchors-m c =
    let t : Table = table_of c.args.contours in
    let room : length c.args.contours.first.now ≤ max_contours = contours_few t c.requires.sound in
    let few : c.loop-c.c < max_contours = omega (arith, room) in
    omega (arith, few, c.loop-c.invariant.few)

pub loop-c-preserved : goal.loop-c-preserved
loop-c-preserved c =
    let t : Table = table_of c.args.contours in
    let room : length c.args.contours.first.now ≤ max_contours = contours_few t c.requires.sound in
    let s = c in
    let l = c.loop-c in
    elim c.if-contours-c-eq1.branch [
      | then-contours-c-eq1 w ↦ rw (w.who-is, w.anchors-is, w.m-is)
          (gather_more t _ _ _ l.who l.anchors l.m l.c l.invariant c.loop-c-test.true w.if-contours-c-eq1.true _ w.left_bottom_segment_from.ensures
          (omega (arith, room, s.requires.room.0)) (omega (arith, room, s.requires.room.1)))
      | else-contours-c-eq1 w ↦ rw (w.who-is, w.anchors-is, w.m-is)
          (gather_skip t _ _ _ l.who l.anchors l.m l.c l.invariant c.loop-c-test.true w.if-contours-c-eq1.false)
    ]
