-- `insert`: the gap moves down until the hole fits, as `Shifted` says.
use native.Mathlib.Omega.{arith}
use mathlib.Core.Path.{refl, sym}
use Prim.Native.Nat.{◌-◌, ◌<◌}
use lib.ListN.{get_or}
use Rattle.anchor.specs.Anchors.{Anchors, anchors_of, anchor_at, anchors_long, less_room}
use Rattle.order.proofs.Insertions.{shift_more, shift_stop, shift_end, went}
use Rattle.order.proofs.insert.Invariants.{test}
use Rattle.order.proofs.insert.Goals.{else-loop-p-test, then-loop-p-test+then-not-goes_before}
use Rattle.order.proofs.insert.Goals as goal

pub bounds-anchors-j : goal.bounds-anchors-j
bounds-anchors-j c = let s = c in anchors_long s.args.anchors.now _ s.requires.bounded.0.on_grid.room

pub bounds-anchors-d : goal.bounds-anchors-d
bounds-anchors-d c =
    let h : Anchors = anchors_of c.args.anchors.now in
    let earlier : 0 < c.loop-p.p → get_or c.loop-p.ord (c.loop-p.p - 1) 0 < c.args.j = λ t. let i = c.loop-p.invariant in
    rw (i.below (c.loop-p.p - 1) (omega arith)) (c.requires.j_in_bounds.1 (c.loop-p.p - 1) (omega (arith, i.within))) in
    let s = c in let d = earlier c.loop-p-test.true in
    anchors_long s.args.anchors.now _ (less_room h _ s.requires.bounded.0.on_grid.room (omega (arith, d)))

pub goes_before-requires : goal.goes_before-requires
goes_before-requires c =
    let earlier : 0 < c.loop-p.p → get_or c.loop-p.ord (c.loop-p.p - 1) 0 < c.args.j = λ t. let i = c.loop-p.invariant in
    rw (i.below (c.loop-p.p - 1) (omega arith)) (c.requires.j_in_bounds.1 (c.loop-p.p - 1) (omega (arith, i.within))) in
    let s = c in let b = s.requires.bounded.0.on_grid in
    let i = get_or c.loop-p.ord (c.loop-p.p - 1) 0 in
    let d = earlier c.loop-p-test.true in
    rw (← anchor_at s.args.anchors.now s.args.j, ← anchor_at s.args.anchors.now i)
    (b.at s.args.j (omega arith), b.to s.args.j (omega arith), b.at i (omega arith), b.to i (omega arith))

pub loop-p-preserved : goal.loop-p-preserved
loop-p-preserved c =
    let h : Anchors = anchors_of c.args.anchors.now in
    let s = c in
    let l = c.loop-p in
    shift_more (test s.args.who.now h s.args.ord.now s.args.j) _ l.ord _ l.p l.invariant s.requires.j_in_bounds.0
    c.loop-p-test.true
    (went h s.args.who.now s.args.ord.now l.ord s.args.j l.p l.invariant
    c.loop-p-test.true _ _ (sym (anchor_at s.args.anchors.now s.args.j)) (sym (anchor_at s.args.anchors.now (get_or l.ord (l.p - 1) 0)))
    _ c.goes_before.ensures c.if-not-goes_before.false) _ refl

pub returns : goal.returns
returns c =
    let h : Anchors = anchors_of c.args.anchors.now in
    let s = c in
    let l = c.loop-p in
    let t = test s.args.who.now h s.args.ord.now s.args.j in
    elim c.loop-p-test.branch [
      | else-loop-p-test w ↦ shift_end t _ l.ord _ l.p l.invariant s.requires.j_in_bounds.0 _ w.loop-p-test.false
      | then-loop-p-test+then-not-goes_before w ↦ shift_stop t _ l.ord _ l.p l.invariant s.requires.j_in_bounds.0 _ w.loop-p-test.true
          (went h s.args.who.now s.args.ord.now l.ord s.args.j l.p l.invariant w.loop-p-test.true _ _
          (sym (anchor_at s.args.anchors.now s.args.j)) (sym (anchor_at s.args.anchors.now (get_or l.ord (l.p - 1) 0)))
          _ w.goes_before.ensures w.if-not-goes_before.true)
    ]
