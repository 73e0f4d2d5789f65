-- `next_visit`: position by position, as `Searched` says.
use native.Mathlib.Omega.{arith}
use mathlib.Core.Path.{◌≡◌, sym, ◌∙◌}
use Rattle.anchor.specs.AnchorPositions.{search_start, search_more, search_here, search_end}
use Rattle.anchor.proofs.next_visit.Goals as goal

pub loop-q-init : goal.loop-q-init
loop-q-init c = search_start c.args.points.now c.args.at c.args.p c.args.to c.requires.0

pub loop-q-preserved : goal.loop-q-preserved
loop-q-preserved c =
    let a = c.args in
    search_more a.points.now a.at a.p a.to _ _ c.loop-q.invariant c.loop-q-test.true
    c.point_in.ensures (sym c.differ.ensures ∙ c.if-not-differ.false)

pub returns-then-not-differ : goal.returns-then-not-differ
returns-then-not-differ c =
    let a = c.args in
    search_here a.points.now a.at a.p a.to _ _ c.loop-q.invariant c.point_in.ensures
    (sym c.differ.ensures ∙ c.if-not-differ.true)

pub returns : goal.returns
returns c =
    let a = c.args in
    let e : c.loop-q.q ≡ a.to = omega arith in
    rw e at (search_end a.points.now a.at a.p a.to _ c.loop-q.invariant c.loop-q-test.false)
