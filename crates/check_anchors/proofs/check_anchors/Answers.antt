-- `check_anchors`: the loop has passed contours that are right, and knows the last hole.
use mathlib.Core.Path.{sym, ◌∙◌}
use native.Mathlib.Omega.{arith}
use borrow.Author.Count.{below_none, below_more}
use Rattle.turn.specs.Refusals.{tells}
use Rattle.check_anchors.proofs.Answers.{no_hole, hole_next, anchors_bad, anchors_fine}
use Rattle.check_anchors.proofs.check_anchors.Goals as goal

pub loop-c-init : goal.loop-c-init
loop-c-init c = (no_hole _, below_none _)

pub returns-then-anchor_fault : goal.returns-then-anchor_fault
returns-then-anchor_fault c =
    let l = c.loop-c in
    tells (anchors_bad _ c.args.clockwise l.c c.loop-c-test.true l.invariant.1 (sym c.anchor_fault.ensures ∙ c.if-anchor_fault.true))

pub loop-c-preserved : goal.loop-c-preserved
loop-c-preserved c =
    let l = c.loop-c in (
      hole_next _ l.c l.last _ c.hole_up_to-last.ensures l.invariant.0,
      below_more _ _ l.invariant.1 (sym c.anchor_fault.ensures ∙ c.if-anchor_fault.false),
    )

pub returns : goal.returns
returns c = tells (anchors_fine _ c.args.clockwise (λ k m. c.loop-c.invariant.1 k (omega arith)))
