-- `number_hulls`: contour by contour, as `Numbering` says.
use mathlib.Core.Path.{◌∙◌}
use Rattle.owners.proofs.Numbering.{numbering_start, numbering_hull, numbering_hole, numbering_end}
use Rattle.owners.proofs.number_hulls.Goals.{then-k-eq0, else-k-eq0}
use Rattle.owners.proofs.number_hulls.Goals as goal

pub loop-c-init : goal.loop-c-init
loop-c-init c = numbering_start _ _

pub loop-c-preserved : goal.loop-c-preserved
loop-c-preserved c =
    let l = c.loop-c in
    let long = l.auto.own ∙ c.requires.0 in
    elim c.if-k-eq0.branch [
      | then-k-eq0 w ↦ rw (w.own-is, w.shape-is) (numbering_hull _ l.own l.shape l.c l.invariant c.loop-c-test.true long w.if-k-eq0.true)
      | else-k-eq0 w ↦ rw (w.own-is, w.shape-is) (numbering_hole _ l.own l.shape l.c l.invariant c.loop-c-test.true long w.if-k-eq0.false)
    ]

pub returns : goal.returns
returns c = let l = c.loop-c in numbering_end _ l.own l.shape l.c l.invariant c.loop-c-test.false (l.auto.own ∙ c.requires.0)
