-- `hoop::far_point` meets its contract: an a's far end is the link's b.
use mathlib.Core.Path.{sym, ◌∙◌}
use borrow.Author.Tests.{eq-eqb, ne_eqb}
use Rattle.laws.specs.Test.{pick_true, pick_false}
use Rattle.hoop.proofs.far_point.Goals as goal

pub returns-then-h-eq0 : goal.returns-then-h-eq0
returns-then-h-eq0 c = c.point_at.ensures ∙ sym (pick_true _ _ (eq-eqb _ 0 c.if-h-eq0.true))

pub returns-else-h-eq0 : goal.returns-else-h-eq0
returns-else-h-eq0 c = c.point_at-else-h-eq0.ensures ∙ sym (pick_false _ _ (ne_eqb _ 0 c.if-h-eq0.false))
