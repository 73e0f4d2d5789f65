-- `rings::end_of` meets its contract: the test on a's node tells which end is there.
use mathlib.Core.Path.{sym, ◌∙◌}
use borrow.Author.Tests.{eq-eqb, ne_eqb}
use Rattle.rings.proofs.end_of.Goals as goal

pub returns-then-wide-v : goal.returns-then-wide-v
returns-then-wide-v c = rw (eq-eqb _ _ (sym c.wide.ensures ∙ c.if-wide-v.true))

pub returns-else-wide-v : goal.returns-else-wide-v
returns-else-wide-v c = rw (ne_eqb _ _ (λ e. c.if-wide-v.false (c.wide.ensures ∙ e)))
