-- `graph::end_at` meets its contract: by whether the a end is at node v.
use mathlib.Core.Path.{sym, ◌∙◌}
use borrow.Author.Tests.{eq-eqb, ne_eqb}
use Rattle.laws.specs.Test.{pick_true, pick_false}
use Rattle.graph.proofs.end_at.Goals as goal

pub returns-then-wide-v : goal.returns-then-wide-v
returns-then-wide-v c = c.point_at-a.ensures ∙ sym (pick_true _ _ (eq-eqb _ _ (sym c.wide.ensures ∙ c.if-wide-v.true)))

pub returns : goal.returns
returns c = c.point_at-b.ensures ∙ sym (pick_false _ _ (ne_eqb _ _ (λ e. c.if-wide-v.false (c.wide.ensures ∙ e))))
