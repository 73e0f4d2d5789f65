-- `guovdamas::guovdamas_report` meets its contract: what `report::report` promises, by numbers.
use mathlib.Core.Path.{ap, ◌∙◌}
use Rattle.guovdamas.specs.Numbers.{report_with}
use Rattle.guovdamas.proofs.guovdamas_report.Goals as goal

pub returns : goal.returns
returns c = c.into.ensures ∙ ap report_with (c.values_of.ensures ∙ c.report.ensures.1)
