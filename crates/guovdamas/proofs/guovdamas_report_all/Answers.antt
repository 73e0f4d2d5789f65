-- `guovdamas::guovdamas_report_all` meets its contract: what `report_all::report_all` promises, by numbers.
use Rattle.guovdamas.proofs.Numbered.{reports_numbered}
use Rattle.guovdamas.proofs.guovdamas_report_all.Goals as goal

pub returns : goal.returns
returns c = reports_numbered c.into.ensures c.report_all-answer.ensures
