-- `guovdamas::guovdamas_lookup` meets its contract: what `table::lookup` promises, by numbers.
use mathlib.Core.Path.{ap, ◌∙◌}
use Rattle.guovdamas.specs.Numbers.{record_with}
use Rattle.guovdamas.proofs.guovdamas_lookup.Goals as goal

pub returns : goal.returns
returns c = c.into.ensures ∙ ap record_with c.lookup.ensures.1
