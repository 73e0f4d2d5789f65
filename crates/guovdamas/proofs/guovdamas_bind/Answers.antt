-- `guovdamas::guovdamas_bind` meets its contract: what `bind::bind` promises, by numbers.
use Rattle.guovdamas.proofs.Numbered.{binding_numbered}
use Rattle.guovdamas.proofs.guovdamas_bind.Goals as goal

pub returns : goal.returns
returns c = binding_numbered (c.into.ensures c.bind-answer.ensures.place_fits) c.bind-answer.ensures.bind_says
