-- `pairs::set_lead` meets its contract: by the flag.
use mathlib.Core.Path.{sym}
use Rattle.laws.specs.Test.{pick_true, pick_false}
use Rattle.pairs.proofs.set_lead.Goals as goal

pub returns-then-first : goal.returns-then-first
returns-then-first c = sym (pick_true _ _ c.if-first.true)

pub returns : goal.returns
returns c = sym (pick_false _ _ c.if-first.false)
