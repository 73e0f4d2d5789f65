-- `next::only_unvisited` meets its contract: the state that it reads is the one that the rule tests.
use Rattle.next.specs.States.{read_unvisited, read_shut}
use Rattle.next.proofs.only_unvisited.Goals as goal

pub returns-then-state-k-eq0 : goal.returns-then-state-k-eq0
returns-then-state-k-eq0 c = let s = c in rw (read_unvisited s.args.state.now s.args.k s.requires c.if-state-k-eq0.true)

pub returns : goal.returns
returns c = let s = c in rw (read_shut s.args.state.now s.args.k s.requires c.if-state-k-eq0.false)
