-- `topmost::unvisited_or` meets its contract: the state that it reads is the one that the rule tests.
use Rattle.topmost.proofs.Climbing.{or_hit, or_miss}
use Rattle.topmost.proofs.unvisited_or.Goals as goal

pub returns-then-state-x-eq0 : goal.returns-then-state-x-eq0
returns-then-state-x-eq0 c = let s = c in or_hit s.args.state.now s.args.x s.args.s s.requires c.if-state-x-eq0.true

pub returns-else-state-x-eq0 : goal.returns-else-state-x-eq0
returns-else-state-x-eq0 c = let s = c in or_miss s.args.state.now s.args.x s.args.s s.requires c.if-state-x-eq0.false
