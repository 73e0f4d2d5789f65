-- `format_lists::fill_nodes` meets its contract.
use Rattle.format_lists.proofs.Nodes.{Noding}
use Rattle.format_lists.proofs.fill_nodes.Given as goal

abbrev pub invariant-loop-first : goal.invariant-loop-first
invariant-loop-first l = Noding l.s l.from l.m l.initial.list l.first-items l.list l.at l.e l.first-index
