-- `answer_read::answer_fronts` meets its contract: the lists cut to the graph, whose states come back in front of the others.
use Prim.Native.Nat.{ℕ}
use mathlib.Core.Path.{ap}
use mathlib.Core.List.{List, ◌++◌}
use lib.ListN.{drop}
use Rattle.answer_read.proofs.answer_fronts.Goals as goal

pub returns : goal.returns
returns c =
    let w = c.answer_graph.ensures in
    (w.0, ap (λ (l : List ℕ). l ++ drop c.args.counts.links c.args.state.now) w.1)
