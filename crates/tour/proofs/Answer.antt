-- The third demand for extraction itself: a graph that passes the checks and comes by turns, lent with enough room, is
-- answered Ok, and the kept and the rejected total are the total over the links.
use Rattle.std.specs.Prelude.{ℕ, ◌≡◌, Bool, List}
use Rattle.std.proofs.Common.{ap, ◌∙◌}
use Rattle.graph.specs.Graph.{Lent, Graph, graph_of}
use Rattle.graph.specs.Checks.{checked}
use Rattle.keep.specs.Outcome.{counts_of, states_after}
use Rattle.scan.specs.Visits.{scanned}
use Rattle.extraction.specs.Extract.{after_scan, after_checks, extracted}
use Rattle.finish.specs.Finish.{Buffers}
use Rattle.tour.specs.Statement.{ComesByTurns}
use Rattle.tour.proofs.Demand.{third_demand, kept_total}
use Rattle.tour.specs.Answer.{room_in, Answered}
use Rattle.turn.specs.Refusals.{no_fault}

pub answered : (g : Lent) (top : List ℕ) (cw : Bool) (minimum : ℕ) (b : Buffers) → checked g top b.state (room_in b)
    ≡ no_fault → ComesByTurns (graph_of g top) b.state → Answered g top cw minimum b
unfolding extracted
answered g top cw minimum b e t =
    let G : Graph = graph_of g top in
    let d = third_demand g top b.state (room_in b) cw e t in
    record {
      counts = counts_of G minimum d.found;
      done = ap (λ c. (after_checks G cw minimum b c).answer) e ∙ ap (λ s. (after_scan G minimum b s).answer) d.done;
      total = kept_total G cw b.state minimum d;
      walked = (scanned G cw b.state d.found (states_after d.found b.state) d.done).count;
    }
