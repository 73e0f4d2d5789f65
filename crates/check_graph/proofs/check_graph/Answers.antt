-- `check_graph::check_graph` meets its contract: checks 1 to 4, then those of the nodes.
use mathlib.Core.Path.{◌≡◌, sym, ap, ◌∙◌, subst}
use Rattle.std.proofs.lemmas.Result.{err_from_is_err_and}
use Rattle.turn.specs.Refusals.{followed_by, Checked, no_fault}
use Rattle.graph.specs.Graph.{Lent, lent}
use Rattle.graph.specs.Checks.{links_checked, nodes_checked, checked}
use Rattle.graph.specs.Told.{LinksTold, links_told}
use Rattle.check_graph.specs.Rooms.{room_of}
use Rattle.check_graph.specs.Looks.{Looks}
use Rattle.check_graph.proofs.Verdicts.{not_right}
use Rattle.check_graph.proofs.check_graph.Goals as goal

pub check_nodes-requires : goal.check_nodes-requires
check_nodes-requires c =
    let g : Lent = lent c.args.ax.now c.args.ay.now c.args.bx.now c.args.by.now c.args.aid.now c.args.bid.now c.args.start.now
    c.args.list.now in
    let first : Checked = links_checked g c.args.top.now c.args.state.now (room_of c.args.room) in
    let told : first ≡ no_fault → LinksTold g c.args.state.now = λ e. links_told g c.args.top.now c.args.state.now (room_of c.args.room) e in
    let s = c in
    let t = told (sym c.check_links.ensures.2 ∙ c.in_ok-check_links.was) in record {
      fact = t;
      spacious = (s.requires.0 t.few, s.requires.1, s.requires.2);
    }

pub returns-in_err-check_links-clause-fact : goal.returns-in_err-check_links-clause-fact
unfolding checked
returns-in_err-check_links-clause-fact c =
    let g : Lent = lent c.args.ax.now c.args.ay.now c.args.bx.now c.args.by.now c.args.aid.now c.args.bid.now c.args.start.now
    c.args.list.now in
    let p = err_from_is_err_and c.from_residual.result c.from_residual.ensures.1 in
    rw (p.1, p.2) (ap (λ (k : Checked). followed_by k (nodes_checked g c.args.state.now)) (sym c.check_links.ensures.2 ∙ c.in_err-check_links.was))

pub returns-clause-fact : goal.returns-clause-fact
unfolding checked
returns-clause-fact c =
    let g : Lent = lent c.args.ax.now c.args.ay.now c.args.bx.now c.args.by.now c.args.aid.now c.args.bid.now c.args.start.now
    c.args.list.now in
    subst (λ (k : Checked). Looks g c.args.state.now c.args.most (followed_by k (nodes_checked g c.args.state.now)) c.check_nodes.result)
    (sym (sym c.check_links.ensures.2 ∙ c.in_ok-check_links.was)) c.check_nodes.ensures.fact_2
