-- `extract_in::extract_in` meets its contract: a refusal of the checks leaves everything as it was, else the scan follows over the field that they laid.
use mathlib.Core.Path.{◌≡◌, sym, ◌∙◌}
use Rattle.std.proofs.lemmas.Result.{err_from_is_err_and}
use Rattle.turn.specs.Refusals.{no_fault}
use Rattle.graph.specs.Graph.{Lent, lent, graph_of}
use Rattle.finish.specs.Finish.{Buffers, buffers}
use Rattle.check_any.specs.Lengths.{as_wide}
use Rattle.extraction.specs.Lends.{Lends, lent_on}
use Rattle.outlines.specs.Checking.{after_refusal, after_fine}
use Rattle.smooth.specs.Spikes.{spikeless}
use Rattle.extract_in.proofs.extract_in.Goals as goal

pub extract_outlines-requires : goal.extract_outlines-requires
extract_outlines-requires _ c =
    let g : Lent = lent c.args.ax.now c.args.ay.now c.args.bx.now c.args.by.now c.args.aid.now c.args.bid.now c.args.start.now
    c.args.list.now in
    let b : Buffers = buffers c.args.state.now c.args.points.now c.args.first.now c.args.len.now c.args.kind.now in
    let lends : c.check_any.result ≡ no_fault → Lends g c.args.top.now b c.check_any.new.nxt c.check_any.new.prv c.check_any.new.lead = λ t.
    lent_on g c.args.top.now c.args.settings.clockwise c.args.settings.minimum b (sym c.check_any.ensures.fact.2 ∙ t)
    (c.check_any.ensures.all_laid t) (λ few. as_wide _ _ _ _ (c.requires.0 few) c.check_any.auto.nxt c.check_any.auto.prv c.check_any.auto.lead) in
    let q = lends c.in_ok-check_any.was in record {
      fielded = record { graph = graph_of g c.args.top.now; field = q.0 };
      links = (q.1, q.2);
      roomy = q.3;
      state_value = q.4;
    }

pub returns-in_err-check_any : goal.returns-in_err-check_any
returns-in_err-check_any _ c =
    let g : Lent = lent c.args.ax.now c.args.ay.now c.args.bx.now c.args.by.now c.args.aid.now c.args.bid.now c.args.start.now
    c.args.list.now in
    let b : Buffers = buffers c.args.state.now c.args.points.now c.args.first.now c.args.len.now c.args.kind.now in
    let p = err_from_is_err_and c.from_residual.result c.from_residual.ensures.1 in
    rw (p.1, p.2) (after_refusal g c.args.top.now c.args.settings b _ _ (sym c.check_any.ensures.fact.2 ∙ c.in_err-check_any.was))

pub returns : goal.returns
returns _ c =
    let g : Lent = lent c.args.ax.now c.args.ay.now c.args.bx.now c.args.by.now c.args.aid.now c.args.bid.now c.args.start.now
    c.args.list.now in
    let b : Buffers = buffers c.args.state.now c.args.points.now c.args.first.now c.args.len.now c.args.kind.now in
    let lends : c.check_any.result ≡ no_fault → Lends g c.args.top.now b c.check_any.new.nxt c.check_any.new.prv c.check_any.new.lead = λ t.
    lent_on g c.args.top.now c.args.settings.clockwise c.args.settings.minimum b (sym c.check_any.ensures.fact.2 ∙ t)
    (c.check_any.ensures.all_laid t) (λ few. as_wide _ _ _ _ (c.requires.0 few) c.check_any.auto.nxt c.check_any.auto.prv c.check_any.auto.lead) in
    let t = c.in_ok-check_any.was in
    c.extract_outlines.ensures (graph_of g c.args.top.now) (lends t).0
    (spikeless g c.args.top.now c.args.state.now _ c.args.settings.clockwise (sym c.check_any.ensures.fact.2 ∙ t))
    ∙ after_fine g c.args.top.now c.args.settings b (sym c.check_any.ensures.fact.2 ∙ t)
