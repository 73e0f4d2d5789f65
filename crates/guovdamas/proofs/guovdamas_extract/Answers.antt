-- `guovdamas::guovdamas_extract` meets its contract: what `extract::extract` promises, by numbers.
use mathlib.Core.Path.{ap, ◌∙◌}
use Rattle.graph.specs.Graph.{lent}
use Rattle.finish.specs.Finish.{buffers}
use Rattle.contour.specs.declared.Settings.{Settings}
use Rattle.outlines.specs.Outlines.{outlined}
use Rattle.guovdamas.proofs.Numbered.{extraction_numbered}
use Rattle.guovdamas.proofs.guovdamas_extract.Goals as goal

pub returns : goal.returns
returns c =
    let o = c in
    let s = c in
    extraction_numbered c.into-2.ensures (o.extract-answer.ensures
    ∙ ap (λ (x : Settings). outlined (lent s.args.ax.now s.args.ay.now s.args.bx.now s.args.by.now s.args.a_id.now
    s.args.b_id.now s.args.start.now s.args.list.now) s.args.top.now x
    (buffers s.args.state.now s.args.points.now s.args.first.now s.args.len.now s.args.kind.now))
    c.into.ensures)
