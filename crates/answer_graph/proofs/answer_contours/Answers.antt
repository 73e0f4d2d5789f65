-- `answer_graph::answer_contours` meets its contract: extraction, then the answer to what it gave.
use Rattle.graph.specs.Graph.{Lent, lent}
use Rattle.writing.specs.Write.{wrote_as}
use Rattle.answer_graph.proofs.Extracts.{extraction_fits, extracted_text_lem, extracted_states_lem}
use Rattle.finish.specs.Finish.{Buffers, buffers}
use Rattle.answer_graph.proofs.answer_contours.Goals as goal

pub answer_extraction-requires : goal.answer_extraction-requires
answer_extraction-requires c =
    let g : Lent = lent c.args.ax.now c.args.ay.now c.args.bx.now c.args.by.now c.args.a_id.now c.args.b_id.now
    c.args.start.now c.args.list.now in
    let b : Buffers = buffers c.args.state.now c.args.points.now c.args.first.now c.args.len.now c.args.kind.now in
    let s = c in record {
      extraction_fits = extraction_fits g s.args.top.now s.args.clockwise s.args.minimum b
          c.extract.ensures c.numbered-extraction.ensures;
      answer_bytes_in_bounds = s.requires;
    }

pub returns : goal.returns
returns c =
    let g : Lent = lent c.args.ax.now c.args.ay.now c.args.bx.now c.args.by.now c.args.a_id.now c.args.b_id.now
    c.args.start.now c.args.list.now in
    let b : Buffers = buffers c.args.state.now c.args.points.now c.args.first.now c.args.len.now c.args.kind.now in
    let s = c in
    let e =
    c.extract.ensures in (
      wrote_as (extracted_text_lem g s.args.top.now s.args.clockwise s.args.minimum b e c.numbered-extraction.ensures)
          c.answer_extraction.ensures,
      extracted_states_lem g s.args.top.now s.args.clockwise s.args.minimum b e,
    )
