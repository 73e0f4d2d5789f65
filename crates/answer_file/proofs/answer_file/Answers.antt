-- `answer_file::answer_file` meets its contract: reading, then the answer to what it gave.
use Rattle.format.specs.File.{FileLists, file_lists}
use Rattle.writing.specs.Write.{wrote_as}
use Rattle.answer_file.proofs.Fronts.{read_fits, read_text_lem, read_left}
use Rattle.answer_file.proofs.answer_file.Goals as goal

pub read_graph-requires : goal.read_graph-requires
read_graph-requires c =
    c.requires.fact

pub answer_read-requires : goal.answer_read-requires
answer_read-requires c =
    let b : FileLists = file_lists c.args.ax.now c.args.ay.now c.args.bx.now c.args.by.now c.args.a_id.now
    c.args.b_id.now
    c.args.top.now c.args.state.now c.args.start.now c.args.list.now in
    let s = c in record {
      fact = read_fits s.args.input.now b
          c.read_graph.ensures c.numbered-read.ensures;
      answer_bytes_in_bounds = s.requires.answer_bytes_in_bounds;
    }

pub returns : goal.returns
returns c =
    let b : FileLists = file_lists c.args.ax.now c.args.ay.now c.args.bx.now c.args.by.now c.args.a_id.now
    c.args.b_id.now
    c.args.top.now c.args.state.now c.args.start.now c.args.list.now in
    let s = c in
    let e =
    c.read_graph.ensures in
    let w = c.answer_read.ensures in
    (wrote_as (read_text_lem s.args.input.now b e c.numbered-read.ensures) w.0, read_left s.args.input.now b e c.numbered-read.ensures w.1)
