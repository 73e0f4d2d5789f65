-- `outline::print_answer` meets its contract: the buffer has room, so the answer is written, and it is the buffer's front.
use Rattle.answer.specs.AnswerText.{answer_written}
use Rattle.writing.specs.Write.{wrote_cut}
use Rattle.outline.proofs.print_answer.Goals as goal

pub slice_bounds-write_all-end : goal.slice_bounds-write_all-end
slice_bounds-write_all-end c = (wrote_cut (answer_written c.args.input.now c.args.out.now c.requires c.answer-size.ensures)).fits

pub slice_bounds-write_all-end-2 : goal.slice_bounds-write_all-end-2
slice_bounds-write_all-end-2 c = (wrote_cut (answer_written c.args.input.now c.args.out.now c.requires c.answer-size.ensures)).long
