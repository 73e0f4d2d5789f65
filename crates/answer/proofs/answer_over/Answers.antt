-- `answer::answer_over` meets its contract: the file is read into lists that are all zero, and answered.
use Rattle.answer.proofs.Zeros.{zeros_fit, zeros_kept}
use Rattle.answer.proofs.answer_over.Goals as goal

pub answer_file-requires : goal.answer_file-requires
answer_file-requires c = record {
  fact = zeros_fit c.requires.state_value;
  answer_bytes_in_bounds = c.requires.answer_bytes_in_bounds;
}

pub returns : goal.returns
returns c =
    let w = c.answer_file.ensures in record {
      wrote = w.0;
      state_after = zeros_kept c.requires.state_value c.args.input.now _ w.1;
    }
