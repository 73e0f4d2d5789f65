-- `answer::answer` meets its contract: a buffer that is too short stays; else the answer is written over states that are all zero.
use native.Mathlib.Omega.{arith}
use Rattle.answer.specs.AnswerText.{answered_short, answered_long}
use Rattle.answer.proofs.answer.Goals as goal

pub returns-then-out-lt-ANSWER_BYTES : goal.returns-then-out-lt-ANSWER_BYTES
returns-then-out-lt-ANSWER_BYTES c = answered_short c.args.input.now c.args.out.now (omega arith)

pub returns : goal.returns
returns c = answered_long c.args.input.now c.args.out.now (omega arith) c.answer_over.ensures.wrote
