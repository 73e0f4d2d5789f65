-- What the public function promises, written once: its contract names it, and any two outcomes that it allows are equal, answer and buffer.
use Rattle.std.specs.Prelude.{ℕ, ◌≡◌, List}
use Rattle.laws.specs.Unique.{same_part}
use Rattle.writing.specs.Promises.{WritesOnce}
use Rattle.answer.specs.AnswerText.{Answered, answered_as, answered}

abbrev pub AnswerSays : List ℕ → List ℕ → List ℕ → ℕ → Type 0
AnswerSays input old new r = answered_as new r ≡ answered input old

pub answer_once : (input old : List ℕ) → WritesOnce (AnswerSays input old)
answer_once input old r s new other p q = (same_part (λ (o : Answered). o.bytes) p q, same_part (λ (o : Answered). o.out) p q)
