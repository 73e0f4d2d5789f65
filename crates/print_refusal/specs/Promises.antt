-- What each public function promises, written once: its contract names it, and any two outcomes that it allows are equal, answer and buffer.
use Rattle.std.specs.Prelude.{ℕ, List}
use Rattle.writing.specs.Write.{Wrote}
use Rattle.writing.specs.Promises.{WritesOnce, wrote_once}
use Rattle.print.specs.Answer.{printed_refusal}

abbrev pub WriteRefusalSays : ℕ → ℕ → List ℕ → List ℕ → ℕ → Type 0
WriteRefusalSays number place old new r = Wrote old new 0 r (printed_refusal number place)

pub write_refusal_once : (number place : ℕ) (old : List ℕ) → WritesOnce (WriteRefusalSays number place old)
write_refusal_once number place old = wrote_once old 0 (printed_refusal number place)
