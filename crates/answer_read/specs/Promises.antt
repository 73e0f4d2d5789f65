-- What the public function promises, written once: its contract names it, and any two outcomes that it allows are equal: answer, buffer, states.
use Rattle.std.specs.Prelude.{ℕ, ◌≡◌, List, Result}
use Rattle.std.proofs.Common.{sym, ◌∙◌}
use Rattle.format.specs.File.{FileLists}
use Rattle.writing.specs.Write.{Wrote}
use Rattle.writing.specs.Promises.{wrote_once}
use Rattle.answer_read.specs.ReadText.{read_text, read_states}
use Rattle.turn.specs.declared.NumberedRefusal.{NumberedRefusal}
use Rattle.format.specs.declared.FileCounts.{FileCounts}

-- the lists and the buffer before, then the states and the buffer after, and the answer
abbrev pub AnswerReadSays : Result FileCounts NumberedRefusal → FileLists → List ℕ → List ℕ → List ℕ → ℕ → Type 0
AnswerReadSays read b old after new r = (Wrote old new 0 r (read_text read b)) × (after ≡ read_states read b)

pub answer_read_once : (read : Result FileCounts NumberedRefusal) (b : FileLists) (old after after' new new' : List ℕ) (r r' : ℕ)
    → AnswerReadSays read b old after new r → AnswerReadSays read b old after' new' r' → (r ≡ r') × (new ≡ new') × (after ≡ after')
answer_read_once read b old after after' new new' r r' p q =
    let o = wrote_once old 0 (read_text read b) r r' new new' p.0 q.0 in
    (o.0, o.1, p.1 ∙ sym q.1)
