-- What the public function promises, written once: its contract names it, and any two outcomes that it allows are equal: answer, buffer, every list.
use Rattle.std.specs.Prelude.{ℕ, ◌≡◌, List}
use Rattle.laws.specs.Unique.{same_part}
use Rattle.format.specs.File.{file_of, FileLists}
use Rattle.writing.specs.Write.{Wrote}
use Rattle.writing.specs.Promises.{wrote_once}
use Rattle.answer_file.specs.FileText.{file_text, file_left}

-- the lists and the buffer before, then after, and the answer
abbrev pub AnswerFileSays : List ℕ → FileLists → List ℕ → FileLists → List ℕ → ℕ → Type 0
AnswerFileSays input b old after new r = (Wrote old new 0 r (file_text (file_of input))) × (after ≡ file_left (file_of input) b)

pub answer_file_once : (input : List ℕ) (b : FileLists) (old : List ℕ) (x y : FileLists) (new new' : List ℕ) (r r' : ℕ)
    → AnswerFileSays input b old x new r → AnswerFileSays input b old y new' r'
    → (r ≡ r') × (new ≡ new') × (x.ax ≡ y.ax) × (x.ay ≡ y.ay) × (x.bx ≡ y.bx) × (x.by ≡ y.by) × (x.a_id ≡ y.a_id) × (x.b_id ≡ y.b_id)
    × (x.top ≡ y.top) × (x.state ≡ y.state) × (x.start ≡ y.start) × (x.list ≡ y.list)
answer_file_once input b old x y new new' r r' p q =
    let o = wrote_once old 0 (file_text (file_of input)) r r' new new' p.0 q.0 in (
      o.0,
      o.1,
      same_part (λ (l : FileLists). l.ax) p.1 q.1,
      same_part (λ (l : FileLists). l.ay) p.1 q.1,
      same_part (λ (l : FileLists). l.bx) p.1 q.1,
      same_part (λ (l : FileLists). l.by) p.1 q.1,
      same_part (λ (l : FileLists). l.a_id) p.1 q.1,
      same_part (λ (l : FileLists). l.b_id) p.1 q.1,
      same_part (λ (l : FileLists). l.top) p.1 q.1,
      same_part (λ (l : FileLists). l.state) p.1 q.1,
      same_part (λ (l : FileLists). l.start) p.1 q.1,
      same_part (λ (l : FileLists). l.list) p.1 q.1,
    )
