-- What the public function promises, written once: its contract names it, and any two outcomes that it allows are equal, list by list.
use Rattle.std.specs.Prelude.{ℕ, ◌≡◌, List, Result}
use Rattle.laws.specs.Unique.{same_part}
use Rattle.format.specs.File.{FileLists, Reading, reading, file_of, read_into}
use Rattle.turn.specs.declared.Refusal.{Refusal}
use Rattle.format.specs.declared.FileCounts.{FileCounts}

-- the lists before, the answer, and the lists after
abbrev pub ReadGraphSays : List ℕ → FileLists → Result FileCounts Refusal → FileLists → Type 0
ReadGraphSays s before r after = reading r after ≡ read_into (file_of s) before

pub read_graph_once : (s : List ℕ) (before : FileLists) (r t : Result FileCounts Refusal) (x y : FileLists)
    → ReadGraphSays s before r x → ReadGraphSays s before t y
    → (r ≡ t) × (x.ax ≡ y.ax) × (x.ay ≡ y.ay) × (x.bx ≡ y.bx) × (x.by ≡ y.by) × (x.a_id ≡ y.a_id) × (x.b_id ≡ y.b_id)
    × (x.top ≡ y.top) × (x.state ≡ y.state) × (x.start ≡ y.start) × (x.list ≡ y.list)
read_graph_once s before r t x y p q = (
  same_part (λ (o : Reading). o.answer) p q,
  same_part (λ (o : Reading). o.lent.ax) p q,
  same_part (λ (o : Reading). o.lent.ay) p q,
  same_part (λ (o : Reading). o.lent.bx) p q,
  same_part (λ (o : Reading). o.lent.by) p q,
  same_part (λ (o : Reading). o.lent.a_id) p q,
  same_part (λ (o : Reading). o.lent.b_id) p q,
  same_part (λ (o : Reading). o.lent.top) p q,
  same_part (λ (o : Reading). o.lent.state) p q,
  same_part (λ (o : Reading). o.lent.start) p q,
  same_part (λ (o : Reading). o.lent.list) p q,
)
