-- What each public function promises, written once: its contract names it, and any two outcomes that it allows are equal.
use Rattle.std.specs.Prelude.{List, ◌≡◌, refl, Bool, ℤ, ℕ, Result}
use Rattle.laws.specs.Unique.{same_part}
use Rattle.graph.specs.Graph.{Graph, Lent}
use Rattle.rings.specs.Field.{Field, Fielded}
use Rattle.contour.specs.declared.Settings.{Settings}
use Rattle.scan.specs.Scan.{scan}
use Rattle.finish.specs.Finish.{Buffers}
use Rattle.finish.specs.Promises.{SameBuffers, same_buffers}
use Rattle.extraction.specs.Extract.{Extracted, extracted_as, after_scan, extracted}
use Rattle.turn.specs.declared.Refusal.{Refusal}
use Rattle.keep.specs.declared.Counts.{Counts}

-- two outcomes have one answer, and each of the five buffers is the same: states, points, firsts, lengths and kinds
abbrev pub SameOutcome : Result Counts Refusal → Result Counts Refusal → Buffers → Buffers → Type 0
SameOutcome r s b c = (r ≡ s) × (SameBuffers b c)

pub same_outcome : {r s : Result Counts Refusal} {b c : Buffers} {defined : Extracted} → extracted_as r b ≡ defined → extracted_as s c ≡ defined
    → SameOutcome r s b c
same_outcome p q = (
  same_part (λ (e : Extracted). e.answer) p q,
  same_buffers (same_part (λ (e : Extracted). e.lent) p q) refl,
)

-- for every graph whose field of ends, points and tops the lists hold
abbrev pub ExtractFineSays : (ax ay bx by : List ℤ) (nxt prv lead top : List ℕ) → Settings → Buffers → Result Counts Refusal → Buffers → Type 0
ExtractFineSays ax ay bx by nxt prv lead top settings before r after =
    (g : Graph) → Field g ax ay bx by top nxt prv lead before.state
    → extracted_as r after ≡ after_scan g settings.minimum before (scan g settings.clockwise before.state)

-- that there is such a graph is required
pub extract_fine_once : (ax ay bx by : List ℤ) (nxt prv lead top : List ℕ) (settings : Settings) (before : Buffers)
    → Fielded ax ay bx by top nxt prv lead before.state
    → (r s : Result Counts Refusal) (b c : Buffers)
    → ExtractFineSays ax ay bx by nxt prv lead top settings before r b
    → ExtractFineSays ax ay bx by nxt prv lead top settings before s c
    → SameOutcome r s b c
extract_fine_once ax ay bx by nxt prv lead top settings before h r s b c p q =
    same_outcome (p h.graph h.field) (q h.graph h.field)

-- extraction of any graph, whatever it works in
abbrev pub Extracts : Lent → List ℕ → Bool → ℕ → Buffers → Result Counts Refusal → Buffers → Type 0
Extracts g top clockwise minimum before r after = extracted_as r after ≡ extracted g top clockwise minimum before

pub extracts_once : (g : Lent) (top : List ℕ) (clockwise : Bool) (minimum : ℕ) (before : Buffers) (r s : Result Counts Refusal) (b c : Buffers)
    → Extracts g top clockwise minimum before r b → Extracts g top clockwise minimum before s c → SameOutcome r s b c
extracts_once g top clockwise minimum before r s b c p q = same_outcome p q
