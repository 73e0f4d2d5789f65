-- What each public function promises, written once: its contract names it, and any two outcomes that it allows are equal.
use Rattle.std.specs.Prelude.{List, [], ◌≡◌, Bool, ℤ, ℕ, ◌-◌}
use Rattle.laws.specs.Unique.{Determines, by_equation, same_part}
use Rattle.keep.specs.declared.Counts.{Counts}
use Rattle.keep.specs.Tables.{Tables, tables, enter, no_counts}

abbrev pub NoCountsSays : Counts → Type 0
NoCountsSays r = r ≡ no_counts

pub no_counts_once : Determines NoCountsSays
no_counts_once = by_equation no_counts

-- whatever the points that stand beside the table
abbrev pub NoteWalkSays : (first len kind : List ℕ) → Bool → (minimum to : ℕ) → ℤ → Counts → Counts → (first' len' kind' : List ℕ) → Type 0
NoteWalkSays first len kind hole minimum to area c r first' len' kind' = (points : List ℤ) →
    tables points first' len' kind' r ≡ enter minimum hole (to - c.points) area (tables points first len kind c)

pub note_walk_once : (first len kind : List ℕ) (hole : Bool) (minimum to : ℕ) (area : ℤ) (c r s : Counts) (f f' l l' k k' : List ℕ)
    → NoteWalkSays first len kind hole minimum to area c r f l k → NoteWalkSays first len kind hole minimum to area c s f' l' k'
    → (r ≡ s) × (f ≡ f') × (l ≡ l') × (k ≡ k')
note_walk_once first len kind hole minimum to area c r s f f' l l' k k' p q = (
  same_part (λ (t : Tables). t.counts) (p []) (q []),
  same_part (λ (t : Tables). t.first) (p []) (q []),
  same_part (λ (t : Tables). t.len) (p []) (q []),
  same_part (λ (t : Tables). t.kind) (p []) (q []),
)
