-- What is lent to be written, and what becomes of it once the scan has ended.
use Rattle.std.specs.Prelude.{ℕ, ◌*◌, ◌≤◌, List, length, ℤ, pos, Result, Ok, Err}
use Rattle.laws.specs.Lists.{map_from}
use Rattle.walk.specs.Code.{unmark}
use Rattle.keep.specs.declared.Counts.{Counts}

-- what is lent to be written: visit states, points (x and y in turn), and the contour table
pub record Buffers : Type 0 where
  pub state : List ℕ
  pub points : List ℤ
  pub first : List ℕ
  pub len : List ℕ
  pub kind : List ℕ

abbrev pub buffers : List ℕ → List ℤ → List ℕ → List ℕ → List ℕ → Buffers
buffers state points first len kind = record { state = state; points = points; first = first; len = len; kind = kind }

-- "After 8 and 9 the visit states are as before, and the points and contour table are all zero. After success every entry
-- past the last one written is zero."
abbrev pub finished_by : {E : Type 0} → Result Counts E → Buffers → Buffers
finished_by (Err r) b =
    buffers (map_from unmark 0 b.state) (map_from (λ _. pos 0) 0 b.points)
    (map_from (λ _. 0) 0 b.first) (map_from (λ _. 0) 0 b.len) (map_from (λ _. 0) 0 b.kind)
finished_by (Ok c) b =
    buffers b.state (map_from (λ _. pos 0) (c.points * 2) b.points)
    (map_from (λ _. 0) c.contours b.first) (map_from (λ _. 0) c.contours b.len) (map_from (λ _. 0) c.contours b.kind)

-- what was written lies within the buffers
abbrev pub Holds : {E : Type 0} → Result Counts E → Buffers → Type 0
Holds (Err r) b = Unit
Holds (Ok c) b = (c.points * 2 ≤ length b.points)
    × (c.contours ≤ length b.first) × (c.contours ≤ length b.len) × (c.contours ≤ length b.kind)
