-- Check 10 of binding: what is wrong with the whole table, then the lowest contour that is wrong.
use Rattle.std.specs.Prelude.{ℕ, zero, suc, ◌+◌, ◌/◌, ◌%◌, Bool, not, ◌||◌, List, eqb, ltb, ℤ, length, get_or}
use Rattle.laws.specs.Lowest.{some}
use Rattle.turn.specs.Limits.{max_links}
use Rattle.turn.specs.Points.{differ, off_grid}
use Rattle.turn.specs.Refusals.{refuse_if, refuse_at, Checked, no_fault}
use Rattle.table.specs.Table.{Table, point_in, point_count, contour_count, first_of, len_of, kind_of, previous_in}
use Rattle.turn.specs.declared.Reason.TheVariants.{WrongTable}

-- ---- 10, "binding, first", at 0
-- "lists differ in length; room for owners below the contour count; more than 4,096 points"; a last x without its y counts as a list of wrong length
abbrev pub misfit : (points first len kind owners : ℕ) → Bool
misfit points first len kind owners =
    not (eqb len first) || not (eqb kind first) || ltb owners first || ltb max_links (points / 2) || not (eqb (points % 2) 0)

-- where contour c's range must begin: at 0, and then where the one before it ends
abbrev pub start_in : List ℕ → List ℕ → ℕ → ℕ
start_in first len zero = 0
start_in first len (suc c) = get_or first c 0 + get_or len c 0

-- "ranges not ending at the point count"
abbrev pub unended : Table → Bool
unended t = not (eqb (start_in t.first t.len (contour_count t)) (point_count t))

-- ---- 10, "then", at the lowest contour
-- "a range not consecutive from 0, or past the points; a contour under 3 points"; "kind not 0 or 1"
abbrev pub range_fault : (count start first len kind : ℕ) → Bool
range_fault count start first len kind =
    not (eqb first start) || ltb count (first + len) || ltb len 3 || ltb 1 kind

-- "coordinate out of range", or "round it, with equal neighbours": of the contour that stands from a position up to
-- another, the point at p is off the grid or equal to the one before it
abbrev pub point_fault : List ℤ → ℕ → ℕ → ℕ → Bool
point_fault points from to p = off_grid (point_in points p) || not (differ (point_in points (previous_in from to p)) (point_in points p))

abbrev pub some_point_fault : List ℤ → ℕ → ℕ → Bool
some_point_fault points from len = some (λ k. point_fault points from (from + len) (from + k)) len

abbrev pub contour_fault : List ℤ → (start first len kind : ℕ) → Bool
contour_fault points start first len kind =
    range_fault (length points / 2) start first len kind || some_point_fault points first len

abbrev pub bad_contour : Table → ℕ → Bool
bad_contour t c = contour_fault t.points (start_in t.first t.len c) (first_of t c) (len_of t c) (kind_of t c)

-- ---- the checks, in their order
-- check 10, of a table and the length of the owner buffer
unfoldable pub table_checked : Table → ℕ → Checked
table_checked t owners =
    refuse_if WrongTable (misfit (length t.points) (length t.first) (length t.len) (length t.kind) owners || unended t)
    (refuse_at WrongTable (bad_contour t) (contour_count t)
    no_fault)
