-- Laws of the table's definitions: points on the grid, where ranges begin, the way round a contour, and how many hulls there are.
use Rattle.std.specs.Prelude.{ℕ, zero, suc, ◌+◌, ◌*◌, ◌-◌, ◌≤◌, ◌<◌, ◌≡◌, refl, Bool, true, false, List, [], ◌∷◌, ℤ, eqb, length, get_or}
use Rattle.std.proofs.Common.{sym, subst, arith, add-one, not-suc-le-zero, eq-eqb, ne_eqb}
use Rattle.laws.specs.Test.{pick, pick_ind}
use Rattle.laws.specs.Count.{count}
use Rattle.turn.specs.declared.Point.{Point}
use Rattle.turn.specs.Points.{OnGrid, Grid}
use Rattle.table.specs.Table.{point_in, next_in, previous_in, hulls}
use Rattle.table.specs.TableChecks.{start_in}

-- ---- points
pub grid_point : (points : List ℤ) (p : ℕ) → Grid points → p * 2 + 1 < length points → OnGrid (point_in points p)
grid_point points p g h = (g (p * 2) (omega arith), g (p * 2 + 1) h)

pub grid_read : (points : List ℤ) (p : ℕ) (q : Point) → q ≡ point_in points p → Grid points → p * 2 + 1 < length points → OnGrid q
grid_read points p q e g h = subst (λ (x : Point). OnGrid x) (sym e) (grid_point points p g h)

-- ---- where ranges begin
pub start_next : (first len : List ℕ) (c : ℕ) → start_in first len (c + 1) ≡ get_or first c 0 + get_or len c 0
start_next first len c = rw (add-one c)

pub start_last : (first len : List ℕ) (n : ℕ) → 0 < n → start_in first len n ≡ get_or first (n - 1) 0 + get_or len (n - 1) 0
start_last first len zero h = absurd (not-suc-le-zero h)
start_last first len (suc n) h = let e : suc n - 1 ≡ n = omega arith in rw e

-- ---- round a contour
pub next_inside : (from to p : ℕ) → p + 1 < to → next_in from to p ≡ p + 1
next_inside from to p h = let n : p + 1 ≡ to → ⊥ = λ q. omega arith in rw (ne_eqb (p + 1) to n)

pub next_last : (from to p : ℕ) → p + 1 ≡ to → next_in from to p ≡ from
next_last from to p h = rw (eq-eqb (p + 1) to h)

pub previous_first : (from to : ℕ) → previous_in from to from ≡ to - 1
previous_first from to = rw (eq-eqb from from refl)

pub previous_inside : (from to p : ℕ) → from < p → previous_in from to p ≡ p - 1
previous_inside from to p h = let n : p ≡ from → ⊥ = λ q. omega arith in rw (ne_eqb p from n)

-- ---- one hull more, or none
pub bit_small : (b : Bool) → pick b 1 0 ≤ 1
bit_small true = omega arith
bit_small false = omega arith

-- ---- no more hulls than contours
pub hulls_few : (l : List ℕ) → hulls l ≤ length l
unfolding count
hulls_few [] = omega arith
hulls_few (k ∷ l) = pick_ind (eqb k 0) 1 0 (λ (n : ℕ). n + hulls l ≤ suc (length l)) (λ _. omega (arith, hulls_few l)) (λ _. omega (arith, hulls_few l))
