-- What each public function promises, written once: its contract names it, and any two outcomes that it allows are equal.
use Rattle.std.specs.Prelude.{ℕ, ◌≡◌, Bool, ℤ}
use Rattle.laws.specs.Unique.{Determines, by_equation}
use Rattle.turn.specs.Size.{is_kept}

abbrev pub IsKeptSays : ℕ → ℤ → ℕ → Bool → Type 0
IsKeptSays points area minimum r = r ≡ is_kept points area minimum

pub is_kept_once : (points : ℕ) (area : ℤ) (minimum : ℕ) → Determines (IsKeptSays points area minimum)
is_kept_once points area minimum = by_equation (is_kept points area minimum)
