-- The size test of rule 6.
use Rattle.std.specs.Prelude.{ℕ, ◌/◌, Bool, ◌&&◌, ◌||◌, leb, eqb, ℤ, nat_abs}

-- "half the absolute doubled area, rounded down"
abbrev pub half : ℤ → ℕ
half a = nat_abs a / 2

-- "A walk is kept if it has at least 3 points and either the minimum is 0 or half the absolute doubled area, rounded down, is at least the minimum."
abbrev pub is_kept : ℕ → ℤ → ℕ → Bool
is_kept points area minimum = leb 3 points && (eqb minimum 0 || leb minimum (half area))
