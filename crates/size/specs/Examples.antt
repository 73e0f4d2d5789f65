-- The size test at 0 and 1, at odd doubled areas, about 2^63, at 2^64 - 1 and at both extremes of the area, computed both ways.
use Rattle.std.specs.Prelude.{ℕ, ◌≡◌, refl, Bool, true, false, List, [], ◌∷◌, map, ℤ, pos, negsuc}
use Rattle.turn.specs.Size.{is_kept}
use Rattle.size.specs.Doubled.{kept_by_doubled}

-- a signed doubled area, a minimum, and whether three points are kept
abbrev Row : Type 0
Row = ℤ × (ℕ × Bool)

abbrev rows : List Row
rows =
    (pos 0, (0, true)) ∷ (pos 0, (1, false))
    ∷ (pos 1, (0, true)) ∷ (pos 1, (1, false)) ∷ (pos 2, (1, true)) ∷ (negsuc 2, (1, true)) ∷ (negsuc 2, (2, false))
    ∷ (pos 33, (16, true)) ∷ (pos 33, (17, false))
    -- the extremes of the area, 2^63 - 1 and -2^63, about their halves and at huge minima
    ∷ (pos 9223372036854775807, (4611686018427387903, true)) ∷ (pos 9223372036854775807, (4611686018427387904, false))
    ∷ (negsuc 9223372036854775807, (4611686018427387904, true)) ∷ (negsuc 9223372036854775807, (4611686018427387905, false))
    ∷ (pos 9223372036854775807, (9223372036854775807, false)) ∷ (negsuc 9223372036854775807, (9223372036854775807, false))
    ∷ (pos 9223372036854775807, (9223372036854775808, false)) ∷ (negsuc 9223372036854775807, (9223372036854775808, false))
    ∷ (pos 9223372036854775807, (18446744073709551615, false)) ∷ (negsuc 9223372036854775807, (18446744073709551615, false))
    -- minima whose doubling would wrap: to 0, and to 32
    ∷ (pos 0, (9223372036854775808, false)) ∷ (pos 32, (9223372036854775824, false))
    ∷ []

by_the_half : map (λ (r : Row). is_kept 3 r.0 r.1.0) rows ≡ map (λ (r : Row). r.1.1) rows
by_the_half = refl

by_doubled_numbers : map (λ (r : Row). kept_by_doubled 3 r.0 r.1.0) rows ≡ map (λ (r : Row). r.1.1) rows
by_doubled_numbers = refl
