-- The angular order (rule 3): turning from a vector, which of two others is met first, by exact cross products.
use Rattle.std.specs.Prelude.{Bool, true, false, not, ◌&&◌}
use Rattle.laws.specs.Sign.{Sgn, mns, zer, pls, sgn, flip, is_mns, eq_s}
use Rattle.turn.specs.declared.Vector.{Vector}
use Rattle.turn.specs.Points.{cross, dot}

-- where a direction lies, turning from e: in the first halfTurn turn, opposite, in the second halfTurn turn, or a full turn away (e's own direction)
pub data Half : Type 0 where
  early back late full : Half

-- by the signs of the cross and the dot product with e, turning clockwise
abbrev pub half_turn : Sgn → Sgn → Half
half_turn mns d = early
half_turn zer mns = back
half_turn zer zer = full
half_turn zer pls = full
half_turn pls d = late

-- by two halves, and within one halfTurn turn by the sign of the cross product of the two
abbrev pub sooner : Half → Half → Sgn → Bool
sooner early early s = is_mns s
sooner early back s = true
sooner early late s = true
sooner early full s = true
sooner back early s = false
sooner back back s = false
sooner back late s = true
sooner back full s = true
sooner late early s = false
sooner late back s = false
sooner late late s = is_mns s
sooner late full s = true
sooner full h s = false

-- turning clockwise reads the sign of a cross product as it is, counterclockwise its mirror image
abbrev pub turned : Bool → Sgn → Sgn
turned true s = s
turned false s = flip s

-- where f lies, turning from e
abbrev pub half_of : Bool → Vector → Vector → Half
half_of w e f = half_turn (turned w (sgn (cross e f))) (sgn (dot e f))

-- rule 3: turning from e, clockwise where w is true and else counterclockwise, f is met strictly before g
abbrev pub met_before : Bool → Vector → Vector → Vector → Bool
met_before w e f g = sooner (half_of w e f) (half_of w e g) (turned w (sgn (cross f g)))

-- f and g have one direction
abbrev pub same_direction : Vector → Vector → Bool
same_direction f g = eq_s (sgn (cross f g)) zer && eq_s (sgn (dot f g)) pls

-- a vector that is not 0
abbrev pub nonzero : Vector → Bool
nonzero v = not (eq_s (sgn v.x) zer && eq_s (sgn v.y) zer)
