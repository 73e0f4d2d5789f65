-- What the limits leave room for: a vector's and a point's coordinates as the code's operations read them, and their products within 64 signed bits.
use Prim.Native.Nat.{◌*◌, ◌≤◌, ◌<◌}
use native.Mathlib.Omega.{arith}
use lib.IntN.{ℤ, nat_abs}
use mir.Syntax.{w32}
use mir.Val.{to_z, of_z}
use Rattle.laws.specs.Bounds.{Z, Read, read64, read32}
use Rattle.turn.specs.Limits.{max_coordinate}
use Rattle.turn.specs.Points.{span}

pub span_room : 2 * (span * span) < 9223372036854775808
span_room = omega arith

pub of_vector : (z : ℤ) → nat_abs z ≤ span → Read span (Z z) z
of_vector z h = read64 z (omega arith) h

pub coordinate_room : 2 * (max_coordinate * max_coordinate) < 9223372036854775808
coordinate_room = omega arith

pub of_point : (z : ℤ) → nat_abs z ≤ max_coordinate → Read max_coordinate (Z (to_z w32 (of_z w32 z))) z
of_point z h = read32 z (omega arith) h
