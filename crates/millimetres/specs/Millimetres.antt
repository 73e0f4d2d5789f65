-- Areas and frames in millimetres, as floats of 64 bits (request d). One unit is 0.01 mm.
use Rattle.std.specs.Prelude.{ℕ, ℤ, pos, Float}
use Rattle.std.specs.Float.{binary64}
use Rattle.std.specs.Float.Ieee.{div, of_int}
use Rattle.extent.specs.declared.Extent.{Extent}
use Rattle.millimetres.specs.declared.Frame.{Frame}

-- a whole number "made a float with nothing lost and divided once"
abbrev pub quotient : ℤ → ℕ → Float
quotient z d = div binary64 (of_int binary64 z) (of_int binary64 (pos d))

-- "its signed area in square millimetres as f64, which is the whole doubled area made a float with nothing lost and divided once by 20000"
abbrev pub square_millimetres : ℤ → Float
square_millimetres doubled = quotient doubled 20000

-- "each the whole coordinate divided once by 100"
abbrev pub millimetres : ℤ → Float
millimetres units = quotient units 100

-- "its frame as four f64 edges"
abbrev pub frame_of : Extent → Frame
frame_of e = record { left = millimetres e.left; bottom = millimetres e.bottom; right = millimetres e.right; top = millimetres e.top }
