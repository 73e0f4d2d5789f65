-- What each public function promises, written once: its contract names it, and any two outcomes that it allows are equal.
use Rattle.std.specs.Prelude.{◌≡◌, ℤ, Float}
use Rattle.std.specs.Float.{nan}
use Rattle.laws.specs.Unique.{Determines, by_equation}
use Rattle.extent.specs.declared.Extent.{Extent}
use Rattle.millimetres.specs.declared.Frame.{Frame}
use Rattle.millimetres.specs.Millimetres.{square_millimetres, frame_of}

abbrev pub SquareMillimetresSays : ℤ → Float → Type 0
SquareMillimetresSays doubled r = r ≡ square_millimetres doubled

pub square_millimetres_once : (doubled : ℤ) → Determines (SquareMillimetresSays doubled)
square_millimetres_once doubled = by_equation (square_millimetres doubled)

abbrev pub FrameOfSays : Extent → Frame → Type 0
FrameOfSays e r = r ≡ frame_of e

pub frame_of_once : (e : Extent) → Determines (FrameOfSays e)
frame_of_once e = by_equation (frame_of e)

abbrev pub NoNumberSays : Float → Type 0
NoNumberSays r = r ≡ nan

pub no_number_once : Determines NoNumberSays
no_number_once = by_equation nan
