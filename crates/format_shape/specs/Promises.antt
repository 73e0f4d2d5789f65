-- What the public function promises, written once: its contract names it, and any two outcomes that it allows are equal.
use Rattle.std.specs.Prelude.{ℕ, ◌≡◌, List, Result}
use Rattle.laws.specs.Unique.{Determines, by_equation}
use Rattle.format_records.specs.Records.{form_of}
use Rattle.format_shape.specs.Shape.{file_shape_of}
use Rattle.turn.specs.declared.Refusal.{Refusal}
use Rattle.format_shape.specs.declared.Sizes.{Sizes}

abbrev pub ShapeOfSays : List ℕ → Result Sizes Refusal → Type 0
ShapeOfSays s r = r ≡ file_shape_of (form_of s)

pub shape_of_once : (s : List ℕ) → Determines (ShapeOfSays s)
shape_of_once s = by_equation (file_shape_of (form_of s))
