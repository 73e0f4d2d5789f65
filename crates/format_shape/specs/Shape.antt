-- What the functions promise each other: a run and a form without the bodies.
use Rattle.std.specs.Prelude.{ℕ, length, Result, Ok, Err}
use Rattle.format_records.specs.Records.{RunBodies, ran, fault, Form, form, refused, flat_list}
use Rattle.turn.specs.declared.Refusal.{Refusal}
use Rattle.format_records.specs.declared.Run.{Run}
use Rattle.format_shape.specs.declared.Sizes.{Sizes}

-- a run without its bodies
abbrev pub run_end_of : RunBodies → Result Run Refusal
run_end_of (ran r bodies) = Ok r
run_end_of (fault e) = Err e

-- the sizes of a right form
abbrev pub sizes_of : (links nodes entries : ℕ) → Sizes
sizes_of links nodes entries = record { links = links; nodes = nodes; entries = entries }

abbrev pub right_sizes : (links nodes entries : ℕ) → Result Sizes Refusal
right_sizes links nodes entries = Ok (sizes_of links nodes entries)

-- a form without its bodies
abbrev pub file_shape_of : Form → Result Sizes Refusal
file_shape_of (form links nodes) = right_sizes (length links) (length nodes) (length (flat_list nodes))
file_shape_of (refused e) = Err e
