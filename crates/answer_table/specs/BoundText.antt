-- The bytes that the program prints for a contour table: bound and printed, each by its own definition.
use Rattle.std.specs.Prelude.{ℕ, Bool, List, replicate, Result, Ok, Err}
use Rattle.table.specs.Table.{Table, contour_count, max_contours, point_count}
use Rattle.print_lines.specs.declared.Totals.{Totals}
use Rattle.print.specs.Answer as print
use Rattle.bind.specs.Outcome.{Outcome, bound}
use Rattle.turn.specs.Reasons.{number_of}
use Rattle.turn.specs.declared.Refusal.{Refusal}
use Rattle.bind.specs.declared.Bound.{Bound}

abbrev pub totals_of : Table → ℕ → ℕ → Totals
totals_of t shapes dropped = record { contours = contour_count t; shapes = shapes; points = point_count t; dropped = dropped }

abbrev pub binding_text : Table → Result Bound Refusal → List ℕ → List ℕ
binding_text t (Ok b) owner =
    print.printed (print.owned_table t.points t.first t.len t.kind owner) (totals_of t b.shapes b.dropped)
binding_text t (Err r) owner = print.printed_refusal (number_of r.reason) r.place

abbrev pub outcome_text : Table → Outcome → List ℕ
outcome_text t o = binding_text t o.answer o.owner

-- into as many owners as there can be contours
unfoldable pub bound_text : Table → Bool → List ℕ
bound_text t cw = outcome_text t (bound t cw (replicate max_contours 0))
