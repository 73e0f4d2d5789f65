-- The outcome of binding: the answer, and the owner buffer.
use Rattle.std.specs.Prelude.{ℕ, Bool, List, length, eqb, Result, Ok, Err}
use Rattle.laws.specs.Lists.{over_front}
use Rattle.laws.specs.Test.{pick}
use Rattle.table.specs.Table.{Table, contour_count, hull_count}
use Rattle.anchor.specs.AnchorChecks.{both_checked}
use Rattle.owners.specs.Owners.{Owned, owners_of}
use Rattle.turn.specs.Refusals.{Checked, refused}
use Rattle.turn.specs.declared.Refusal.{Refusal}
use Rattle.bind.specs.declared.Bound.{Bound}
use Rattle.turn.specs.declared.Reason.{Reason}
use Rattle.turn.specs.Reasons.{number_of}

-- holes dropped: with no hulls every contour is one
abbrev pub dropped_of : Table → ℕ
dropped_of t = pick (eqb (hull_count t) 0) (contour_count t) 0

abbrev pub bound_to : (shapes dropped : ℕ) → Result Bound Refusal
bound_to shapes dropped = Ok (record { shapes = shapes; dropped = dropped })

-- ---- document 01's number and values for each answer
-- number 0 is done; "After any refusal the counts and totals are 0."
pub record BindingValues : Type 0 where
  pub number : ℕ
  pub place : ℕ
  pub shapes : ℕ
  pub dropped : ℕ

abbrev pub valued : (number place shapes dropped : ℕ) → BindingValues
valued number place shapes dropped = record { number = number; place = place; shapes = shapes; dropped = dropped }

abbrev pub binding_number : Result Bound Refusal → ℕ
binding_number (Ok b) = 0
binding_number (Err r) = number_of r.reason

abbrev pub binding_place : Result Bound Refusal → ℕ
binding_place (Ok b) = 0
binding_place (Err r) = r.place

abbrev pub binding_shapes : Result Bound Refusal → ℕ
binding_shapes (Ok b) = b.shapes
binding_shapes (Err r) = 0

abbrev pub binding_dropped : Result Bound Refusal → ℕ
binding_dropped (Ok b) = b.dropped
binding_dropped (Err r) = 0

abbrev pub values_of_binding : Result Bound Refusal → BindingValues
values_of_binding b = valued (binding_number b) (binding_place b) (binding_shapes b) (binding_dropped b)

-- ---- the outcome: the answer with its number and values, and the owner buffer
pub record Outcome : Type 0 where
  pub answer : Result Bound Refusal
  pub values : BindingValues
  pub owner : List ℕ

-- what an answer of the code and a buffer come to
abbrev pub outcome : Result Bound Refusal → List ℕ → Outcome
outcome b l = record { answer = b; values = values_of_binding b; owner = l }

-- what the rules come to: so many shapes and dropped holes, or a refusal's reason and place
abbrev pub done : (shapes dropped : ℕ) → List ℕ → Outcome
done shapes dropped owners = record { answer = bound_to shapes dropped; values = valued 0 0 shapes dropped; owner = owners }

abbrev pub refusal : Reason → (place : ℕ) → List ℕ → Outcome
refusal reason place buffer = record { answer = refused reason place; values = valued (number_of reason) place 0 0; owner = buffer }

-- "After 1 to 7 and 10 to 12 all lent memory is as before the call."
abbrev pub handed_by : Table → Checked → List ℕ → List ℕ → Outcome
handed_by t (Ok u) owners buffer = done (hull_count t) (dropped_of t) (over_front owners buffer)
handed_by t (Err r) owners buffer = refusal r.reason r.place buffer

abbrev pub handed : Table → Owned → List ℕ → Outcome
handed t w buffer = handed_by t w.answer w.owners buffer

abbrev pub bound_after : Checked → Table → Bool → List ℕ → Outcome
bound_after (Err r) t cw buffer = refusal r.reason r.place buffer
bound_after (Ok u) t cw buffer = handed t (owners_of t cw) buffer

abbrev pub bound : Table → Bool → List ℕ → Outcome
bound t cw buffer = bound_after (both_checked t (length buffer) cw) t cw buffer
