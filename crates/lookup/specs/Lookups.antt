-- What a lookup answers.
use Rattle.std.specs.Prelude.{ℕ, Bool, ◌&&◌, List, eqb, ltb, length, get_or, Option, Some, None}
use Rattle.laws.specs.Test.{pick}
use Rattle.turn.specs.Refusals.{is_fine}
use Rattle.table.specs.Table.{Table, contour_count, first_of, len_of, kind_of, hull_count, shape_of, dropped_owner}
use Rattle.table.specs.TableChecks.{table_checked}
use Rattle.lookup.specs.declared.records.Role.{Role}
use Rattle.lookup.specs.declared.records.Role.TheVariants.{Hull, Hole, Dropped}
use Rattle.lookup.specs.declared.records.ContourRecord.{ContourRecord}

-- "the owner is not right: for a hull its own number, for a hole one below the hull count, or 65,535 with no hulls"
abbrev pub owner_right : (kind owner shape hulls : ℕ) → Bool
owner_right kind owner shape hulls = pick (eqb kind 0) (eqb owner shape) (pick (eqb hulls 0) (eqb owner dropped_owner) (ltb owner hulls))

-- "hull with its number, hole with its parent's, or dropped hole"
abbrev pub role_of : (kind owner hulls : ℕ) → Role
role_of kind owner hulls = pick (eqb kind 0) (Hull owner) (pick (eqb hulls 0) Dropped (Hole owner))

-- "first point's position, length, and" its role
abbrev pub record_of : Table → List ℕ → ℕ → ContourRecord
record_of t owner c = record { first = first_of t c; len = len_of t c; role = role_of (kind_of t c) (get_or owner c 0) (hull_count t) }

-- "It answers "none" exactly when the contour's number is not below the count, the table fails check 10, or the owner is not right"
abbrev pub record_if_right : Table → List ℕ → ℕ → Option ContourRecord
record_if_right t owner c = pick (owner_right (kind_of t c) (get_or owner c 0) (shape_of t c) (hull_count t)) (Some (record_of t owner c)) None

unfoldable pub looked_up : Table → List ℕ → ℕ → Option ContourRecord
looked_up t owner c = pick (ltb c (contour_count t) && is_fine (table_checked t (length owner))) (record_if_right t owner c) None

-- ---- document 01's numbers and values for each case of an answer
-- a role's kind, its number (0 a hull, 1 a hole, 2 a dropped hole), and its owner's number
abbrev pub role_kind : Role → ℕ
role_kind (Hull shape) = 0
role_kind (Hole shape) = 1
role_kind Dropped = 1

abbrev pub role_number : Role → ℕ
role_number (Hull shape) = 0
role_number (Hole shape) = 1
role_number Dropped = 2

abbrev pub role_owner : Role → ℕ
role_owner (Hull shape) = shape
role_owner (Hole shape) = shape
role_owner Dropped = dropped_owner

-- a whole answer: 1 where there is a record, with the record's values; where there is "none" all are 0
pub record LookupValues : Type 0 where
  pub found : ℕ
  pub role : ℕ
  pub owner : ℕ
  pub first : ℕ
  pub len : ℕ

abbrev pub no_values : LookupValues
no_values = record { found = 0; role = 0; owner = 0; first = 0; len = 0 }

abbrev pub values_of_lookup : Option ContourRecord → LookupValues
values_of_lookup (Some r) = record { found = 1; role = role_number r.role; owner = role_owner r.role; first = r.first; len = r.len }
values_of_lookup None = no_values

-- these values, read off the table and the owners
abbrev pub role_number_in : (kind hulls : ℕ) → ℕ
role_number_in kind hulls = pick (eqb kind 0) 0 (pick (eqb hulls 0) 2 1)

abbrev pub values_if_right : Table → List ℕ → ℕ → LookupValues
values_if_right t owner c =
    pick (owner_right (kind_of t c) (get_or owner c 0) (shape_of t c) (hull_count t))
    (record { found = 1; role = role_number_in (kind_of t c) (hull_count t); owner = get_or owner c 0; first = first_of t c; len = len_of t c }) no_values

unfoldable pub looked_up_values : Table → List ℕ → ℕ → LookupValues
looked_up_values t owner c = pick (ltb c (contour_count t) && is_fine (table_checked t (length owner))) (values_if_right t owner c) no_values
