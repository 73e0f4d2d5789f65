-- What each public function promises, written once: its contract names it, and any two outcomes that it allows are equal.
use Rattle.std.specs.Prelude.{ℕ, ◌≡◌, Bool, List, Option}
use Rattle.std.proofs.Common.{ap, ◌∙◌}
use Rattle.laws.specs.Unique.{Determines, by_equation, by_equation_with}
use Rattle.table.specs.Table.{Table}
use Rattle.lookup.specs.Lookups.{owner_right, looked_up, values_of_lookup, looked_up_values}
use Rattle.lookup.specs.LookupLaws.{looked_up_values_lem}
use Rattle.lookup.specs.declared.records.ContourRecord.{ContourRecord}

abbrev pub OwnerRightSays : (kind owner shape hulls : ℕ) → Bool → Type 0
OwnerRightSays kind owner shape hulls r = r ≡ owner_right kind owner shape hulls

pub owner_right_once : (kind owner shape hulls : ℕ) → Determines (OwnerRightSays kind owner shape hulls)
owner_right_once kind owner shape hulls = by_equation (owner_right kind owner shape hulls)

-- the answer, and the number and values that document 01 has for its case
abbrev pub LookupSays : Table → List ℕ → ℕ → Option ContourRecord → Type 0
LookupSays t owner c r = (r ≡ looked_up t owner c) × (values_of_lookup r ≡ looked_up_values t owner c)

pub lookup_once : (t : Table) (owner : List ℕ) (c : ℕ) → Determines (LookupSays t owner c)
lookup_once t owner c = by_equation_with (looked_up t owner c) (λ r. values_of_lookup r ≡ looked_up_values t owner c)

-- the answer of the definition has those values
pub lookup_keeps : (t : Table) (owner : List ℕ) (c : ℕ) (r : Option ContourRecord) → r ≡ looked_up t owner c → LookupSays t owner c r
lookup_keeps t owner c r e = (e, ap values_of_lookup e ∙ looked_up_values_lem t owner c)
