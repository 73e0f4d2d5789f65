-- What each public function promises, written once: its contract names it, and any two outcomes that it allows are equal.
use Rattle.std.specs.Prelude.{ℕ, ◌≡◌, Bool, List, length}
use Rattle.laws.specs.Lists.{tabulate}
use Rattle.laws.specs.Unique.{Determines, by_equation, same_part}
use Rattle.table.specs.Table.{Table}
use Rattle.order.specs.HoleOrder.{binding_order}
use Rattle.owners.specs.Owners.{owned, first_owner, give_each, contour_below}
use Rattle.turn.specs.Refusals.{Checked}

-- over the owners at exit
abbrev pub NumberHullsSays : (kind own' : List ℕ) → Type 0
NumberHullsSays kind own' = own' ≡ tabulate (first_owner kind) (length kind)

pub number_hulls_once : (kind : List ℕ) → Determines (NumberHullsSays kind)
number_hulls_once kind = by_equation (tabulate (first_owner kind) (length kind))

-- over the owners at entry, then the answer and the owners at exit
abbrev pub SearchOwnersSays : Table → Bool → (own : List ℕ) → Checked → (own' : List ℕ) → Type 0
SearchOwnersSays t clockwise own r own' = owned r own' ≡ give_each (contour_below t clockwise) (binding_order t clockwise) own

pub search_owners_once : (t : Table) (clockwise : Bool) (own : List ℕ) (r s : Checked) (own₁ own₂ : List ℕ)
    → SearchOwnersSays t clockwise own r own₁ → SearchOwnersSays t clockwise own s own₂ → (r ≡ s) × (own₁ ≡ own₂)
search_owners_once t clockwise own r s own₁ own₂ p q = (same_part (λ o. o.answer) p q, same_part (λ o. o.owners) p q)
