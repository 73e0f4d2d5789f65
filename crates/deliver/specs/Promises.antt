-- What each public function promises, written once: its contract names it, and any two outcomes that it allows are equal.
use Rattle.std.specs.Prelude.{ℕ, ◌≡◌, Bool, List, replicate}
use Rattle.laws.specs.Lists.{over_front}
use Rattle.laws.specs.Unique.{Determines, by_equation, same_part}
use Rattle.table.specs.Table.{Table}
use Rattle.owners.specs.Owners.{owned, searched_owners}
use Rattle.deliver.specs.Delivery.{delivered}
use Rattle.turn.specs.Refusals.{Checked}

abbrev pub FillSays : (n number : ℕ) → List ℕ → List ℕ → Type 0
FillSays n number owner owner' = owner' ≡ over_front (replicate n number) owner

pub fill_once : (n number : ℕ) (owner : List ℕ) → Determines (FillSays n number owner)
fill_once n number owner = by_equation (over_front (replicate n number) owner)

-- over the owner buffer at entry, then the answer and the buffer at exit
abbrev pub BindHolesSays : Table → Bool → (owner : List ℕ) → Checked → (owner' : List ℕ) → Type 0
BindHolesSays t clockwise owner r owner' = owned r owner' ≡ delivered (searched_owners t clockwise) owner

pub bind_holes_once : (t : Table) (clockwise : Bool) (owner : List ℕ) (r s : Checked) (owner₁ owner₂ : List ℕ)
    → BindHolesSays t clockwise owner r owner₁ → BindHolesSays t clockwise owner s owner₂ → (r ≡ s) × (owner₁ ≡ owner₂)
bind_holes_once t clockwise owner r s owner₁ owner₂ p q = (same_part (λ o. o.answer) p q, same_part (λ o. o.owners) p q)
