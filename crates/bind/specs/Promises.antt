-- What each public function promises, written once: its contract names it, and any two outcomes that it allows are equal.
use Rattle.std.specs.Prelude.{ℕ, ◌≡◌, Bool, List, Result}
use Rattle.laws.specs.Unique.{same_part}
use Rattle.table.specs.Table.{Table}
use Rattle.bind.specs.Outcome.{outcome, bound}
use Rattle.turn.specs.declared.Refusal.{Refusal}
use Rattle.bind.specs.declared.Bound.{Bound}

-- over the owner buffer at entry, then the answer and the buffer at exit
abbrev pub BindSays : Table → Bool → (owner : List ℕ) → Result Bound Refusal → (owner' : List ℕ) → Type 0
BindSays t clockwise owner r owner' = outcome r owner' ≡ bound t clockwise owner

pub bind_once : (t : Table) (clockwise : Bool) (owner : List ℕ) (r s : Result Bound Refusal) (owner₁ owner₂ : List ℕ)
    → BindSays t clockwise owner r owner₁ → BindSays t clockwise owner s owner₂ → (r ≡ s) × (owner₁ ≡ owner₂)
bind_once t clockwise owner r s owner₁ owner₂ p q = (same_part (λ o. o.answer) p q, same_part (λ o. o.owner) p q)
