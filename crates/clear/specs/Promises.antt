-- What each public function promises, written once: its contract names it, and any two outcomes that it allows are equal, list by list.
use Rattle.std.specs.Prelude.{ℕ, ◌*◌, ◌≡◌, List, ℤ, pos}
use Rattle.std.proofs.Common.{sym, ◌∙◌}
use Rattle.laws.specs.Lists.{map_from}
use Rattle.walk.specs.Code.{unmark}

-- states, points, firsts, lengths and kinds before, then after
abbrev pub ClearSays : List ℕ → List ℤ → (first len kind : List ℕ) → List ℕ → List ℤ → (first' len' kind' : List ℕ) → Type 0
ClearSays state points first len kind state' points' first' len' kind' =
    (state' ≡ map_from unmark 0 state)
    × ((points' ≡ map_from (λ _. pos 0) 0 points)
    × ((first' ≡ map_from (λ _. 0) 0 first) × ((len' ≡ map_from (λ _. 0) 0 len) × (kind' ≡ map_from (λ _. 0) 0 kind))))

pub clear_once : (state : List ℕ) (points : List ℤ) (first len kind : List ℕ)
    (state₁ : List ℕ) (points₁ : List ℤ) (first₁ len₁ kind₁ : List ℕ) (state₂ : List ℕ) (points₂ : List ℤ) (first₂ len₂ kind₂ : List ℕ)
    → ClearSays state points first len kind state₁ points₁ first₁ len₁ kind₁
    → ClearSays state points first len kind state₂ points₂ first₂ len₂ kind₂
    → (state₁ ≡ state₂) × (points₁ ≡ points₂) × (first₁ ≡ first₂) × (len₁ ≡ len₂) × (kind₁ ≡ kind₂)
clear_once state points first len kind state₁ points₁ first₁ len₁ kind₁ state₂ points₂ first₂ len₂ kind₂ p q = (
  p.0 ∙ sym q.0,
  p.1.0 ∙ sym q.1.0,
  p.1.1.0 ∙ sym q.1.1.0,
  p.1.1.1.0 ∙ sym q.1.1.1.0,
  p.1.1.1.1 ∙ sym q.1.1.1.1,
)

-- points, firsts, lengths and kinds before, then after
abbrev pub TrimSays : (written contours : ℕ) → List ℤ → (first len kind : List ℕ) → List ℤ → (first' len' kind' : List ℕ) → Type 0
TrimSays written contours points first len kind points' first' len' kind' =
    (points' ≡ map_from (λ _. pos 0) (written * 2) points)
    × ((first' ≡ map_from (λ _. 0) contours first)
    × ((len' ≡ map_from (λ _. 0) contours len) × (kind' ≡ map_from (λ _. 0) contours kind)))

pub trim_once : (written contours : ℕ) (points : List ℤ) (first len kind : List ℕ)
    (points₁ : List ℤ) (first₁ len₁ kind₁ : List ℕ) (points₂ : List ℤ) (first₂ len₂ kind₂ : List ℕ)
    → TrimSays written contours points first len kind points₁ first₁ len₁ kind₁
    → TrimSays written contours points first len kind points₂ first₂ len₂ kind₂
    → (points₁ ≡ points₂) × (first₁ ≡ first₂) × (len₁ ≡ len₂) × (kind₁ ≡ kind₂)
trim_once written contours points first len kind points₁ first₁ len₁ kind₁ points₂ first₂ len₂ kind₂ p q = (
  p.0 ∙ sym q.0,
  p.1.0 ∙ sym q.1.0,
  p.1.1.0 ∙ sym q.1.1.0,
  p.1.1.1 ∙ sym q.1.1.1,
)
