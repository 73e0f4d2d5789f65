-- What each public function promises, written once: its contract names it, and any two outcomes that it allows are equal.
use Rattle.std.specs.Prelude.{ℕ, ◌≡◌, Bool, List, set}
use Rattle.std.proofs.Common.{sym, ◌∙◌}
use Rattle.laws.specs.Test.{pick}

abbrev pub EnterContourSays : (first len kind : List ℕ) → Bool → (i at size : ℕ) → (first' len' kind' : List ℕ) → Type 0
EnterContourSays first len kind hole i at size first' len' kind' =
    (first' ≡ set first i at) × ((len' ≡ set len i size) × (kind' ≡ set kind i (pick hole 1 0)))

pub enter_contour_once : (first len kind : List ℕ) (hole : Bool) (i at size : ℕ) (f f' l l' k k' : List ℕ)
    → EnterContourSays first len kind hole i at size f l k → EnterContourSays first len kind hole i at size f' l' k'
    → (f ≡ f') × (l ≡ l') × (k ≡ k')
enter_contour_once first len kind hole i at size f f' l l' k k' p q = (p.0 ∙ sym q.0, p.1.0 ∙ sym q.1.0, p.1.1 ∙ sym q.1.1)
