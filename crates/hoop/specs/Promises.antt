-- What each public function promises, written once: its contract names it, and any two outcomes that it allows are equal.
use Rattle.std.specs.Prelude.{List, ◌≡◌, ℕ, Option}
use Rattle.laws.specs.Unique.{Determines, same_part}
use Rattle.turn.specs.declared.Point.{Point}
use Rattle.hoop.specs.declared.Hoop.{Hoop}
use Rattle.hoop.specs.declared.Place.{Place}
use Rattle.hoop.specs.Hoops.{Backed, Placed, Outcome, after, put_end}
use Rattle.hoop.specs.Once.{placed_once}

-- in every list of ends through which `prv` leads back from the hoop's last one
abbrev pub FindPlaceSays : (a b : ℕ → Point) → List ℕ → Hoop → Point → ℕ → Place → Type 0
FindPlaceSays a b prv hoop home q r =
    (e : ℕ → ℕ) (l : List ℕ) → Backed e l prv hoop.tail hoop.count → Placed a b home e l q r

-- that there is such a list is required
pub find_place_once : (a b : ℕ → Point) (prv : List ℕ) (hoop : Hoop) (home : Point) (q : ℕ) (e : ℕ → ℕ) (l : List ℕ)
    → Backed e l prv hoop.tail hoop.count → Determines (FindPlaceSays a b prv hoop home q)
find_place_once a b prv hoop home q e l backed r s p o = placed_once a b home e l q r s (p e l backed) (o e l backed)

abbrev pub PutEndSays : (nxt prv : List ℕ) → Hoop → Place → ℕ → Option Hoop → (nxt' prv' : List ℕ) → Type 0
PutEndSays nxt prv hoop place q r nxt' prv' = after r nxt' prv' ≡ put_end nxt prv hoop place q

pub put_end_once : (nxt prv : List ℕ) (hoop : Hoop) (place : Place) (q : ℕ) (r s : Option Hoop) (nxt₁ nxt₂ prv₁ prv₂ : List ℕ)
    → PutEndSays nxt prv hoop place q r nxt₁ prv₁ → PutEndSays nxt prv hoop place q s nxt₂ prv₂
    → (r ≡ s) × (nxt₁ ≡ nxt₂) × (prv₁ ≡ prv₂)
put_end_once nxt prv hoop place q r s nxt₁ nxt₂ prv₁ prv₂ p o = (
  same_part (λ (x : Outcome). x.taken) p o,
  same_part (λ (x : Outcome). x.nxt) p o,
  same_part (λ (x : Outcome). x.prv) p o,
)
