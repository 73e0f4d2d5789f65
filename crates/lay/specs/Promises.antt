-- What each public function promises, written once: its contract names it, and any two outcomes that it allows are equal.
use Rattle.std.specs.Prelude.{List, ◌≡◌, refl, Bool, true, false, ℕ, ◌-◌, ◌<◌, length}
use Rattle.laws.specs.Lowest.{some}
use Rattle.laws.specs.Test.{true≢false}
use Rattle.turn.specs.declared.Point.{Point}
use Rattle.graph.specs.Graph.{part}
use Rattle.graph.specs.Checks.{node_at}
use Rattle.graph.specs.Quick.{node_wrong}
use Rattle.lay.specs.declared.Found.{Found}
use Rattle.lay.specs.declared.Found.TheVariants.{Fault, Nothing, Wide}

-- what the pass finds, by whether something is wrong: it stops at a node of more than `most` entries, so never where the list has no more
abbrev pub Finds : Bool → ℕ → ℕ → Found → Type 0
Finds wrong entries most Fault = wrong ≡ true
Finds wrong entries most Nothing = wrong ≡ false
Finds wrong entries most Wide = most < entries

-- the answer; of the field of ends see `Laid`
abbrev pub LayNodesSays : (a b : ℕ → Point) → (a_id b_id start list state : List ℕ) → ℕ → Found → Type 0
LayNodesSays a b a_id b_id start list state =
    Finds (some (λ v. node_wrong a_id b_id a b (node_at a_id) state (part start list v) v) (length start - 1)) (length list)

finds_once : (wrong : Bool) (entries most : ℕ) (r s : Found) → Finds wrong entries most r → Finds wrong entries most s → (r ≡ Wide → ⊥)
    → (s ≡ Wide → ⊥) → r ≡ s
finds_once wrong entries most Fault Fault p q m n = refl
finds_once wrong entries most Fault Nothing p q m n = absurd (true≢false p q)
finds_once wrong entries most Fault Wide p q m n = absurd (n refl)
finds_once wrong entries most Nothing Fault p q m n = absurd (true≢false q p)
finds_once wrong entries most Nothing Nothing p q m n = refl
finds_once wrong entries most Nothing Wide p q m n = absurd (n refl)
finds_once wrong entries most Wide s p q m n = absurd (m refl)

-- two answers, where it does not stop
pub lay_nodes_once : (a b : ℕ → Point) (a_id b_id start list state : List ℕ) (most : ℕ) (r s : Found) → LayNodesSays a b a_id b_id start list state most r
    → LayNodesSays a b a_id b_id start list state most s → (r ≡ Wide → ⊥) → (s ≡ Wide → ⊥) → r ≡ s
lay_nodes_once a b a_id b_id start list state =
    finds_once (some (λ v. node_wrong a_id b_id a b (node_at a_id) state (part start list v) v) (length start - 1)) (length list)
