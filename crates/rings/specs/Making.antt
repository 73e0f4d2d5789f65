-- How a ring is made: the entries are taken in their order, and each
-- unskipped one is put at its place, looked for from the back.
use Rattle.std.specs.Prelude.{ℕ, ◌≡◌, refl, Bool, true, false, List, [], get_or}
use mathlib.Core.List.Memᴰ
use Rattle.laws.specs.Test.{true≢false}
use Rattle.graph.specs.Graph.{Graph}
use Rattle.next.specs.Choice.{Mem}
use Rattle.rings.specs.RingOrder.{in_turn}
use Rattle.rings.specs.Sorted.{Sorted}
use Rattle.rings.specs.Rings.{InOrder}

pub like_sorts : (s t r : Bool) → s ≡ t → in_turn s t r ≡ r
like_sorts true true r q = refl
like_sorts true false r q = absurd (true≢false refl q)
like_sorts false true r q = absurd (true≢false q refl)
like_sorts false false r q = refl

-- ---- the ring of the entries taken so far
pub record RingOf (g : Graph) (state : List ℕ) (v : ℕ) (taken l : List ℕ) : Type 0 where
  pub sorted : Sorted (InOrder g v) l
  pub only : (k : ℕ) → Mem k l → Mem k taken × (get_or state k 0 ≡ 1 → ⊥)
  pub every : (k : ℕ) → Mem k taken → (get_or state k 0 ≡ 1 → ⊥) → Mem k l

pub none_taken : (g : Graph) (state : List ℕ) (v : ℕ) → RingOf g state v [] []
none_taken g state v = record {
  sorted = tt;
  only = λ k m. absurd (Memᴰ.not-nil m);
  every = λ k m. absurd (Memᴰ.not-nil m);
}
