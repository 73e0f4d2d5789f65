-- Where every node of a fine graph is laid, the lists steer a walk and name the first links.
use Rattle.std.specs.Prelude.{ℕ, ◌≡◌}
use mathlib.Core.List.{List, [], ◌∷◌}

-- a list of two
pub record Pair (l : List ℕ) : Type 0 where
  pub one : ℕ
  pub two : ℕ
  pub is : l ≡ one ∷ (two ∷ [])
