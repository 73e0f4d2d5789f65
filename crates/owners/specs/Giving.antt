-- Owners given hole by hole, over the lists that the code has.
use Rattle.std.specs.Prelude.{ℕ, ◌≤◌, ◌<◌, List, [], ◌∷◌, length, get_or, set, eqb}
use Rattle.laws.specs.Test.{pick}
use Rattle.table.specs.Table.{dropped_owner}
use Rattle.owners.specs.Owners.{Owned, owned, given}
use Rattle.turn.specs.Refusals.{refused, no_fault}
use Rattle.turn.specs.declared.Reason.TheVariants.{NoParent}

-- hole by hole: as `give_each`, with the holes' contours and what lies under them in lists
unfoldable pub give_listed : List ℕ → List ℕ → List ℕ → List ℕ → Owned
give_listed who under [] owners = owned no_fault owners
give_listed who under (j ∷ l) owners =
    let parent = given (get_or under j 0) owners in
    let rest = give_listed who under l (set owners (get_or who j 0) parent) in
    pick (eqb parent dropped_owner) (owned (refused NoParent (get_or who j 0)) owners) rest

-- holes j of m, their contours and those under them, among n contours
pub record Listed (ord who under : List ℕ) (m n : ℕ) : Type 0 where
  pub ord_room : m ≤ length ord
  pub ord_below : (i : ℕ) → i < m → get_or ord i 0 < m
  pub who_room : m ≤ length who
  pub who_below : (j : ℕ) → j < m → get_or who j 0 < n
  pub under_room : m ≤ length under
  pub under_below : (j : ℕ) → j < m → get_or under j 0 ≤ n
