-- Rule 1 at a `Cross` as the code reads it off the field of ends: what the climb and the descent need.
use Rattle.std.specs.Prelude.{ℕ, ◌*◌, ◌≤◌, ◌≡◌, true, false, List, length, Option, Some}
use Rattle.turn.specs.Limits.{max_links}
use Rattle.graph.specs.Graph.{Graph}
use Rattle.next.specs.Next.{is_unvisited}
use Rattle.rings.specs.Ends.{a_end}
use Rattle.rings.specs.Climb.{Above}
use Rattle.rings.specs.Follow.{Left}
use Rattle.rings.specs.Field.{next_of, prev_of, wraps_at}

-- up from link k the ends of `nxt` lead to a ring's last: in some graph, at some node, to some answer
pub record Rises (nxt st : List ℕ) (k : ℕ) : Type 0 where
  pub few : length st ≤ max_links
  pub nxt_long : 2 * length st ≤ length nxt
  pub graph : Graph
  pub node : ℕ
  pub answer : Option ℕ
  pub above : Above graph node (next_of nxt) (wraps_at nxt) (length st) st answer (a_end k) k

-- what is left of a ring at end `at`, down from link held's a
abbrev pub LeftAt : Graph → ℕ → (prv st : List ℕ) → ℕ → Option ℕ → ℕ → Type 0
LeftAt g v prv st held answer at = Left g v (a_end held) (prev_of prv) (length st) st answer at

-- down from link held, which is visited, the ends of `prv` lead to an unvisited link: in some graph, at some node
pub record Falls (prv st : List ℕ) (held : ℕ) : Type 0 where
  pub few : length st ≤ max_links
  pub prv_long : 2 * length st ≤ length prv
  pub visited : is_unvisited st held ≡ false
  pub graph : Graph
  pub node : ℕ
  pub link : ℕ
  pub fresh : is_unvisited st link ≡ true
  pub left : LeftAt graph node prv st held (Some link) (a_end held)
