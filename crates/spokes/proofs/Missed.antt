-- Whether a number misses: by what the code asks of it, one thing after the other.
use Prim.Native.Nat.{ℕ, ◌≤◌, ◌<◌}
use mathlib.Core.Path.{◌≡◌}
use mathlib.Core.Bool.{Bool, true, ◌||◌}
use mathlib.Core.List.{List}
use lib.ListN.{length, get_or}
use borrow.Author.Tests.{le-leb, lt-leb, eq-eqb, ne_eqb}
use Rattle.turn.specs.declared.Point.{Point}
use Rattle.turn.specs.Points.{differ}
use Rattle.graph.specs.Checks.{node_at, end_at, stray}

module _ (a b : ℕ → Point) (aid bid : List ℕ) (home : Point) (v f : ℕ) where
  abbrev pub miss : Bool
  miss = stray aid bid v f || differ home (end_at a b (node_at aid) v f)

  pub miss_no_link : length aid ≤ f → true ≡ miss
  miss_no_link h = rw (le-leb (length aid) f h)

  pub miss_a : f < length aid → get_or aid f 0 ≡ v → differ home (a f) ≡ miss
  miss_a h e = rw (lt-leb (length aid) f h, eq-eqb (get_or aid f 0) v e)

  module _ (h : f < length aid) (n : get_or aid f 0 ≡ v → ⊥) where
    pub miss_b : get_or bid f 0 ≡ v → differ home (b f) ≡ miss
    miss_b e = rw (lt-leb (length aid) f h, ne_eqb (get_or aid f 0) v n, eq-eqb (get_or bid f 0) v e)

    pub miss_else : (get_or bid f 0 ≡ v → ⊥) → true ≡ miss
    miss_else m = rw (lt-leb (length aid) f h, ne_eqb (get_or aid f 0) v n, ne_eqb (get_or bid f 0) v m)
