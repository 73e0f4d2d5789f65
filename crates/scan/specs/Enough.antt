-- Of any graph: the fuel of the scan is enough, so that more changes nothing.
use Prim.Native.Nat.{ℕ, zero, suc, ◌<◌}
use Rattle.std.proofs.Common.{arith, ap}
use Rattle.std.specs.Prelude.{◌≡◌, refl, Bool, true, false, not, length, ltb, Option, Some, None}
use mathlib.Core.List.{List, []}
use Rattle.laws.specs.Test.{pick}
use Rattle.graph.specs.Graph.{Graph}
use Rattle.next.specs.Next.{unvisited, first_link}
use Rattle.walk.specs.Walk.{Walked, stuck, done, mark_of}
use Rattle.scan.specs.Scan.{sense_of, walk_of, Scanned, walks, cons_walk, after_walk, scan_at, lowest_unvisited, scan_on}
use Rattle.walk.specs.Named.{LinkUnvisited, first_is_unvisited}
use Rattle.walk.specs.Visits.{Visits, from_visits, visits_fewer, mark_of_lem}
use Rattle.scan.specs.Visits.{lowest_unvisited_lem}
use Rattle.walk.specs.Enough.{no_fewer}

pick_same : {A : Type 0} (b : Bool) (x y z : A) → (b ≡ true → x ≡ y) → pick b x z ≡ pick b y z
pick_same true x y z h = h refl
pick_same false x y z h = refl

-- ---- the scan
module _ (g : Graph) (cw : Bool) where
  after_walk_lem : (p q : List ℕ → Scanned) (st : List ℕ) (k : ℕ) (hole : Bool) (o : Walked) → Visits (mark_of hole) st o
      → ((after : List ℕ) → unvisited after < unvisited st → p after ≡ q after) → after_walk k hole p o ≡ after_walk k hole q o
  after_walk_lem p q st k hole (stuck reason) v h = refl
  after_walk_lem p q st k hole (done l after) v h =
      ap (cons_walk (record { hole = hole; steps = l })) (h after (visits_fewer (mark_of hole) st l after (mark_of_lem hole) v))

  at_first : (p q : List ℕ → Scanned) (st : List ℕ) (k : ℕ) (o : Option ℕ) → LinkUnvisited st o
      → ((after : List ℕ) → unvisited after < unvisited st → p after ≡ q after) → scan_at g cw p st k o ≡ scan_at g cw q st k o
  at_first p q st k None i h = refl
  at_first p q st k (Some s) i h =
      after_walk_lem p q st k (g.top s) (walk_of g cw st s) (from_visits g (not (sense_of g cw s)) (sense_of g cw s) (mark_of (g.top s)) st s i) h

  pub scan_enough : (fuel fuel' : ℕ) (st : List ℕ) → unvisited st < fuel → unvisited st < fuel' → scan_on fuel g cw st ≡ scan_on fuel' g cw st
  unfolding scan_on
  scan_enough zero fuel' st h k = absurd (no_fewer st h)
  scan_enough (suc fuel) zero st h k = absurd (no_fewer st k)
  scan_enough (suc fuel) (suc fuel') st h k =
      pick_same (ltb (lowest_unvisited st) (length st)) _ _ (walks [] st)
      (λ t. at_first (λ after. scan_on fuel g cw after) (λ after. scan_on fuel' g cw after) st (lowest_unvisited st) (first_link g st (lowest_unvisited st))
      (first_is_unvisited g st (lowest_unvisited st) (lowest_unvisited_lem st t)) (λ after l. scan_enough fuel fuel' after (omega arith) (omega arith)))
