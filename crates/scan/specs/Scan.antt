-- The scan (rules 1, 2 and 7). The outcome is a refusal, or the list of all walks in order, kept and rejected alike.
use Rattle.std.specs.Prelude.{ℕ, zero, suc, Bool, not, List, [], ◌∷◌, length, ltb, Option, Some, None}
use Rattle.std.specs.Bool.{beq}
use Rattle.laws.specs.Test.{pick}
use Rattle.laws.specs.Lowest.{lowest}
use Rattle.graph.specs.Graph.{Graph}
use Rattle.next.specs.Next.{is_unvisited, unvisited, first_link}
use Rattle.walk.specs.Walk.{Walk, Walked, stuck, done, walk_from, mark_of}
use Rattle.turn.specs.declared.Reason.{Reason}
use Rattle.turn.specs.declared.Reason.TheVariants.{NoNextLink}

-- ---- which walk: rule 2

-- "Sense = (hole equals clockwise output)."
abbrev pub sense_of : Graph → Bool → ℕ → Bool
sense_of g cw s = beq (g.top s) cw

-- "If the sense is true, the walk begins at b and goes to a; else at a and goes to b."
abbrev pub walk_of : Graph → Bool → List ℕ → ℕ → Walked
walk_of g cw st s = walk_from g (not (sense_of g cw s)) (sense_of g cw s) (mark_of (g.top s)) st s

-- ---- the scan

pub data Scanned : Type 0 where
  stopped : Reason → ℕ → Scanned
  walks : List Walk → List ℕ → Scanned

abbrev pub cons_walk : Walk → Scanned → Scanned
cons_walk w (stopped reason place) = stopped reason place
cons_walk w (walks l st) = walks (w ∷ l) st

abbrev pub after_walk : ℕ → Bool → (List ℕ → Scanned) → Walked → Scanned
after_walk k hole go (stuck reason) = stopped reason k
after_walk k hole go (done l st) = cons_walk (record { hole = hole; steps = l }) (go st)

-- the walk that the scan starts at link k, and the scan after it
abbrev pub scan_at : Graph → Bool → (List ℕ → Scanned) → List ℕ → ℕ → Option ℕ → Scanned
scan_at g cw go st k None = stopped NoNextLink k
scan_at g cw go st k (Some s) = after_walk k (g.top s) go (walk_of g cw st s)

-- the lowest unvisited link, or the number of links
abbrev pub lowest_unvisited : List ℕ → ℕ
lowest_unvisited st = lowest (is_unvisited st) (length st)

-- "The scan takes the lowest unvisited link k." Rule 7: it "moves on only when link k is visited". A refusal's place is the link the scan stands at.
unfoldable pub scan_on : ℕ → Graph → Bool → List ℕ → Scanned
scan_on zero g cw st = walks [] st
scan_on (suc fuel) g cw st =
    pick (ltb (lowest_unvisited st) (length st))
    (scan_at g cw (λ after. scan_on fuel g cw after) st (lowest_unvisited st) (first_link g st (lowest_unvisited st)))
    (walks [] st)

-- the fuel is above the number of walks, each of which visits a link or more
abbrev pub scan : Graph → Bool → List ℕ → Scanned
scan g cw st = scan_on (suc (unvisited st)) g cw st
