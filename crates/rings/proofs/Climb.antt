-- Rule 1 by a loop over the linked ring: from the scan's link onward
-- to the ring's end, keeping the last unvisited link met.
use Rattle.std.specs.Prelude.{ℕ, ◌≡◌, true, Some}
use Rattle.std.proofs.Common.{ap, ◌∙◌}
use mathlib.Core.List.{List, [], ◌∷◌, reverse, reverse_aux-append}
use Rattle.laws.specs.Test.{pick_true}
use Rattle.next.specs.Next.{is_unvisited}
use Rattle.next.specs.Choice.{Mem}
use Rattle.rings.specs.Rotation.{after, ahead, split, first_unvisited, last_unvisited}
use Rattle.rings.specs.Climb.{last_aux, last_or}

pub last_from : (st l : List ℕ) (k : ℕ) → Mem k l → is_unvisited st k ≡ true
    → last_unvisited st l ≡ Some (last_or st k (after k l))
last_from st l k m o =
    ap (last_unvisited st) (split k l m) ∙ ap (first_unvisited st) (reverse_aux-append (ahead k l) (k ∷ after k l) [])
    ∙ last_aux st k (after k l) (k ∷ reverse (ahead k l))
    (pick_true (Some k) (first_unvisited st (reverse (ahead k l))) o)
