-- Three ways in turn, cut from the round at a fourth: what stands in
-- the order x, y, z from u is met so from each of the three.
use Rattle.std.specs.Prelude.{◌≡◌, true, false, ℕ}
use Rattle.laws.specs.Test.{Is, yes!, is_true}
use Rattle.turn.specs.declared.Vector.{Vector}
use Rattle.turn.specs.Angle.{met_before}
use Rattle.turn.specs.Directions.{same_sym}
use Rattle.graph.specs.Graph.{Graph}
use Rattle.graph.specs.Checks.{away_from}
use Rattle.next.specs.Next.{met_first}
use Rattle.rings.specs.RingOrder.{ring_before, up, Forward, way_nonzero}
use Rattle.rings.proofs.RingOrder.{to_turn, ring_transitive, ring_apart}
use Rattle.rings.specs.Turning.{in_turn_lem, rotate}

-- ---- links x, y, z in ring order at node v: turning counterclockwise from each, which of the others is met first
module _ (g : Graph) (v x y z : ℕ) (sx : Forward g x) (sy : Forward g y) (sz : Forward g z)
    (xy : ring_before g v x y ≡ true) (yz : ring_before g v y z ≡ true) where
  abbrev way : ℕ → Vector
  way = away_from g v

  first : Is (met_before false (way x) (way y) (way z))
  first = in_turn_lem false (way x) (way y) (way z) (way_nonzero g v x sx) (way_nonzero g v y sy) (way_nonzero g v z sz)
      up (yes! tt) (to_turn g v x y sx sy xy) (to_turn g v y z sy sz yz)

  second : Is (met_before false (way y) (way z) (way x))
  second = rotate false (way x) (way y) (way z) (way_nonzero g v x sx) (way_nonzero g v y sy) (way_nonzero g v z sz)
      (ring_apart g v x z sx sz (ring_transitive g v x y z sx sy sz xy yz)) first

  third : Is (met_before false (way z) (way x) (way y))
  third = rotate false (way y) (way z) (way x) (way_nonzero g v y sy) (way_nonzero g v z sz) (way_nonzero g v x sx)
      (λ d. ring_apart g v x y sx sy xy (same_sym (way y) (way x) d)) second

  pub met_from_first : met_first g false v x y z ≡ true
  met_from_first = is_true first

  pub met_from_second : met_first g false v y z x ≡ true
  met_from_second = is_true second

  pub met_from_third : met_first g false v z x y ≡ true
  met_from_third = is_true third
