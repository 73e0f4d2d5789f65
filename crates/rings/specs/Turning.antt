-- Three ways in turn, cut from the round at a fourth: what stands in
-- the order x, y, z from u is met so from each of the three.
use Rattle.std.specs.Prelude.{◌≡◌, Bool, true, false, not, ℕ}
use Rattle.std.proofs.Common.{ap, ⊎_elim}
use Rattle.laws.specs.Test.{Is, true_is}
use Rattle.turn.specs.declared.Vector.{Vector}
use Rattle.turn.specs.Angle.{met_before, same_direction, nonzero}
use Rattle.turn.specs.Angular.{asymmetric, own_last, total, together, transitive_on, reversed}
use Rattle.turn.specs.Directions.{same_sym}
use Rattle.graph.specs.Graph.{Graph}
use Rattle.graph.specs.Checks.{away_from}
use Rattle.next.specs.Next.{met_first}
use Rattle.rings.specs.RingOrder.{Forward, way_nonzero}

-- ---- ways: in the order of turning from u; and from the next of three in turn
module _ (w : Bool) (x y z : Vector) (hx : Is (nonzero x)) (hy : Is (nonzero y)) (hz : Is (nonzero z)) where
  pub in_turn_lem : (u : Vector) → Is (nonzero u) → Is (met_before w u x y) → Is (met_before w u y z) → Is (met_before w x y z)
  in_turn_lem u hu p q =
      ⊎_elim (λ h. h)
      (⊎_elim (λ h. absurd (together w u y z hu hy hz h q))
      (λ h. absurd (asymmetric w u y z q (transitive_on w u x z hu hx hz y hy p h))))
      (total w x y z hx hy hz)

  pub rotate : (Is (same_direction x z) → ⊥) → Is (met_before w x y z) → Is (met_before w y z x)
  rotate d p =
      ⊎_elim (λ h. h)
      (⊎_elim (λ h. absurd (d (same_sym z x h)))
      (λ h. absurd (own_last w x z (transitive_on w x y x hx hy hx z hz p h))))
      (total w y z x hy hz hx)

-- clockwise from e it is the reverse, of links that run in other directions than e
pub met_reversed : (g : Graph) (v e f h : ℕ) → Forward g e → Forward g f → Forward g h
    → same_direction (away_from g v e) (away_from g v f) ≡ false → same_direction (away_from g v e) (away_from g v h) ≡ false
    → met_first g true v e h f ≡ met_first g false v e f h
met_reversed g v e f h se sf sh df dh =
    reversed false (away_from g v e) (away_from g v f) (away_from g v h) (way_nonzero g v e se) (way_nonzero g v f sf)
    (way_nonzero g v h sh)
    (true_is (ap not df)) (true_is (ap not dh))
