-- The ring order of the links at a node: those whose b is there, then those whose a is, each counterclockwise.
-- As a is before b, it is the order by angle, counterclockwise from just after straight up to straight up itself.
use Rattle.std.specs.Prelude.{ℕ, ◌≡◌, ◌⊎◌, true, false, not, ◌&&◌, pos}
use Rattle.std.proofs.Common.{sym, ap, ap₂, ◌∙◌, inl, inr, ⊎_elim}
use Rattle.std.specs.Int.Signed.{lt_z}
use Rattle.laws.specs.Test.{Is, yes!, is_true, true_is, true≢false, ⇔-eq, mp}
use Rattle.laws.specs.Sign.{Sgn, zer, pls, sgn, flip, ◌⊗◌, eq_s, plus_ok, all6, sgn_neg, gt_z_sgn}
use Rattle.turn.specs.declared.Vector.{Vector}
use Rattle.turn.specs.Points.{cross, dot}
use Rattle.turn.specs.Angle.{half_turn, sooner, met_before, same_direction, nonzero}
use Rattle.turn.specs.Angular.{irreflexive, asymmetric, transitive, total, together}
use Rattle.turn.specs.Directions.{cross_sign}
use Rattle.turn.specs.Rightward.{right}
use Rattle.graph.specs.Graph.{Graph}
use Rattle.graph.specs.Checks.{away_from}
use Rattle.rings.specs.RingOrder.{Forward, agree, flip_flip, in_turn, rightward, ring_before, up, up_cross, up_dot, way_nonzero, way_side}

by_signs : (ax ay bx by s : Sgn) → Is (not (eq_s ax zer && eq_s ay zer)) → Is (not (eq_s bx zer && eq_s by zer))
    → Is (plus_ok (ax ⊗ by) (flip (ay ⊗ bx)) s)
    → in_turn (right ax ay) (right bx by) (eq_s s pls) ≡ sooner (half_turn ax ay) (half_turn bx by) (flip s)
by_signs ax ay bx by s p q r =
    ⇔-eq (mp (mp (mp (all6 (λ ax ay bx by s _. agree ax ay bx by s) tt ax ay bx by s zer) p) q) r)

from_up : (e f : Vector) → Is (nonzero e) → Is (nonzero f)
    → in_turn (rightward e) (rightward f) (lt_z (pos 0) (cross e f)) ≡ met_before false up e f
from_up e f he hf =
    ap (in_turn (rightward e) (rightward f)) (gt_z_sgn (cross e f))
    ∙ by_signs (sgn e.x) (sgn e.y) (sgn f.x) (sgn f.y) (sgn (cross e f)) he hf (cross_sign e f)
    ∙ ap₂ (λ h k. sooner h k (flip (sgn (cross e f)))) (half e) (half f)
  where
    half : (u : Vector) → half_turn (sgn u.x) (sgn u.y) ≡ half_turn (flip (sgn (cross up u))) (sgn (dot up u))
    half u = rw (up_cross u, up_dot u, sgn_neg u.x, flip_flip (sgn u.x))

module _ (g : Graph) (v : ℕ) where
  abbrev way : ℕ → Vector
  way = away_from g v

  pub ring_turns : (e f : ℕ) → Forward g e → Forward g f → ring_before g v e f ≡ met_before false up (way e) (way f)
  ring_turns e f se sf =
      ap₂ (λ s t. in_turn s t (lt_z (pos 0) (cross (way e) (way f)))) (sym (way_side g v e se)) (sym (way_side g v f sf))
      ∙ from_up (way e) (way f) (way_nonzero g v e se) (way_nonzero g v f sf)

  pub to_turn : (e f : ℕ) → Forward g e → Forward g f → ring_before g v e f ≡ true
      → Is (met_before false up (way e) (way f))
  to_turn e f se sf h = true_is (sym (ring_turns e f se sf) ∙ h)

  of_turn : (e f : ℕ) → Forward g e → Forward g f → Is (met_before false up (way e) (way f)) → ring_before g v e f ≡ true
  of_turn e f se sf h = ring_turns e f se sf ∙ is_true h

  -- ---- its laws
  pub ring_irreflexive : (e : ℕ) → Forward g e → ring_before g v e e ≡ true → ⊥
  ring_irreflexive e se h = irreflexive false up (way e) (to_turn e e se se h)

  pub ring_asymmetric : (e f : ℕ) → Forward g e → Forward g f
      → ring_before g v e f ≡ true → ring_before g v f e ≡ true → ⊥
  ring_asymmetric e f se sf h k = asymmetric false up (way e) (way f) (to_turn e f se sf h) (to_turn f e sf se k)

  pub ring_transitive : (e f h : ℕ) → Forward g e → Forward g f → Forward g h
      → ring_before g v e f ≡ true → ring_before g v f h ≡ true → ring_before g v e h ≡ true
  ring_transitive e f h se sf sh p q =
      of_turn e h se sh (transitive false up (way e) (way f) (way h) (to_turn e f se sf p) (to_turn f h sf sh q))

  pub ring_total : (e f : ℕ) → Forward g e → Forward g f → same_direction (way e) (way f) ≡ false
      → (ring_before g v e f ≡ true) ⊎ (ring_before g v f e ≡ true)
  ring_total e f se sf d =
      ⊎_elim (λ h. inl (of_turn e f se sf h))
      (⊎_elim (λ h. absurd (true≢false (is_true h) d)) (λ h. inr (of_turn f e sf se h)))
      (total false up (way e) (way f) (yes! tt) (way_nonzero g v e se) (way_nonzero g v f sf))

  -- two of which one stands before the other run in different directions
  pub ring_apart : (e f : ℕ) → Forward g e → Forward g f → ring_before g v e f ≡ true
      → Is (same_direction (way e) (way f)) → ⊥
  ring_apart e f se sf h d =
      together false up (way e) (way f) (yes! tt) (way_nonzero g v e se) (way_nonzero g v f sf) d (to_turn e f se sf h)
