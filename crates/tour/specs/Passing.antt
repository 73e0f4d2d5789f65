-- A graph that passes checks 1 to 7 has what the third demand uses.
use Rattle.std.specs.Prelude.{ℕ, zero, suc, ◌<◌, ◌≡◌, refl, List, [], ◌∷◌, get_or, eqb}
use Rattle.std.proofs.Common.{arith, ◌∙◌, subst, eqb-true}
use Rattle.laws.specs.Test.{Is, pick_ind, is_true, true≢false}
use Rattle.turn.specs.Points.{from_to}
use Rattle.turn.specs.Angle.{nonzero}
use Rattle.turn.specs.PointOrder.{before_differ, differ_sym, nonzero_between}
use Rattle.graph.specs.Graph.{Lent, Graph, graph_of}
use Rattle.graph.specs.Checks.{Room, checked}
use Rattle.graph.specs.Fine.{FineGraph, fine}
use Rattle.next.specs.States.{unvisited_below}
use Rattle.walk.specs.States.{Unvisited}
use Rattle.tour.specs.Sound.{Sound}
use Rattle.turn.specs.Refusals.{no_fault}

-- an unvisited link is unskipped
not_skipped : (st : List ℕ) (k : ℕ) → Unvisited st k → get_or st k 0 ≡ 1 → ⊥
not_skipped [] k o e = true≢false o refl
not_skipped (x ∷ st) zero o e = omega (arith, eqb-true x 0 o)
not_skipped (x ∷ st) (suc k) o e = not_skipped st k o e

pub sound_fine : (g : Lent) (top st : List ℕ) (r : Room) → FineGraph g top st r → Sound (graph_of g top) st
sound_fine g top st r h =
    let G : Graph = graph_of g top in
    record {
      states = h.band.state_long;
      lists = record { differ = h.links.two_nodes; at_a = h.lists.at_a; at_b = h.lists.at_b; only = h.lists.only };
      single = h.lists.once;
      points = h.one_point;
      spread = record {
        long = λ v k o.
            let d = before_differ (G.a k) (G.b k) (h.links.strict k (subst (λ n. k < n) h.band.state_long (unvisited_below st k o))) in
            pick_ind (eqb (G.a_node k) v) (from_to (G.a k) (G.b k)) (from_to (G.b k) (G.a k)) (λ u. Is (nonzero u))
            (λ t. nonzero_between (G.a k) (G.b k) d) (λ n. nonzero_between (G.b k) (G.a k) (differ_sym (G.b k) (G.a k) ∙ d));
        apart = λ v x y ox oy mx my d s. true≢false (is_true s)
            (h.band.spread v x y mx my d (not_skipped st x ox) (not_skipped st y oy));
      };
    }

pub sound : (g : Lent) (top st : List ℕ) (r : Room) → checked g top st r ≡ no_fault → Sound (graph_of g top) st
sound g top st r e = sound_fine g top st r (fine g top st r e)
