-- What a graph that the checks call fine gives the functions here: what they require, and that the first link of the
-- scan is the topmost of the unvisited links at its node.
use Rattle.std.specs.Prelude.{ℕ, ◌≤◌, ◌<◌, ◌≡◌, true, List, length}
use Rattle.std.proofs.Common.{sym, ◌∙◌, subst, ⊎_elim}
use Rattle.laws.specs.Test.{true≢false}
use Rattle.turn.specs.declared.Point.{Point}
use Rattle.turn.specs.Points.{before}
use Rattle.graph.specs.Graph.{Lent, Graph, graph_of, link_count}
use Rattle.graph.specs.Checks.{Room}
use Rattle.graph.specs.Fine.{FineGraph}
use Rattle.next.specs.Next.{is_unvisited, topmost}
use Rattle.next.specs.Known.{Links}
use Rattle.next.specs.Choice.{Mem}
use Rattle.next.specs.Topmost.{Starts, Topmost, first_topmost}

module _ {g : Lent} {top state : List ℕ} {r : Room} (h : FineGraph g top state r) where
  abbrev G : Graph
  G = graph_of g top

  -- ---- what the functions require
  module _ {n : ℕ} (e : link_count g ≡ n) where
    pub links_known : Links g.ax g.ay g.bx g.by n
    links_known = record {
      ax_long = h.even.ax ∙ e;
      ay_long = h.even.ay ∙ e;
      bx_long = h.even.bx ∙ e;
      by_long = h.even.by ∙ e;
      a_grid = λ k l. h.links.a_grid k (rw e l);
      b_grid = λ k l. h.links.b_grid k (rw e l);
    }

  -- ---- the scan's first link at a `Cross`: k is the lowest unvisited link
  module _ (st : List ℕ) (k : ℕ) (l : k < link_count g) (o : is_unvisited st k ≡ true) (lowest : (x : ℕ) → is_unvisited st x ≡ true → k ≤ x) where
    start_there : (x : ℕ) → Mem x (G.entries (G.a_node k)) → is_unvisited st x ≡ true → Starts G (G.a k) x
    start_there x m ox =
        let b = h.lists.below (G.a_node k) x m in
        let s = h.links.strict x b in
        ⊎_elim
        (λ (q : G.a_node x ≡ G.a_node k). record { here = h.one_point.aa x k b l q; onward = s })
        (λ (q : G.b_node x ≡ G.a_node k).
        absurd (true≢false (subst (λ (p : Point). before (G.a x) p ≡ true) (sym (h.one_point.ab k x l b (sym q))) s) (h.links.order k x (lowest x ox) b)))
        (h.lists.only (G.a_node k) x m)

    pub first_fine : (length (G.entries (G.a_node k)) ≡ 2 → ⊥) → Topmost G st (G.a k) (G.entries (G.a_node k)) (topmost G st k k (G.entries (G.a_node k)))
    first_fine at_cross = first_topmost G st k at_cross (G.a k) o (start_there k (h.lists.at_a k l) o) start_there
