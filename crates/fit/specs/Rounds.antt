-- The points of a finished walk: neighbours round it differ, and all are on the grid.
use Rattle.std.specs.Prelude.{ℕ, zero, suc, ◌<◌, ◌≡◌, refl, Bool, true, false, length, get_or}
use Rattle.std.proofs.Common.{arith, sym, ◌∙◌}
use mathlib.Core.List.{List, [], ◌∷◌, map, Memᴰ}
use Rattle.laws.specs.Test.{pick, pick_ind}
use Rattle.turn.specs.Points.{differ, OnGrid}
use Rattle.turn.specs.PointOrder.{before_differ, differ_sym}
use Rattle.graph.specs.Graph.{Graph, Lent, graph_of}
use Rattle.graph.specs.Checks.{Room}
use Rattle.graph.specs.Fine.{FineGraph}
use Rattle.walk.specs.Walk.{Step, left}
use Rattle.tour.specs.Statement.{node_left, node_reached, reached, Line}
use Rattle.straighten.specs.Reread.{origin}

module _ (g : Lent) (top st : List ℕ) (r : Room) (f : FineGraph g top st r) where
  abbrev G : Graph
  G = graph_of g top

  -- every link of a list is one of the graph's
  abbrev pub Links : List Step → Type 0
  Links l = (p : Step) → Memᴰ p l → p.link < G.n

  -- ---- on the grid
  pub left_grid : (p : Step) → p.link < G.n → OnGrid (left G p)
  left_grid p h = pick_ind p.forward (G.a p.link) (G.b p.link) OnGrid (λ _. f.links.a_grid p.link h) (λ _. f.links.b_grid p.link h)

  -- ---- a step leaves one point and reaches another
  apart : (p : Step) → p.link < G.n → differ (left G p) (reached G p) ≡ true
  apart p h = by p.forward
    where
      ab : differ (G.a p.link) (G.b p.link) ≡ true
      ab = before_differ (G.a p.link) (G.b p.link) (f.links.strict p.link h)

      by : (b : Bool) → differ (pick b (G.a p.link) (G.b p.link)) (pick b (G.b p.link) (G.a p.link)) ≡ true
      by true = ab
      by false = differ_sym (G.b p.link) (G.a p.link) ∙ ab

  -- the next step leaves the point that this one reached
  pub meets : (p q : Step) → p.link < G.n → q.link < G.n → node_left G q ≡ node_reached G p → left G q ≡ reached G p
  meets p q h k = by q.forward p.forward
    where
      by : (b c : Bool) → pick b (G.a_node q.link) (G.b_node q.link) ≡ pick c (G.b_node p.link) (G.a_node p.link)
          → pick b (G.a q.link) (G.b q.link) ≡ pick c (G.b p.link) (G.a p.link)
      by true true e = f.one_point.ab q.link p.link k h e
      by true false e = f.one_point.aa q.link p.link k h e
      by false true e = f.one_point.bb q.link p.link k h e
      by false false e = sym (f.one_point.ab p.link q.link h k (sym e))

  pub neighbours : (p q : Step) → p.link < G.n → q.link < G.n → node_left G q ≡ node_reached G p → differ (left G p) (left G q) ≡ true
  neighbours p q h k e = rw (meets p q h k e) (apart p h)

  -- ---- along a line of steps
  pub line_next : (l : List Step) (v u : ℕ) → Links l → Line G v l u → (i : ℕ) → suc i < length l
      → differ (get_or (map (left G) l) i origin) (get_or (map (left G) l) (suc i) origin) ≡ true
  line_next [] v u a n i h = absurd (nothing i h)
    where
      nothing : (i : ℕ) → suc i < 0 → ⊥
      nothing i h = omega arith
  line_next (s ∷ []) v u a n i h = absurd (nothing i h)
    where
      nothing : (i : ℕ) → suc i < 1 → ⊥
      nothing i h = omega arith
  line_next (s ∷ (q ∷ l)) v u a n zero h = neighbours s q (a s (Memᴰ.head refl)) (a q (Memᴰ.tail (Memᴰ.head refl))) n.1.0
  line_next (s ∷ (q ∷ l)) v u a n (suc i) h = line_next (q ∷ l) (node_reached G s) u (λ p m. a p (Memᴰ.tail m)) n.1 i (omega arith)

  -- from the last step to one that leaves the node where the line ends
  pub line_last : (l : List Step) (v u : ℕ) → Links l → Line G v l u → (q : Step) → q.link < G.n → node_left G q ≡ u → (i : ℕ) → suc i ≡ length l
      → differ (get_or (map (left G) l) i origin) (left G q) ≡ true
  line_last [] v u a n q k e i h = absurd (nothing i h)
    where
      nothing : (i : ℕ) → suc i ≡ 0 → ⊥
      nothing i h = omega arith
  line_last (s ∷ []) v u a n q k e zero h = neighbours s q (a s (Memᴰ.head refl)) k (e ∙ sym n.1)
  line_last (s ∷ []) v u a n q k e (suc i) h = absurd (nothing i h)
    where
      nothing : (i : ℕ) → suc (suc i) ≡ 1 → ⊥
      nothing i h = omega arith
  line_last (s ∷ (t ∷ l)) v u a n q k e zero h = absurd (nothing (length l) h)
    where
      nothing : (k : ℕ) → 1 ≡ suc (suc k) → ⊥
      nothing k h = omega arith
  line_last (s ∷ (t ∷ l)) v u a n q k e (suc i) h = line_last (t ∷ l) (node_reached G s) u (λ p m. a p (Memᴰ.tail m)) n.1 q k e i (omega arith)
