-- What the layers above may cite of a graph that `checked` calls fine, over the view `graph_of` that the rules of walking read.
use Rattle.std.specs.Prelude.{ℕ, zero, suc, ◌+◌, ◌*◌, ◌-◌, ◌/◌, ◌≤◌, ◌<◌, ◌≡◌, refl, true, false, ◌⊎◌, length, get_or}
use Rattle.std.proofs.Common.{arith, le_of_eq, sym, ap, ◌∙◌, subst, ⊎_elim, eq-eqb, ne_eqb}
use Rattle.std.proofs.Math.Decide.{dec_le}
use mathlib.Core.List.Memᴰ
use mathlib.Core.List.{List, [], Memᴰ}
use Rattle.laws.specs.Test.{pick_true, pick_false}
use Rattle.turn.specs.declared.Point.{Point}
use Rattle.turn.specs.Limits.{max_links}
use Rattle.turn.specs.Points.{before, OnGrid}
use Rattle.turn.specs.Angle.{same_direction}
use Rattle.graph.specs.Graph.{Lent, Graph, graph_of, link_count, node_count}
use Rattle.laws.specs.Count.{count, counted_in, count_two}
use Rattle.laws.specs.Lists.{Place, place_of, member}
use Rattle.graph.specs.Checks.{Room, end_at, away_from, checked}
use Rattle.graph.specs.Passes.{Even, Rising, EndAt, entry, SharedPasses, BandPasses, Passes}
use Rattle.graph.specs.PointLaws.{Upto, upto, upto_refl, upto_trans, not_before, same_direction_sym}
use Rattle.graph.specs.Known.{Ids}
use Rattle.graph.specs.Total.{starts_within, part_length, part_empty, total}
use Rattle.graph.specs.Exact.{exact}
use Rattle.turn.specs.Refusals.{no_fault}

-- the point of link k's end at node v
abbrev pub end_point : Graph → ℕ → ℕ → Point
end_point G = end_at G.a G.b G.a_node

-- Every link, among m nodes (checks 3 and 4).
pub record FineLinks (G : Graph) (m : ℕ) : Type 0 where
  pub a_grid : (k : ℕ) → k < G.n → OnGrid (G.a k)
  pub b_grid : (k : ℕ) → k < G.n → OnGrid (G.b k)
  pub strict : (k : ℕ) → k < G.n → before (G.a k) (G.b k) ≡ true
  pub a_node_lem : (k : ℕ) → k < G.n → G.a_node k < m
  pub b_node_lem : (k : ℕ) → k < G.n → G.b_node k < m
  pub two_nodes : (k : ℕ) → k < G.n → G.a_node k ≡ G.b_node k → ⊥
  -- no link's a is before an earlier link's a
  pub order : (j k : ℕ) → j ≤ k → k < G.n → before (G.a k) (G.a j) ≡ false

-- The nodes' lists, for m nodes (check 5). A list past the last node is empty, so most facts ask nothing of v.
pub record FineLists (G : Graph) (m : ℕ) : Type 0 where
  pub two : (v : ℕ) → v < m → 2 ≤ length (G.entries v)
  pub empty : (v : ℕ) → m ≤ v → G.entries v ≡ []
  -- an entry is a link with an end there
  pub inside : (v k : ℕ) → Memᴰ k (G.entries v) → v < m
  pub below : (v k : ℕ) → Memᴰ k (G.entries v) → k < G.n
  pub only : (v k : ℕ) → Memᴰ k (G.entries v) → (G.a_node k ≡ v) ⊎ (G.b_node k ≡ v)
  pub below_at : (v i : ℕ) → i < length (G.entries v) → get_or (G.entries v) i 0 < G.n
  -- a link is an entry of its two nodes
  pub at_a : (k : ℕ) → k < G.n → Memᴰ k (G.entries (G.a_node k))
  pub at_b : (k : ℕ) → k < G.n → Memᴰ k (G.entries (G.b_node k))
  -- and stands there once
  pub once : (v k : ℕ) → Memᴰ k (G.entries v) → count k (G.entries v) ≡ 1
  pub no_twice : (v i j : ℕ) → i < length (G.entries v) → j < length (G.entries v) → get_or (G.entries v) i 0 ≡ get_or (G.entries v) j 0 → i ≡ j

-- All ends at a node have one point (check 6).
pub record OnePoint (G : Graph) : Type 0 where
  pub end_a : (k : ℕ) → k < G.n → end_point G (G.a_node k) k ≡ G.a k
  pub end_b : (k : ℕ) → k < G.n → end_point G (G.b_node k) k ≡ G.b k
  pub ends : (v j k : ℕ) → Memᴰ j (G.entries v) → Memᴰ k (G.entries v) → end_point G v j ≡ end_point G v k
  pub aa : (j k : ℕ) → j < G.n → k < G.n → G.a_node j ≡ G.a_node k → G.a j ≡ G.a k
  pub ab : (j k : ℕ) → j < G.n → k < G.n → G.a_node j ≡ G.b_node k → G.a j ≡ G.b k
  pub bb : (j k : ℕ) → j < G.n → k < G.n → G.b_node j ≡ G.b_node k → G.b j ≡ G.b k

-- The tops and the states (check 3), and that no two unskipped links run from a node in one direction (check 7).
pub record FineBand (G : Graph) (top state : List ℕ) : Type 0 where
  pub top_long : length top ≡ G.n
  pub state_long : length state ≡ G.n
  pub top_flag : (k : ℕ) → k < G.n → get_or top k 0 ≤ 1
  pub state_flag : (k : ℕ) → k < G.n → get_or state k 0 ≤ 1
  pub spread : (v j k : ℕ) → Memᴰ j (G.entries v) → Memᴰ k (G.entries v) → (j ≡ k → ⊥)
      → (get_or state j 0 ≡ 1 → ⊥) → (get_or state k 0 ≡ 1 → ⊥) → same_direction (away_from G v j) (away_from G v k) ≡ false

-- The room for the answer (check 2).
pub record FineRoom (n : ℕ) (r : Room) : Type 0 where
  pub points : n ≤ r.points / 2
  pub contours : n / 3 ≤ r.firsts
  pub lens_long : r.lens ≡ r.firsts
  pub kinds_long : r.kinds ≡ r.firsts

pub record FineGraph (g : Lent) (top state : List ℕ) (r : Room) : Type 0 where
  pub few : link_count g ≤ max_links
  pub even : Even g
  pub room : FineRoom (link_count g) r
  pub links : FineLinks (graph_of g top) (node_count g)
  pub rising : Rising g.start g.list
  pub within : (v : ℕ) → v ≤ node_count g → get_or g.start v 0 ≤ length g.list
  pub lists : FineLists (graph_of g top) (node_count g)
  pub total : length g.list ≡ 2 * link_count g
  pub one_point : OnePoint (graph_of g top)
  pub band : FineBand (graph_of g top) top state

-- ---- the links
module _ {g : Lent} {points : ℕ} (top : List ℕ) (h : SharedPasses g points) where
  abbrev G : Graph
  G = graph_of g top

  climbs : (d j : ℕ) → j + d < link_count g → Upto (G.a j) (G.a (j + d))
  climbs zero j l = let e : j + 0 ≡ j = omega arith in rw e (upto_refl (G.a j))
  climbs (suc d) j l =
      let e : j + suc d ≡ j + d + 1 = omega arith in
      rw e (upto_trans (climbs d j (omega arith)) (upto (G.a (j + d)) (G.a (j + d + 1)) (h.order (j + d) (omega arith))))

  fine_links : FineLinks G (node_count g)
  fine_links = record {
    a_grid = h.a_grid;
    b_grid = h.b_grid;
    strict = h.strict;
    a_node_lem = h.a_node_lem;
    b_node_lem = h.b_node_lem;
    two_nodes = h.two_nodes;
    order = λ j k l m. let e : j + (k - j) ≡ k = omega arith in not_before (rw e at (climbs (k - j) j (omega arith)));
  }

  -- ---- the lists
  empty : (v : ℕ) → node_count g ≤ v → G.entries v ≡ []
  empty = part_empty h.rising

  inside : (v k : ℕ) → Memᴰ k (G.entries v) → v < node_count g
  inside v k m = go (dec_le (node_count g) v)
    where
      go : Dec (node_count g ≤ v) → v < node_count g
      go (yes l) = absurd (Memᴰ.not-nil (subst (Memᴰ k) (empty v l) m))
      go (no n) = omega arith

  an_end : (v k : ℕ) → Memᴰ k (G.entries v) → EndAt g.a_id g.b_id v k
  an_end v k m =
      let p = place_of 0 (G.entries v) m in
      subst (EndAt g.a_id g.b_id v) p.here (h.ends v p.place (inside v k m) p.within)

  at_a : (k : ℕ) → k < link_count g → Memᴰ k (G.entries (G.a_node k))
  at_a k l = counted_in k (G.entries (G.a_node k)) (le_of_eq (sym (h.once_a k l)))

  at_b : (k : ℕ) → k < link_count g → Memᴰ k (G.entries (G.b_node k))
  at_b k l = counted_in k (G.entries (G.b_node k)) (le_of_eq (sym (h.once_b k l)))

  once : (v k : ℕ) → Memᴰ k (G.entries v) → count k (G.entries v) ≡ 1
  once v k m =
      let e = an_end v k m in
      ⊎_elim
      (λ (q : G.a_node k ≡ v). subst (λ (u : ℕ). count k (G.entries u) ≡ 1) q (h.once_a k e.below))
      (λ (q : G.b_node k ≡ v). subst (λ (u : ℕ). count k (G.entries u) ≡ 1) q (h.once_b k e.below))
      e.end

  not_later : (v i j : ℕ) → i < j → j < length (G.entries v) → get_or (G.entries v) i 0 ≡ get_or (G.entries v) j 0 → ⊥
  not_later v i j l m e =
      let x : ℕ = get_or (G.entries v) j 0 in
      let c : 2 ≤ count x (G.entries v) = count_two x (G.entries v) i j l m e refl in
      let o : count x (G.entries v) ≡ 1 = once v x (member 0 (G.entries v) j m) in
      omega arith

  no_twice : (v i j : ℕ) → i < length (G.entries v) → j < length (G.entries v) → get_or (G.entries v) i 0 ≡ get_or (G.entries v) j 0 → i ≡ j
  no_twice v i j li lj e = go (dec_le j i) (dec_le i j)
    where
      go : Dec (j ≤ i) → Dec (i ≤ j) → i ≡ j
      go (no p) q = absurd (not_later v i j (omega arith) lj e)
      go (yes p) (no q) = absurd (not_later v j i (omega arith) li (sym e))
      go (yes p) (yes q) = omega arith

  fine_lists : FineLists G (node_count g)
  fine_lists = record {
    two = λ v l. omega (arith, h.rising.step v l, part_length h.rising v l);
    empty = empty;
    inside = inside;
    below = λ v k m. (an_end v k m).below;
    only = λ v k m. (an_end v k m).end;
    below_at = λ v i l. (an_end v (get_or (G.entries v) i 0) (member 0 (G.entries v) i l)).below;
    at_a = at_a;
    at_b = at_b;
    once = once;
    no_twice = no_twice;
  }

  -- ---- the points
  end_a : (k : ℕ) → k < link_count g → end_point G (G.a_node k) k ≡ G.a k
  end_a k l = pick_true (G.a k) (G.b k) (eq-eqb (G.a_node k) (G.a_node k) refl)

  end_b : (k : ℕ) → k < link_count g → end_point G (G.b_node k) k ≡ G.b k
  end_b k l = pick_false (G.a k) (G.b k) (ne_eqb (G.a_node k) (G.b_node k) (h.two_nodes k l))

  ends : (v j k : ℕ) → Memᴰ j (G.entries v) → Memᴰ k (G.entries v) → end_point G v j ≡ end_point G v k
  ends v j k p q =
      let s = place_of 0 (G.entries v) p in
      let t = place_of 0 (G.entries v) q in
      sym (ap (end_point G v) s.here) ∙ h.one_point v s.place t.place (inside v j p) s.within t.within ∙ ap (end_point G v) t.here

  -- the ends p at node u and q at node w of two links, where u is w
  meet : (u w j k : ℕ) {p q : Point} → u ≡ w → Memᴰ j (G.entries u) → Memᴰ k (G.entries w) → end_point G u j ≡ p → end_point G w k ≡ q → p ≡ q
  meet u w j k e m n ep eq =
      sym ep ∙ ends u j k m (subst (λ (t : ℕ). Memᴰ k (G.entries t)) (sym e) n) ∙ ap (λ (t : ℕ). end_point G t k) e ∙ eq

  one_point : OnePoint G
  one_point = record {
    end_a = end_a;
    end_b = end_b;
    ends = ends;
    aa = λ j k lj lk e. meet (G.a_node j) (G.a_node k) j k e (at_a j lj) (at_a k lk) (end_a j lj) (end_a k lk);
    ab = λ j k lj lk e. meet (G.a_node j) (G.b_node k) j k e (at_a j lj) (at_b k lk) (end_a j lj) (end_b k lk);
    bb = λ j k lj lk e. meet (G.b_node j) (G.b_node k) j k e (at_b j lj) (at_b k lk) (end_b j lj) (end_b k lk);
  }

  -- ---- the band
  module _ {state : List ℕ} {firsts lens kinds : ℕ} (b : BandPasses g top state firsts lens kinds) where
    spread : (v j k : ℕ) → Memᴰ j (G.entries v) → Memᴰ k (G.entries v) → (j ≡ k → ⊥)
        → (get_or state j 0 ≡ 1 → ⊥) → (get_or state k 0 ≡ 1 → ⊥) → same_direction (away_from G v j) (away_from G v k) ≡ false
    spread v j k p q d sj sk = go (dec_le t.place s.place) (dec_le s.place t.place)
      where
        s : Place 0 j (G.entries v)
        s = place_of 0 (G.entries v) p

        t : Place 0 k (G.entries v)
        t = place_of 0 (G.entries v) q

        unskipped_s : get_or state (entry g v s.place) 0 ≡ 1 → ⊥
        unskipped_s e = sj (subst (λ (x : ℕ). get_or state x 0 ≡ 1) s.here e)

        unskipped_t : get_or state (entry g v t.place) 0 ≡ 1 → ⊥
        unskipped_t e = sk (subst (λ (x : ℕ). get_or state x 0 ≡ 1) t.here e)

        go : Dec (t.place ≤ s.place) → Dec (s.place ≤ t.place) → same_direction (away_from G v j) (away_from G v k) ≡ false
        go (no l) m = subst (λ (x : ℕ). same_direction (away_from G v x) (away_from G v k) ≡ false) s.here
            (subst (λ (x : ℕ). same_direction (away_from G v (entry g v s.place)) (away_from G v x) ≡ false) t.here
            (b.spread v s.place t.place (inside v j p) (omega arith) t.within unskipped_s unskipped_t))
        go (yes l) (no m) =
            same_direction_sym (away_from G v k) (away_from G v j) ∙ subst (λ (x : ℕ). same_direction (away_from G v k) (away_from G v x) ≡ false) s.here
            (subst (λ (x : ℕ). same_direction (away_from G v x) (away_from G v (entry g v s.place)) ≡ false) t.here
            (b.spread v t.place s.place (inside v j p) (omega arith) s.within unskipped_t unskipped_s))
        go (yes l) (yes m) =
            let e : s.place ≡ t.place = omega arith in
            absurd (d (sym s.here ∙ ap (entry g v) e ∙ t.here))

    fine_band : FineBand G top state
    fine_band = record {
      top_long = b.top_long;
      state_long = b.state_long;
      top_flag = b.top_flag;
      state_flag = b.state_flag;
      spread = spread;
    }

-- the ids, as they are cited
ids : {g : Lent} {points : ℕ} → SharedPasses g points → Ids g.a_id g.b_id (node_count g)
ids s = record { same = s.even.b_id; a_below = s.a_node_lem; b_below = s.b_node_lem; two = s.two_nodes }

pub facts : (g : Lent) (top state : List ℕ) (r : Room) → Passes g top state r → FineGraph g top state r
facts g top state r h =
    let s = h.shared in
    let b = h.band in
    record {
      few = s.few;
      even = s.even;
      room = record { points = s.room; contours = b.room; lens_long = b.lens_long; kinds_long = b.kinds_long };
      links = fine_links top s;
      rising = s.rising;
      within = starts_within s.rising;
      lists = fine_lists top s;
      total = total g.a_id g.b_id g.start g.list s.rising (ids s) (λ v i l b. s.ends v i l b) s.once_a s.once_b;
      one_point = one_point top s;
      band = fine_band top s b;
    }

pub fine : (g : Lent) (top state : List ℕ) (r : Room) → checked g top state r ≡ no_fault → FineGraph g top state r
fine g top state r e = facts g top state r ((exact g top state r).to e)
