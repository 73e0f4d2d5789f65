-- The other way round: where checks 5 to 7 find nothing, the one pass over the nodes finds nothing wrong with any node.
use Rattle.std.specs.Prelude.{ℕ, zero, suc, ◌≤◌, ◌<◌, ◌≡◌, refl, Bool, true, false, ◌||◌, List, [], eqb, length, get_or}
use Rattle.std.proofs.Common.{arith, ◌∙◌, subst, ⊎_elim}
use Rattle.laws.specs.Test.{pick, pick_false, pick_ind}
use Rattle.laws.specs.Lowest.{some, some_no}
use Rattle.laws.specs.Count.{count, count_two}
use Rattle.laws.specs.Fails.{eq_fails}
use Rattle.turn.specs.declared.Point.{Point}
use Rattle.graph.specs.Graph.{Lent, node_count}
use Rattle.graph.specs.Checks.{room, a_of, b_of, node_at, entries_of, stray, stray_in, apart, alike, nodes_checked}
use Rattle.graph.specs.Quick.{clash_at, bridge_wrong, node_wrong}
use Rattle.graph.specs.Passes.{Rising, EndAt}
use Rattle.graph.specs.Tests.{rising, no_stray, together, unlike_ways}
use Rattle.graph.specs.Total.{part_length}
use Rattle.graph.specs.Exact.{by_nodes}
use Rattle.graph.specs.Sound.{FineNode}
use Rattle.turn.specs.Refusals.{no_fault}

-- tests that fail, joined
two_no : {s t : Bool} → s ≡ false → t ≡ false → s || t ≡ false
two_no {s} {t} p q = rw (p, q)

module _ (a_id b_id : List ℕ) (a b : ℕ → Point) (a_node : ℕ → ℕ) (state l : List ℕ) (v : ℕ) (some-two : 2 ≤ length l)
    (f : FineNode a_id b_id a b a_node state l v) where
  no_end : (i : ℕ) → i < length l → stray a_id b_id v (get_or l i 0) ≡ false
  no_end i m = (no_stray a_id b_id v (get_or l i 0)).from (f.ends i m)

  -- a `Bridge`
  pair_fine : bridge_wrong a_id b_id a b a_node state v (get_or l 0 0) (get_or l 1 0) ≡ false
  pair_fine =
      pick_false true (apart a b a_node v (get_or l 0 0) (get_or l 1 0) || alike a b a_node state v (get_or l 0 0) (get_or l 1 0))
      (two_no (two_no (no_end 0 (omega arith)) (no_end 1 (omega arith))) ((eq_fails _ _).from (f.single 0 1 (omega arith) (omega arith))))
      ∙ two_no ((together a b a_node v _ _).from (f.point 0 1 (omega arith) (omega arith))) (f.ways 0 1 (omega arith) (omega arith))

  -- a `Cross`
  first_point : (j : ℕ) → j < length l → apart a b a_node v (get_or l 0 0) (get_or l j 0) ≡ false
  first_point zero m = (together a b a_node v (get_or l 0 0) (get_or l 0 0)).from refl
  first_point (suc j) m = (together a b a_node v (get_or l 0 0) (get_or l (suc j) 0)).from (f.point 0 (suc j) (omega arith) m)

  no_clash : (j : ℕ) → j < length l → clash_at a b a_node state l v j ≡ false
  no_clash j m = two_no
      (two_no (some_no (λ i. eqb (get_or l i 0) (get_or l j 0)) j (λ i k. (eq_fails _ _).from (f.single i j k m))) (first_point j m))
      (some_no (λ i. alike a b a_node state v (get_or l i 0) (get_or l j 0)) j (λ i k. f.ways i j k m))

  pub node_fine : node_wrong a_id b_id a b a_node state l v ≡ false
  node_fine = pick_ind (eqb (length l) 2) (bridge_wrong a_id b_id a b a_node state v (get_or l 0 0) (get_or l 1 0))
      (pick (stray_in a_id b_id l v) true (some (clash_at a b a_node state l v) (length l))) (λ t. t ≡ false)
      (λ _. pair_fine)
      (λ _. pick_false true (some (clash_at a b a_node state l v) (length l)) (some_no (λ i. stray a_id b_id v (get_or l i 0)) (length l) no_end)
      ∙ some_no (clash_at a b a_node state l v) (length l) no_clash)

-- ---- every node of a graph in which checks 5 to 7 find nothing
module _ (g : Lent) (state : List ℕ) (any : 1 ≤ length g.start) (fine : nodes_checked g state ≡ no_fault) (v : ℕ) (below : v < node_count g) where
  once : (x : ℕ) → EndAt g.a_id g.b_id v x → count x (entries_of g v) ≡ 1
  once x e =
      let c = ((by_nodes g [] state (room 0 0 0 0)).to fine).0.1 x e.below in
      ⊎_elim (λ (q : get_or g.a_id x 0 ≡ v). subst (λ (u : ℕ). count x (entries_of g u) ≡ 1) q c.0)
      (λ (q : get_or g.b_id x 0 ≡ v). subst (λ (u : ℕ). count x (entries_of g u) ≡ 1) q c.1) e.end

  at_node : FineNode g.a_id g.b_id (a_of g) (b_of g) (node_at g.a_id) state (entries_of g v) v
  at_node =
      let h = (by_nodes g [] state (room 0 0 0 0)).to fine in
      record {
        ends = h.0.0.1 v below;
        single = λ i j l m q.
            let x : ℕ = get_or (entries_of g v) j 0 in
            let c : 2 ≤ count x (entries_of g v) = count_two x (entries_of g v) i j l m q refl in
            omega (arith, c, once x (h.0.0.1 v below j m));
        point = λ i j l m. h.1.0 v below j m i l;
        ways = λ i j l m. (unlike_ways (a_of g) (b_of g) (node_at g.a_id) state v _ _).from (h.1.1 v below j m i l);
      }

  pub not_wrong : node_wrong g.a_id g.b_id (a_of g) (b_of g) (node_at g.a_id) state (entries_of g v) v ≡ false
  not_wrong = node_fine g.a_id g.b_id (a_of g) (b_of g) (node_at g.a_id) state (entries_of g v) v enough at_node
    where
      starts : Rising g.start g.list
      starts = (rising g.start g.list any).to ((by_nodes g [] state (room 0 0 0 0)).to fine).0.0.0

      enough : 2 ≤ length (entries_of g v)
      enough = omega (arith, starts.step v below, part_length starts v below)
