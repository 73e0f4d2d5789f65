-- Checks 1 to 7 say the same of a graph and of its copy in which the entries of a node stand in another order.
use Rattle.std.specs.Prelude.{ℕ, ◌-◌, ◌≤◌, ◌<◌, ◌≡◌, refl, Bool, true, false, not, ◌&&◌, ◌||◌, List, ltb, eqb, ℤ, length, get_or}
use Rattle.std.proofs.Common.{arith, sym, ap₂, ◌∙◌, subst, ⊎_elim}
use Rattle.std.proofs.Math.Path.{ap}
use Rattle.laws.specs.Test.{pick, or_false}
use Rattle.laws.specs.Count.{count, count_two}
use Rattle.laws.specs.Lowest.{some, none_of}
use Rattle.laws.specs.Fails.{or_fails, some_fails, ne_fails}
use Rattle.turn.specs.declared.Point.{Point}
use Rattle.turn.specs.Angle.{same_direction}
use Rattle.turn.specs.declared.Reason.{Reason}
use Rattle.turn.specs.declared.Reason.TheVariants.{EndsApart, EndsAlike}
use Rattle.turn.specs.Refusals.{refuse_at, followed_by, Checked, refused}
use Rattle.graph.specs.Graph.{Lent, lent, part}
use Rattle.graph.specs.Checks.{Room, a_of, b_of, node_at, entries_of, bad_starts, stray, stray_at, missed, bad_nodes, away, apart, apart_at, skipped, alike}
use Rattle.graph.specs.Checks.{alike_at, each_checked, links_checked, nodes_checked, checked}
use Rattle.graph.specs.Passes.{EndAt}
use Rattle.graph.specs.Known.{Ids}
use Rattle.graph.specs.Tests.{no_stray, together}
use Rattle.graph.specs.PointLaws.{same_direction_sym}
use Rattle.fan.specs.Again.{same_test, lowest_same, some_again, Single, two_again}
use Rattle.fan.specs.Arranged.{Arranged}

-- ---- the tests of two ends do not go by which is first
module _ (a b : ℕ → Point) (a_node : ℕ → ℕ) (state : List ℕ) (v : ℕ) where
  apart_sym : (e f : ℕ) → apart a b a_node v f e ≡ apart a b a_node v e f
  apart_sym e f = same_test (apart a b a_node v f e) (apart a b a_node v e f)
      (λ p. (together a b a_node v e f).from (sym ((together a b a_node v f e).to p))) (λ p. (together a b a_node v f e).from
      (sym ((together a b a_node v e f).to p)))

  alike_sym : (e f : ℕ) → alike a b a_node state v f e ≡ alike a b a_node state v e f
  alike_sym e f = ap (λ (d : Bool). not (skipped state f) && not (skipped state e) && d) (same_direction_sym (away a b a_node v e) (away a b a_node v f))
      ∙ by (skipped state f) (skipped state e) (same_direction (away a b a_node v e) (away a b a_node v f))
    where
      by : (s t d : Bool) → not s && not t && d ≡ not t && not s && d
      by true true d = refl
      by true false d = refl
      by false true d = refl
      by false false d = refl

-- ---- check 5
-- where it finds nothing, no node has an entry twice
pub single_entries : (a_id b_id start list : List ℕ) → bad_nodes a_id b_id start list ≡ false → (v : ℕ) → v < length start - 1 → Single (part start list v)
single_entries a_id b_id start list e v l i j h k q =
    let parts = or_false (bad_starts start list || some (stray_at a_id b_id start list) (length start - 1))
    (some (missed a_id b_id start list) (length a_id)) e in
    let strays = (or_false (bad_starts start list) (some (stray_at a_id b_id start list) (length start - 1)) parts.0).1 in
    let x : ℕ = get_or (part start list v) j 0 in
    let end : EndAt a_id b_id v x =
    (some_fails (length (part start list v)) (λ n. no_stray a_id b_id v (get_or (part start list v) n 0))).to
    (none_of (stray_at a_id b_id start list) (length start - 1) strays v l) j k in
    let once = (some_fails (length a_id) (λ n. or_fails (ne_fails (count n (part start list (node_at a_id n))) 1)
    (ne_fails (count n (part start list (node_at b_id n))) 1))).to parts.1 x end.below in
    let here : count x (part start list v) ≡ 1 =
    ⊎_elim (λ (p : get_or a_id x 0 ≡ v). subst (λ (u : ℕ). count x (part start list u) ≡ 1) p once.0)
    (λ (p : get_or b_id x 0 ≡ v). subst (λ (u : ℕ). count x (part start list u) ≡ 1) p once.1) end.end in
    let twice : 2 ≤ count x (part start list v) = count_two x (part start list v) i j h k q refl in
    omega (arith, here, twice)

module _ (ax ay bx by : List ℤ) (a_id b_id start list copy state : List ℕ) (c : Arranged start list copy) where
  abbrev listed : Lent
  listed = lent ax ay bx by a_id b_id start list

  abbrev copied : Lent
  copied = lent ax ay bx by a_id b_id start copy

  abbrev m : ℕ
  m = length start - 1

  some_same : (s t : ℕ → Bool) (n : ℕ) → ((k : ℕ) → k < n → s k ≡ t k) → some s n ≡ some t n
  some_same s t n h = ap (λ (k : ℕ). ltb k n) (lowest_same s t n h)

  module _ (ids : Ids a_id b_id m) where
    missed_same : (k : ℕ) → k < length a_id → missed a_id b_id start copy k ≡ missed a_id b_id start list k
    missed_same k l = ap₂ (λ (x y : ℕ). not (eqb x 1) || not (eqb y 1)) ((c.each (node_at a_id k) (ids.a_below k l)).counts k)
        ((c.each (node_at b_id k) (ids.b_below k l)).counts k)

    bad_same : bad_nodes a_id b_id start copy ≡ bad_nodes a_id b_id start list
    bad_same =
        ap₂ ◌||◌ (ap₂ ◌||◌ starts (some_same (stray_at a_id b_id start copy) (stray_at a_id b_id start list) m
        (λ v l. some_again (stray a_id b_id v) (c.each v l))))
        (some_same (missed a_id b_id start copy) (missed a_id b_id start list) (length a_id) missed_same)
      where
        starts : bad_starts start copy ≡ bad_starts start list
        starts = rw c.len

    -- ---- checks 6 and 7, where check 5 finds nothing
    module _ (single : (v : ℕ) → v < m → Single (part start list v)) where
      apart_same : (v : ℕ) → v < m → apart_at (a_of copied) (b_of copied) (node_at a_id) (entries_of copied) v
          ≡ apart_at (a_of listed) (b_of listed) (node_at a_id) (entries_of listed) v
      apart_same v l = two_again (apart (a_of listed) (b_of listed) (node_at a_id) v) (apart_sym (a_of listed) (b_of listed) (node_at a_id) state v)
          (c.each v l)
          (single v l)

      alike_same : (v : ℕ) → v < m → alike_at (a_of copied) (b_of copied) (node_at a_id) state (entries_of copied) v
          ≡ alike_at (a_of listed) (b_of listed) (node_at a_id) state (entries_of listed) v
      alike_same v l =
          two_again (alike (a_of listed) (b_of listed) (node_at a_id) state v) (alike_sym (a_of listed) (b_of listed) (node_at a_id) state v) (c.each v l)
          (single v l)

    -- ---- together
    refuse_same : (reason : Reason) (s t : ℕ → Bool) (x y : Checked) → ((k : ℕ) → k < m → s k ≡ t k) → x ≡ y → refuse_at reason s m x ≡ refuse_at reason t m y
    refuse_same reason s t x y h e = ap₂ (λ (n : ℕ) (z : Checked). pick (ltb n m) (refused reason n) z) (lowest_same s t m h) e

    else_same : (r s : Bool) (x y z : Checked) → r ≡ s → (s ≡ false → y ≡ z) → pick r x y ≡ pick s x z
    else_same r true x y z e h = rw e
    else_same r false x y z e h = rw e (h refl)

    pub nodes_again : nodes_checked copied state ≡ nodes_checked listed state
    unfolding nodes_checked
    nodes_again = else_same _ _ _ _ _ bad_same λ e.
        let single = single_entries a_id b_id start list e in
        refuse_same EndsApart _ _ _ _ (apart_same single) (refuse_same EndsAlike _ _ _ _ (alike_same single) refl)

    pub checked_again : (top : List ℕ) (r : Room) → checked copied top state r ≡ checked listed top state r
    unfolding checked links_checked each_checked
    checked_again top r = ap (followed_by (links_checked listed top state r)) nodes_again
