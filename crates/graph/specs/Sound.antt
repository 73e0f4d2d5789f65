-- Where the one pass over the nodes finds nothing wrong, and the list has two entries for each link, checks 5 to 7 find nothing.
use Rattle.std.specs.Prelude.{ℕ, zero, suc, ◌+◌, ◌*◌, ◌≤◌, ◌<◌, ◌≡◌, refl, Bool, true, false, ◌||◌, List, [], eqb, length, get_or}
use Rattle.std.proofs.Common.{arith, sym, ap₂, ◌∙◌, subst, ⊎_elim, eqb-true, eq-eqb, ne_eqb}
use Rattle.std.proofs.Math.Decide.{dec_le}
use Rattle.laws.specs.Test.{pick, pick_true, pick_false, or_false, true≢false}
use Rattle.laws.specs.Lowest.{some, none_of}
use Rattle.turn.specs.declared.Point.{Point}
use Rattle.graph.specs.Graph.{Lent, link_count, node_count}
use Rattle.laws.specs.Count.{count, counted_in, count_single, sum, sum_same, sum_add, sum_const, sum_swap, sum_once, sum_less, sum_tight, counted}
use Rattle.laws.specs.Lists.{place_of}
use Rattle.graph.specs.Checks.{room, a_of, b_of, node_at, entries_of, bad_starts, stray, stray_in, end_at, apart, alike, nodes_checked}
use Rattle.graph.specs.Quick.{clash_at, stands_before, alike_before, bridge_wrong, node_wrong}
use Rattle.graph.specs.Passes.{Rising, EndAt}
use Rattle.graph.specs.Known.{Ids}
use Rattle.laws.specs.Fails.{some_fails, eq_fails}
use Rattle.graph.specs.Tests.{no_stray, together, unlike_ways}
use Rattle.graph.specs.Exact.{by_nodes}
use Rattle.graph.specs.Total.{lengths}
use Rattle.turn.specs.Refusals.{no_fault}

-- ---- one node
module _ (a_id b_id : List ℕ) (a b : ℕ → Point) (a_node : ℕ → ℕ) (state l : List ℕ) (v : ℕ) where
  -- what checks 5 to 7 ask of node v with the entries l, but for the links that are missing
  pub record FineNode : Type 0 where
    pub ends : (i : ℕ) → i < length l → EndAt a_id b_id v (get_or l i 0)
    pub single : (i j : ℕ) → i < j → j < length l → get_or l i 0 ≡ get_or l j 0 → ⊥
    pub point : (i j : ℕ) → i < j → j < length l → end_at a b a_node v (get_or l i 0) ≡ end_at a b a_node v (get_or l j 0)
    pub ways : (i j : ℕ) → i < j → j < length l → alike a b a_node state v (get_or l i 0) (get_or l j 0) ≡ false

  -- a choice that is false: its test fails, and so does what is left
  neither : (t r : Bool) → pick t true r ≡ false → (t ≡ false) × (r ≡ false)
  neither true r e = absurd (true≢false refl e)
  neither false r e = (refl, e)

  -- a `Bridge`
  module _ (two : length l ≡ 2) (h : bridge_wrong a_id b_id a b a_node state v (get_or l 0 0) (get_or l 1 0) ≡ false) where
    abbrev e₀ : ℕ
    e₀ = get_or l 0 0

    abbrev e₁ : ℕ
    e₁ = get_or l 1 0

    both : (stray a_id b_id v e₀ || stray a_id b_id v e₁ || eqb e₀ e₁ ≡ false) × (apart a b a_node v e₀ e₁ || alike a b a_node state v e₀ e₁ ≡ false)
    both = neither _ _ h

    lists : (stray a_id b_id v e₀ || stray a_id b_id v e₁ ≡ false) × (eqb e₀ e₁ ≡ false)
    lists = or_false (stray a_id b_id v e₀ || stray a_id b_id v e₁) (eqb e₀ e₁) both.0

    strays : (stray a_id b_id v e₀ ≡ false) × (stray a_id b_id v e₁ ≡ false)
    strays = or_false (stray a_id b_id v e₀) (stray a_id b_id v e₁) lists.0

    rest : (apart a b a_node v e₀ e₁ ≡ false) × (alike a b a_node state v e₀ e₁ ≡ false)
    rest = or_false (apart a b a_node v e₀ e₁) (alike a b a_node state v e₀ e₁) both.1

    end : (i : ℕ) → i < 2 → EndAt a_id b_id v (get_or l i 0)
    end zero m = (no_stray a_id b_id v e₀).to strays.0
    end (suc zero) m = (no_stray a_id b_id v e₁).to strays.1
    end (suc (suc i)) m = absurd (omega arith)

    pair : (i j : ℕ) → i < j → j < length l → (P : ℕ → ℕ → Type 0) → P e₀ e₁ → P (get_or l i 0) (get_or l j 0)
    pair i j m n P p =
        let s : i ≡ 0 = omega arith in
        let t : j ≡ 1 = omega arith in
        rw (s, t) p

    bridge_fine : FineNode
    bridge_fine = record {
      ends = λ i m. end i (omega arith);
      single = λ i j m n. pair i j m n (λ s t. s ≡ t → ⊥) ((eq_fails e₀ e₁).to lists.1);
      point = λ i j m n. pair i j m n (λ s t. end_at a b a_node v s ≡ end_at a b a_node v t) ((together a b a_node v e₀ e₁).to rest.0);
      ways = λ i j m n. pair i j m n (λ s t. alike a b a_node state v s t ≡ false) rest.1;
    }

  -- a `Cross`
  cross_fine : stray_in a_id b_id l v ≡ false → some (clash_at a b a_node state l v) (length l) ≡ false → FineNode
  cross_fine s h = record {
    ends = (some_fails (length l) (λ i. no_stray a_id b_id v (get_or l i 0))).to s;
    single = λ i j m n. (eq_fails (get_or l i 0) (get_or l j 0)).to (none_of _ _ (clash j n).0.0 i m);
    point = λ i j m n. sym (home i (omega arith)) ∙ home j n;
    ways = λ i j m n. none_of _ _ (clash j n).1 i m;
  }
    where
      clash : (j : ℕ) → j < length l → ((stands_before l j (get_or l j 0) ≡ false) × (apart a b a_node v (get_or l 0 0) (get_or l j 0) ≡ false))
          × (alike_before a b a_node state l v j (get_or l j 0) ≡ false)
      clash j n =
          let e = or_false (stands_before l j (get_or l j 0) || apart a b a_node v (get_or l 0 0) (get_or l j 0))
          (alike_before a b a_node state l v j (get_or l j 0)) (none_of _ _ h j n) in
          (or_false (stands_before l j (get_or l j 0)) (apart a b a_node v (get_or l 0 0) (get_or l j 0)) e.0, e.1)

      home : (j : ℕ) → j < length l → end_at a b a_node v (get_or l 0 0) ≡ end_at a b a_node v (get_or l j 0)
      home j n = (together a b a_node v (get_or l 0 0) (get_or l j 0)).to (clash j n).0.1

  pub fine_node : node_wrong a_id b_id a b a_node state l v ≡ false → FineNode
  fine_node h = go (eqb (length l) 2) refl h
    where
      go : (t : Bool) → eqb (length l) 2 ≡ t
          → pick t (bridge_wrong a_id b_id a b a_node state v (get_or l 0 0) (get_or l 1 0))
          (pick (stray_in a_id b_id l v) true (some (clash_at a b a_node state l v) (length l))) ≡ false → FineNode
      go true e h = bridge_fine (eqb-true (length l) 2 e) h
      go false e h = let p = neither (stray_in a_id b_id l v) (some (clash_at a b a_node state l v) (length l)) h in cross_fine p.0 p.1

-- ---- all nodes
module _ (g : Lent) (state : List ℕ) (rising : Rising g.start g.list) (ids : Ids g.a_id g.b_id (node_count g)) where
  abbrev At : ℕ → Type 0
  At v = FineNode g.a_id g.b_id (a_of g) (b_of g) (node_at g.a_id) state (entries_of g v) v

  module _ (fine : (v : ℕ) → v < node_count g → At v) where
    -- a link stands at a node once at most, and only at its own two
    at_most : (k v : ℕ) → v < node_count g → count k (entries_of g v) ≤ pick (eqb (get_or g.a_id k 0) v) 1 0 + pick (eqb (get_or g.b_id k 0) v) 1 0
    at_most k v l = go (dec_le 1 (count k (entries_of g v)))
      where
        one : (u : ℕ) → u ≡ v → ◌≡◌ {A = ℕ} (pick (eqb u v) 1 0) 1
        one u e = pick_true {A = ℕ} 1 0 (eq-eqb u v e)

        once : count k (entries_of g v) ≤ 1
        once = count_single k (entries_of g v) (fine v l).single

        go : Dec (1 ≤ count k (entries_of g v)) → count k (entries_of g v) ≤ pick (eqb (get_or g.a_id k 0) v) 1 0 + pick (eqb (get_or g.b_id k 0) v) 1 0
        go (no n) = omega arith
        go (yes m) =
            let p = place_of 0 (entries_of g v) (counted_in k (entries_of g v) m) in
            let e = subst (EndAt g.a_id g.b_id v) p.here ((fine v l).ends p.place p.within) in
            ⊎_elim
            (λ (q : get_or g.a_id k 0 ≡ v). omega (arith, once, one (get_or g.a_id k 0) q))
            (λ (q : get_or g.b_id k 0 ≡ v). omega (arith, once, one (get_or g.b_id k 0) q))
            e.end

    -- each link has two ends at nodes
    two_ends : (k : ℕ) → k < link_count g → sum (λ v. pick (eqb (get_or g.a_id k 0) v) 1 0 + pick (eqb (get_or g.b_id k 0) v) 1 0) (node_count g) ≡ 2
    two_ends k l = sum_add _ _ (node_count g) ∙ ap₂ ◌+◌ (sum_once _ (node_count g) (ids.a_below k l)) (sum_once _ (node_count g) (ids.b_below k l))

    abbrev stands : ℕ → ℕ
    stands k = sum (λ v. count k (entries_of g v)) (node_count g)

    at_most_two : (k : ℕ) → k < link_count g → stands k ≤ 2
    at_most_two k l = omega (arith, sum_less _ _ (node_count g) (at_most k), two_ends k l)

    in_all : sum stands (link_count g) ≡ length g.list
    in_all =
        sym (sum_swap (λ v k. count k (entries_of g v)) (node_count g) (link_count g)) ∙
        sum_same _ _ (node_count g) (λ v l. counted (entries_of g v) (link_count g) (λ i b. ((fine v l).ends i b).below)) ∙
        lengths rising (node_count g) (omega arith) ∙
        rising.last

    module _ (total : length g.list ≡ 2 * link_count g) where
      -- so each stands twice, and at each of its nodes once
      twice : (k : ℕ) → k < link_count g → stands k ≡ 2
      twice = sum_tight stands (λ _. 2) (link_count g) at_most_two (omega (arith, in_all, sum_const 2 (link_count g)))

      at_node : (k : ℕ) → k < link_count g → (v : ℕ) → v < node_count g → count k (entries_of g v) ≡ pick (eqb (get_or g.a_id k 0) v) 1 0 + pick
          (eqb (get_or g.b_id k 0) v) 1 0
      at_node k l = sum_tight _ _ (node_count g) (at_most k) (omega (arith, twice k l, two_ends k l))

      at_a : (k : ℕ) → k < link_count g → count k (entries_of g (get_or g.a_id k 0)) ≡ 1
      at_a k l =
          let p = pick_true {A = ℕ} 1 0 (eq-eqb (get_or g.a_id k 0) (get_or g.a_id k 0) refl) in
          let q = pick_false {A = ℕ} 1 0 (ne_eqb (get_or g.b_id k 0) (get_or g.a_id k 0) (λ e. ids.two k l (sym e))) in
          at_node k l (get_or g.a_id k 0) (ids.a_below k l) ∙ ap₂ ◌+◌ p q

      at_b : (k : ℕ) → k < link_count g → count k (entries_of g (get_or g.b_id k 0)) ≡ 1
      at_b k l =
          let p = pick_false {A = ℕ} 1 0 (ne_eqb (get_or g.a_id k 0) (get_or g.b_id k 0) (ids.two k l)) in
          let q = pick_true {A = ℕ} 1 0 (eq-eqb (get_or g.b_id k 0) (get_or g.b_id k 0) refl) in
          at_node k l (get_or g.b_id k 0) (ids.b_below k l) ∙ ap₂ ◌+◌ p q

      pub nodes_fine : bad_starts g.start g.list ≡ false → nodes_checked g state ≡ no_fault
      nodes_fine starts =
          (by_nodes g [] state (room 0 0 0 0)).from (
            ((starts, λ v l i b. (fine v l).ends i b), λ k l. (at_a k l, at_b k l)),
            (
              (λ v l j lj i li. (fine v l).point i j li lj),
              λ v l j lj i li. (unlike_ways (a_of g) (b_of g)
                  (node_at g.a_id) state v _ _).to ((fine v l).ways i j li lj),
            ),
          )
