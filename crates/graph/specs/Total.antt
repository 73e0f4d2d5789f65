-- The parts of the list that the starts give the nodes, and how many entries they have: two for each link where each stands once at its two nodes.
use Prim.Native.Nat.{ℕ, zero, suc, ◌+◌, ◌*◌, ◌-◌, ◌≤◌, ◌<◌}
use Rattle.std.proofs.Common.{arith, le_of_eq, add-one, ap₂, ◌∙◌, subst, ⊎_elim, length-take, length-drop, eq-eqb, ne_eqb}
use Rattle.std.proofs.Math.Decide.{ℕ_discrete}
use Rattle.std.specs.Prelude.{◌≡◌, refl, Bool, true, false, not, ◌||◌, List, [], eqb, length, take, drop}
use Rattle.std.proofs.Math.Path.{sym, ap}
use Rattle.std.proofs.Math.ListN.{get_or, get_or-eq_default}
use Rattle.laws.specs.Test.{pick, pick_true, pick_false, or_false, false_or, true≢false}
use Rattle.laws.specs.Fails.{some_fails, or_fails, ne_fails}
use Rattle.laws.specs.Lowest.{some}
use Rattle.graph.specs.Graph.{part}
use Rattle.laws.specs.Count.{count, counted_in, sum, sum_same, sum_add, sum_const, sum_swap, sum_once, counted}
use Rattle.laws.specs.Lists.{place_of}
use Rattle.graph.specs.Checks.{bad_starts, stray_at, missed, bad_nodes}
use Rattle.graph.specs.Passes.{Rising, EndAt}
use Rattle.graph.specs.Known.{Ids}
use Rattle.graph.specs.Tests.{rising, no_stray}

-- ---- the starts
module _ {start list : List ℕ} (h : Rising start list) where
  near : (d v : ℕ) → v + d ≡ length start - 1 → get_or start v 0 ≤ length list
  near zero v e = let q : v ≡ length start - 1 = omega arith in rw q (le_of_eq h.last)
  near (suc d) v e = let k = near d (v + 1) (omega arith) in omega (arith, h.step v (omega arith))

  pub starts_within : (v : ℕ) → v ≤ length start - 1 → get_or start v 0 ≤ length list
  starts_within v l = near (length start - 1 - v) v (omega arith)

  pub part_length : (v : ℕ) → v < length start - 1 → get_or start v 0 + length (part start list v) ≡ get_or start (v + 1) 0
  part_length v l =
      let a = h.step v l in
      let b = starts_within (v + 1) (omega arith) in
      simp (length-take, length-drop) (omega arith)

  pub part_empty : (v : ℕ) → length start - 1 ≤ v → part start list v ≡ []
  part_empty v l =
      let z : get_or start (v + 1) 0 ≡ 0 = get_or-eq_default start 0 {n = v + 1} (omega (arith, h.any)) in
      let e : get_or start (v + 1) 0 - get_or start v 0 ≡ 0 = omega arith in
      ap (λ (t : ℕ). take t (drop (get_or start v 0) list)) e

  pub lengths : (v : ℕ) → v ≤ length start - 1 → sum (λ u. length (part start list u)) v ≡ get_or start v 0
  unfolding sum
  lengths zero l = sym h.first
  lengths (suc v) l =
      let e : get_or start (v + 1) 0 ≡ get_or start (suc v) 0 = ap (λ (t : ℕ). get_or start t 0) (add-one v) in
      omega (arith, lengths v (omega arith), part_length v (omega arith))

-- ---- how many entries there are
module _ (a_id b_id start list : List ℕ) (rise : Rising start list) (ids : Ids a_id b_id (length start - 1))
    (ends : (v i : ℕ) → v < length start - 1 → i < length (part start list v) → EndAt a_id b_id v (get_or (part start list v) i 0))
    (once_a : (k : ℕ) → k < length a_id → count k (part start list (get_or a_id k 0)) ≡ 1)
    (once_b : (k : ℕ) → k < length a_id → count k (part start list (get_or b_id k 0)) ≡ 1) where
  at_node : (k : ℕ) → k < length a_id → (v : ℕ) → v < length start - 1 → count k (part start list v)
      ≡ pick (eqb (get_or a_id k 0) v) 1 0 + pick (eqb (get_or b_id k 0) v) 1 0
  at_node k l v m = go (ℕ_discrete (get_or a_id k 0) v) (ℕ_discrete (get_or b_id k 0) v)
    where
      sums : (x y : ℕ) → pick (eqb (get_or a_id k 0) v) 1 0 ≡ x → pick (eqb (get_or b_id k 0) v) 1 0 ≡ y → count k (part start list v) ≡ x + y
          → count k (part start list v) ≡ pick (eqb (get_or a_id k 0) v) 1 0 + pick (eqb (get_or b_id k 0) v) 1 0
      sums x y p q e = omega arith

      none : (get_or a_id k 0 ≡ v → ⊥) → (get_or b_id k 0 ≡ v → ⊥) → 1 ≤ count k (part start list v) → ⊥
      none p q c =
          let s = place_of 0 (part start list v) (counted_in k (part start list v) c) in
          ⊎_elim p q (subst (EndAt a_id b_id v) s.here (ends v s.place m s.within)).end

      go : Dec (get_or a_id k 0 ≡ v) → Dec (get_or b_id k 0 ≡ v) → count k (part start list v) ≡ pick (eqb (get_or a_id k 0) v) 1 0 + pick
          (eqb (get_or b_id k 0) v) 1 0
      go (yes p) (yes q) = absurd (ids.two k l (p ∙ sym q))
      go (yes p) (no q) =
          sums 1 0 (pick_true 1 0 (eq-eqb _ v p)) (pick_false 1 0 (ne_eqb _ v q)) (subst (λ (u : ℕ). count k (part start list u) ≡ 1) p (once_a k l))
      go (no p) (yes q) =
          sums 0 1 (pick_false 1 0 (ne_eqb _ v p)) (pick_true 1 0 (eq-eqb _ v q)) (subst (λ (u : ℕ). count k (part start list u) ≡ 1) q (once_b k l))
      go (no p) (no q) = sums 0 0 (pick_false 1 0 (ne_eqb _ v p)) (pick_false 1 0 (ne_eqb _ v q)) (let n = none p q in omega arith)

  twice : (k : ℕ) → k < length a_id → sum (λ v. count k (part start list v)) (length start - 1) ≡ 2
  twice k l =
      sum_same _ _ (length start - 1) (at_node k l) ∙ sum_add _ _ (length start - 1)
      ∙ ap₂ ◌+◌ (sum_once (get_or a_id k 0) (length start - 1) (ids.a_below k l)) (sum_once (get_or b_id k 0) (length start - 1) (ids.b_below k l))

  pub total : length list ≡ 2 * length a_id
  total =
      sym (lengths rise (length start - 1) (omega arith) ∙ rise.last) ∙
      sum_same _ _ (length start - 1) (λ v l. sym (counted (part start list v) (length a_id) (λ i b. (ends v i l b).below))) ∙
      sum_swap (λ v k. count k (part start list v)) (length start - 1) (length a_id) ∙
      sum_same _ _ (length a_id) twice ∙
      sum_const 2 (length a_id)

-- so a list of any other length is refused
pub other_total : (a_id b_id start list : List ℕ) → 1 ≤ length start → Ids a_id b_id (length start - 1) → bad_starts start list
    || not (eqb (length list) (2 * length a_id)) ≡ true → bad_nodes a_id b_id start list ≡ true
other_total a_id b_id start list any ids h = go (bad_nodes a_id b_id start list) refl
  where
    right : bad_nodes a_id b_id start list ≡ false → length list ≡ 2 * length a_id
    right e =
        let p = or_false (bad_starts start list || some (stray_at a_id b_id start list) (length start - 1))
        (some (missed a_id b_id start list) (length a_id)) e in
        let q = or_false (bad_starts start list) (some (stray_at a_id b_id start list) (length start - 1)) p.0 in
        let s = (some_fails (length start - 1)
        (λ v. some_fails (length (part start list v)) (λ i. no_stray a_id b_id v (get_or (part start list v) i 0)))).to q.1 in
        let m = (some_fails (length a_id)
        (λ k. or_fails (ne_fails (count k (part start list (get_or a_id k 0))) 1) (ne_fails (count k (part start list (get_or b_id k 0))) 1))).to p.1 in
        total a_id b_id start list ((rising start list any).to q.0) ids (λ v i l b. s v l i b) (λ k l. (m k l).0) (λ k l. (m k l).1)

    starts : bad_nodes a_id b_id start list ≡ false → bad_starts start list ≡ false
    starts e =
        (or_false (bad_starts start list) _ (or_false (bad_starts start list || some (stray_at a_id b_id start list) (length start - 1))
        (some (missed a_id b_id start list) (length a_id)) e).0).0

    go : (b : Bool) → bad_nodes a_id b_id start list ≡ b → b ≡ true
    go true e = refl
    go false e = absurd (true≢false h (false_or _ _ (starts e) ((ne_fails _ _).from (right e))))
