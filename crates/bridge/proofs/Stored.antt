-- What two stores leave, at their places and elsewhere.
use Prim.Native.Nat.{ℕ, ◌<◌}
use mathlib.Core.Path.{◌≡◌, refl, sym, ap, ◌∙◌, subst}
use mathlib.Core.Bool.{Bool, false}
use mathlib.Core.List.{List, []}
use lib.ListN.{length, get_or, set, length-set}
use lib.Seq.{get_or-set_same, get_or-set_other}
use Rattle.laws.specs.Test.{pick, pick_ind}
use Rattle.graph.specs.Graph.{Graph, graph_of, lent}
use Rattle.rings.specs.Ends.{a_end, b_end, a_node_lem, b_node_lem}
use Rattle.rings.specs.Field.{end_node, ElseKept, OthersKept}
use Rattle.pairs.specs.Stores.{paired, led}

module _ (l : List ℕ) (p i q j : ℕ) where
  -- at the first place, at the second, and at any other
  pub at_first : p < length l → (p ≡ q → ⊥) → get_or (paired l p i q j) p 0 ≡ i
  at_first h n = get_or-set_other (set l p i) q p j 0 n ∙ get_or-set_same l p i 0 h

  pub at_second : q < length l → get_or (paired l p i q j) q 0 ≡ j
  at_second h = get_or-set_same (set l p i) q j 0 (subst (λ n. q < n) (sym (length-set l p i)) h)

  pub at_neither : (h : ℕ) → (h ≡ p → ⊥) → (h ≡ q → ⊥) → get_or (paired l p i q j) h 0 ≡ get_or l h 0
  at_neither h n m = get_or-set_other (set l p i) q h j 0 m ∙ get_or-set_other l p h i 0 n

-- ---- the ends' nodes
module _ (a_id b_id : List ℕ) (k : ℕ) where
  -- as a graph's nodes, whatever else it is
  abbrev g : Graph
  g = graph_of (lent [] [] [] [] a_id b_id [] []) []

  pub a_end_node : end_node a_id b_id (a_end k) ≡ get_or a_id k 0
  a_end_node = a_node_lem g k

  pub b_end_node : end_node a_id b_id (b_end k) ≡ get_or b_id k 0
  b_end_node = b_node_lem g k

-- ---- stores at ends of node v leave the other ends, and stores at links whose a is there the other links
module _ (a_id b_id : List ℕ) (v : ℕ) where
  pub pair_kept : (l : List ℕ) (p i q j : ℕ) (r : Bool) → (r ≡ false → end_node a_id b_id p ≡ v) → (r ≡ false → end_node a_id b_id q ≡ v)
      → ElseKept a_id b_id v l (pick r l (paired l p i q j))
  pair_kept l p i q j r hp hq h n = pick_ind r l (paired l p i q j) (λ m. get_or m h 0 ≡ get_or l h 0) (λ _. refl)
      (λ z. at_neither l p i q j h (λ e. n (ap (end_node a_id b_id) e ∙ hp z)) (λ e. n (ap (end_node a_id b_id) e ∙ hq z)))

  pub one_kept : (l : List ℕ) (e x : ℕ) → get_or a_id e 0 ≡ v → OthersKept a_id v l (set l e x)
  one_kept l e x h k n = get_or-set_other l e k x 0 (λ q. n (ap (λ (i : ℕ). get_or a_id i 0) q ∙ h))

  two_kept : (l : List ℕ) (e x f y : ℕ) → get_or a_id e 0 ≡ v → get_or a_id f 0 ≡ v → OthersKept a_id v l (paired l e x f y)
  two_kept l e x f y he hf k n =
      at_neither l e x f y k (λ q. n (ap (λ (i : ℕ). get_or a_id i 0) q ∙ he)) (λ q. n (ap (λ (i : ℕ). get_or a_id i 0) q ∙ hf))

  pub led_kept : (first r : Bool) (l : List ℕ) (e f : ℕ) → (r ≡ false → get_or a_id e 0 ≡ v) → get_or a_id f 0 ≡ v
      → OthersKept a_id v l (pick r l (led first l e f))
  led_kept first r l e f he hf = pick_ind r l (led first l e f) (OthersKept a_id v l) (λ _ k n. refl) (λ z.
      pick_ind first (paired l e 1 f 2) (paired l e 2 f 1) (OthersKept a_id v l) (λ _. two_kept l e 1 f 2 (he z) hf)
      (λ _. two_kept l e 2 f 1 (he z) hf))
