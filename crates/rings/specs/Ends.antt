-- An end of a link: number 2 k is link k's a, number 2 k + 1 its b.
-- Its link, its node, the far end, and link k's end at a node.
use Rattle.std.specs.Prelude.{ℕ, ◌+◌, ◌*◌, ◌-◌, ◌/◌, ◌%◌, ◌<◌, ◌≡◌, refl, ◌⊎◌, Bool, true, false, not, eqb}
use Rattle.std.proofs.Common.{arith, sym, ap, ap₂, ◌∙◌, subst, ⊎_elim, eqb-true, eq-eqb, ne_eqb}
use Rattle.std.proofs.lemmas.Bool.{eqb-false}
use Rattle.laws.specs.Test.{pick, pick_true, pick_false, pick_ind}
use Rattle.graph.specs.Graph.{Graph}
use Rattle.graph.specs.Fine.{FineLinks, FineLists}
use Rattle.next.specs.Next.{other}
use Rattle.next.specs.Choice.{Mem}

abbrev pub a_end : ℕ → ℕ
a_end k = 2 * k

abbrev pub b_end : ℕ → ℕ
b_end k = 2 * k + 1

abbrev pub link_of : ℕ → ℕ
link_of h = h / 2

-- it is an a
abbrev pub is_a : ℕ → Bool
is_a h = eqb (h % 2) 0

-- the other end of its link
abbrev pub far : ℕ → ℕ
far h = pick (is_a h) (h + 1) (h - 1)

abbrev pub node_of_end : Graph → ℕ → ℕ
node_of_end g h = pick (is_a h) (g.a_node (link_of h)) (g.b_node (link_of h))

-- link k's a is at node v
abbrev pub starts_at : Graph → ℕ → ℕ → Bool
starts_at g v k = eqb (g.a_node k) v

-- link k's end at node v
abbrev pub end_of : Graph → ℕ → ℕ → ℕ
end_of g v k = pick (starts_at g v k) (a_end k) (b_end k)

-- ---- a's and b's
pub a_is_a : (k : ℕ) → is_a (a_end k) ≡ true
a_is_a k = eq-eqb (2 * k % 2) 0 (omega arith)

pub b_is_b : (k : ℕ) → is_a (b_end k) ≡ false
b_is_b k = ne_eqb ((2 * k + 1) % 2) 0 (λ e. omega arith)

pub a_link : (k : ℕ) → link_of (a_end k) ≡ k
a_link k = omega arith

pub b_link : (k : ℕ) → link_of (b_end k) ≡ k
b_link k = omega arith

-- every end is its link's a or its b
pub is_a_lem : (h : ℕ) → is_a h ≡ true → h ≡ a_end (link_of h)
is_a_lem h e = omega (arith, eqb-true (h % 2) 0 e)

pub is_b : (h : ℕ) → is_a h ≡ false → h ≡ b_end (link_of h)
is_b h e = by (eqb-false (h % 2) 0 e)
  where
    by : (h % 2 ≡ 0 → ⊥) → h ≡ b_end (link_of h)
    by n = omega arith

-- ---- the far end
pub far_a : (k : ℕ) → far (a_end k) ≡ b_end k
far_a k = pick_true (2 * k + 1) (2 * k - 1) (a_is_a k)

pub far_b : (k : ℕ) → far (b_end k) ≡ a_end k
far_b k = pick_false (2 * k + 1 + 1) (2 * k + 1 - 1) (b_is_b k) ∙ omega arith

-- a fact of every end, by a's and b's
by_end : (P : ℕ → Type 0) → ((k : ℕ) → P (a_end k)) → ((k : ℕ) → P (b_end k)) → (h : ℕ) → P h
by_end P a b h = go (is_a h) refl
  where
    go : (t : Bool) → is_a h ≡ t → P h
    go true e = subst P (sym (is_a_lem h e)) (a (link_of h))
    go false e = subst P (sym (is_b h e)) (b (link_of h))

pub far_far : (h : ℕ) → far (far h) ≡ h
far_far = by_end (λ h. far (far h) ≡ h) (λ k. ap far (far_a k) ∙ far_b k) (λ k. ap far (far_b k) ∙ far_a k)

pub far_link : (h : ℕ) → link_of (far h) ≡ link_of h
far_link = by_end (λ h. link_of (far h) ≡ link_of h) (λ k. ap link_of (far_a k) ∙ b_link k ∙ sym (a_link k))
    (λ k. ap link_of (far_b k) ∙ a_link k ∙ sym (b_link k))

pub far_sort : (h : ℕ) → is_a (far h) ≡ not (is_a h)
far_sort = by_end (λ h. is_a (far h) ≡ not (is_a h)) (λ k. ap is_a (far_a k) ∙ b_is_b k ∙ ap not (sym (a_is_a k)))
    (λ k. ap is_a (far_b k) ∙ a_is_a k ∙ ap not (sym (b_is_b k)))

-- ---- the ends' nodes
pub a_node_lem : (g : Graph) (k : ℕ) → node_of_end g (a_end k) ≡ g.a_node k
a_node_lem g k = pick_true (g.a_node (link_of (a_end k))) (g.b_node (link_of (a_end k))) (a_is_a k) ∙ ap g.a_node (a_link k)

pub b_node_lem : (g : Graph) (k : ℕ) → node_of_end g (b_end k) ≡ g.b_node k
b_node_lem g k = pick_false (g.a_node (link_of (b_end k))) (g.b_node (link_of (b_end k))) (b_is_b k) ∙ ap g.b_node (b_link k)

-- ---- link k's end at node v
module _ (g : Graph) (v k : ℕ) where
  pub end_link : link_of (end_of g v k) ≡ k
  end_link = pick_ind (starts_at g v k) (a_end k) (b_end k) (λ h. link_of h ≡ k) (λ _. a_link k) (λ _. b_link k)

  pub end_sort : is_a (end_of g v k) ≡ starts_at g v k
  end_sort =
      pick_ind (starts_at g v k) (a_end k) (b_end k) (λ h. is_a h ≡ starts_at g v k) (λ e. a_is_a k ∙ sym e)
      (λ e. b_is_b k ∙ sym e)

  -- it is at node v where k has an end there
  pub end_node_lem : (g.a_node k ≡ v) ⊎ (g.b_node k ≡ v) → node_of_end g (end_of g v k) ≡ v
  end_node_lem o = pick_ind (starts_at g v k) (a_end k) (b_end k) (λ h. node_of_end g h ≡ v)
      (λ e. a_node_lem g k ∙ eqb-true (g.a_node k) v e)
      (λ e. b_node_lem g k ∙ ⊎_elim (λ q. absurd (eqb-false (g.a_node k) v e q)) (λ q. q) o)

  -- the far end is at the link's other node
  pub far_node : node_of_end g (far (end_of g v k)) ≡ other g v k
  far_node = by (starts_at g v k)
    where
      by : (t : Bool) → node_of_end g (far (pick t (a_end k) (b_end k))) ≡ pick t (g.b_node k) (g.a_node k)
      by true = ap (node_of_end g) (far_a k) ∙ b_node_lem g k
      by false = ap (node_of_end g) (far_b k) ∙ a_node_lem g k

-- two links have two ends at a node; the ends of n links are the numbers below 2 n
pub end_once : (g : Graph) (v j k : ℕ) → end_of g v j ≡ end_of g v k → j ≡ k
end_once g v j k q = sym (end_link g v j) ∙ ap link_of q ∙ end_link g v k

pub end_below : (g : Graph) (v k n : ℕ) → k < n → end_of g v k < 2 * n
end_below g v k n l = pick_ind (starts_at g v k) (a_end k) (b_end k) (λ h. h < 2 * n) (λ _. omega arith) (λ _. omega arith)

pub far_below : (h n : ℕ) → h < 2 * n → far h < 2 * n
far_below = by_end (λ h. (n : ℕ) → h < 2 * n → far h < 2 * n)
    (λ k n l. subst (λ x. x < 2 * n) (sym (far_a k)) (omega arith)) (λ k n l. subst (λ x. x < 2 * n) (sym (far_b k)) (omega arith))

pub link_below : (h n : ℕ) → h < 2 * n → link_of h < n
link_below h n l = omega arith

-- the end of an entry of node v is there
pub entry_end : {g : Graph} {m : ℕ} → FineLists g m → (v k : ℕ) → Mem k (g.entries v) → node_of_end g (end_of g v k) ≡ v
entry_end {g} h v k e = end_node_lem g v k (h.only v k e)

-- every end is the end at its node of its link
pub end_of_node : {g : Graph} {m : ℕ} → FineLinks g m → (h : ℕ) → link_of h < g.n
    → end_of g (node_of_end g h) (link_of h) ≡ h
end_of_node {g} f = by_end (λ h. link_of h < g.n → end_of g (node_of_end g h) (link_of h) ≡ h) at_a at_b
  where
    at_a : (k : ℕ) → link_of (a_end k) < g.n → end_of g (node_of_end g (a_end k)) (link_of (a_end k)) ≡ a_end k
    at_a k l =
        ap₂ (end_of g) (a_node_lem g k) (a_link k) ∙ pick_true (a_end k) (b_end k) (eq-eqb (g.a_node k) (g.a_node k) refl)

    at_b : (k : ℕ) → link_of (b_end k) < g.n → end_of g (node_of_end g (b_end k)) (link_of (b_end k)) ≡ b_end k
    at_b k l =
        ap₂ (end_of g) (b_node_lem g k) (b_link k) ∙
        pick_false (a_end k) (b_end k) (ne_eqb (g.a_node k) (g.b_node k)
        (f.two_nodes k (subst (λ i. i < g.n) (b_link k) l)))
