-- A node that is laid, by its kind.
use Prim.Native.Nat.{ℕ, ◌+◌, ◌-◌, ◌<◌}
use native.Mathlib.Omega.{arith}
use mathlib.Core.Path.{◌≡◌, refl, sym, ap, ap₂, ◌∙◌, subst}
use mathlib.Core.Bool.{Bool, true, false}
use mathlib.Core.List.{List, [], ◌∷◌}
use lib.IntN.{ℤ}
use lib.ListN.{length, get_or, take, drop}
use lib.Seq.{get_or-take, get_or-drop}
use borrow.Author.Tests.{eq-eqb, ne_eqb}
use Rattle.laws.specs.Test.{pick, pick_true, pick_false}
use Rattle.laws.specs.Lowest.{some}
use Rattle.graph.specs.Graph.{lent, Graph, graph_of, point_at, part}
use Rattle.graph.specs.Checks.{node_at, stray_in}
use Rattle.graph.specs.Quick.{clash_at, bridge_wrong, node_wrong}
use Rattle.graph.specs.Passes.{Rising}
use Rattle.graph.specs.Total.{part_length}
use Rattle.rings.specs.Field.{LaidBridge, LaidCross, Laid}

-- where the entries of node v end, as the passes read it: one start after the other, from the second on
pub end_read : (start : List ℕ) (v to : ℕ) → v < length start - 1 → to ≡ get_or (take (length start - 1) (drop 1 start)) v 0
    → to ≡ get_or start (v + 1) 0
end_read start v to h e =
    e ∙ get_or-take (length start - 1) (drop 1 start) v 0 h ∙ get_or-drop 1 start v 0 ∙ ap (λ (i : ℕ). get_or start i 0) (omega arith)

-- ---- one node, with the entries `here`
module _ (g : Graph) (state : List ℕ) (v : ℕ) (nxt prv lead here : List ℕ) (q : g.entries v ≡ here) where
  pub node_bridge : length here ≡ 2 → LaidBridge g v (get_or here 0 0) (get_or here 1 0) nxt lead → Laid g state v nxt prv lead
  node_bridge two b = record {
    bridge = λ x y e.
        let l : here ≡ x ∷ (y ∷ []) = sym q ∙ e in
        subst (λ (m : List ℕ). LaidBridge g v (get_or m 0 0) (get_or m 1 0) nxt lead) l b;
    cross = λ n. absurd (n (ap length q ∙ two));
  }

  pub node_cross : (length here ≡ 2 → ⊥) → LaidCross g state v nxt prv → Laid g state v nxt prv lead
  node_cross n c = record {
    bridge = λ x y e. absurd (n (ap length (sym q ∙ e)));
    cross = λ _. c;
  }

-- an entry of a node, in its place in the list
entry_at : (start list : List ℕ) (v i : ℕ) → i < get_or start (v + 1) 0 - get_or start v 0 → get_or (part start list v) i 0 ≡ get_or list
    (get_or start v 0 + i) 0
entry_at start list v i l = get_or-take (get_or start (v + 1) 0 - get_or start v 0) (drop (get_or start v 0) list) i 0 l ∙ get_or-drop (get_or start v 0)
    list i 0

-- what a node's contract asks, of the answer r and the lists left, by the node's kind; its entries stand from `from` to before `to`
module _ (ax ay bx by : List ℤ) (a_id b_id state start list : List ℕ) (v : ℕ) (r : Bool) (nxt : List ℕ)
    (rising : Rising start list) (l : v < length start - 1) (from to : ℕ) (at : from ≡ get_or start v 0) (end : to ≡ get_or start (v + 1) 0) where
  abbrev Answers : Type 0
  Answers = r ≡ node_wrong a_id b_id (point_at ax ay) (point_at bx by) (node_at a_id) state (part start list v) v

  abbrev graph : List ℕ → Graph
  graph = graph_of (lent ax ay bx by a_id b_id start list)

  abbrev LaysBridge : List ℕ → Type 0
  LaysBridge lead = r ≡ false → (prv top : List ℕ) → Laid (graph top) state v nxt prv lead

  abbrev LaysCross : List ℕ → Type 0
  LaysCross prv = r ≡ false → (lead top : List ℕ) → Laid (graph top) state v nxt prv lead

  first : to ≡ from + 2 → get_or list from 0 ≡ get_or (part start list v) 0 0
  first two = ap (λ (i : ℕ). get_or list i 0) (omega arith) ∙ sym (entry_at start list v 0 (omega arith))

  second : to ≡ from + 2 → get_or list (from + 1) 0 ≡ get_or (part start list v) 1 0
  second two = ap (λ (i : ℕ). get_or list i 0) (omega arith) ∙ sym (entry_at start list v 1 (omega arith))

  pub bridge_outcome : (lead : List ℕ) → to ≡ from + 2 → (e f : ℕ) → e ≡ get_or list from 0 → f ≡ get_or list (from + 1) 0
      → r ≡ bridge_wrong a_id b_id (point_at ax ay) (point_at bx by) (node_at a_id) state v e f
      → (r ≡ false → (start list top : List ℕ) → LaidBridge (graph_of (lent ax ay bx by a_id b_id start list) top) v e f nxt lead)
      → Answers × LaysBridge lead
  bridge_outcome lead two e f p q w h = (
    w ∙ ap₂ (bridge_wrong a_id b_id (point_at ax ay) (point_at bx by) (node_at a_id) state v) p' q' ∙ sym (pick_true _ _ (eq-eqb (length here) 2 both)),
    λ z prv top.
        node_bridge (graph top) state v nxt prv lead here refl both (subst (λ (x : ℕ). LaidBridge (graph top) v x (get_or here 1 0) nxt lead) p'
        (subst (λ (y : ℕ). LaidBridge (graph top) v e y nxt lead) q' (h z start list top))),
  )
    where
      here : List ℕ
      here = part start list v

      both : length here ≡ 2
      both = omega (arith, part_length rising v l)

      p' : e ≡ get_or here 0 0
      p' = p ∙ first two

      q' : f ≡ get_or here 1 0
      q' = q ∙ second two

  pub cross_outcome : (prv : List ℕ) → (to ≡ from + 2 → ⊥) → (here : List ℕ) → here ≡ part start list v
      → r ≡ pick (stray_in a_id b_id here v) true (some (clash_at (point_at ax ay) (point_at bx by) (node_at a_id) state here v) (length here))
      → (r ≡ false → (start list top : List ℕ) → part start list v ≡ here
      → LaidCross (graph_of (lent ax ay bx by a_id b_id start list) top) state v nxt prv)
      → Answers × LaysCross prv
  cross_outcome prv n here i w h = (
    w ∙ sym (pick_false _ _ (ne_eqb (length here) 2 many))
        ∙ ap (λ (m : List ℕ). node_wrong a_id b_id (point_at ax ay) (point_at bx by) (node_at a_id) state m v) i,
    λ z lead top. node_cross (graph top) state v nxt prv lead here (sym i) many (h z start list top (sym i)),
  )
    where
      many : length here ≡ 2 → ⊥
      many two = n (omega (arith, part_length rising v l, ap length i))

-- a node has entries
pub any_entry : {start list : List ℕ} → Rising start list → (v : ℕ) → v < length start - 1 → (here : List ℕ) → here ≡ part start list v
    → 0 < length here
any_entry {start} {list} h v l here e =
    subst (λ (n : List ℕ). 0 < length n) (sym e) (omega (arith, h.step v l, part_length h v l))
