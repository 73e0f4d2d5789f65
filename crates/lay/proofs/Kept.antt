-- What is laid at a node stays so while the lists stay so at its ends: so while another node is laid.
use Prim.Native.Nat.{ℕ, ◌≤◌, ◌<◌, ◌%◌}
use mathlib.Core.Path.{◌≡◌, refl, sym, ap, ap₂, ◌∙◌, subst}
use mathlib.Core.Bool.{Bool}
use mathlib.Core.List.Memᴰ
use mathlib.Core.List.{List, [], ◌∷◌}
use lib.Dec.{eqb, leb}
use lib.ListN.{length, get_or}
use Rattle.laws.specs.Test.{pick}
use Rattle.laws.specs.Lists.{place_of}
use Rattle.turn.specs.Points.{clockwise}
use Rattle.graph.specs.Graph.{Lent, Graph, graph_of}
use Rattle.graph.specs.Checks.{entries_of}
use Rattle.graph.specs.Passes.{EndAt}
use Rattle.next.specs.Choice.{Mem}
use Rattle.rings.specs.Ends.{a_end, link_of, end_of, a_node_lem, end_node_lem}
use Rattle.rings.specs.Climb.{LastAlone, AtLast}
use Rattle.rings.specs.Linking.{linked_kept}
use Rattle.rings.specs.Field.{cross_mark, wrap_mark, wraps_at, named, LaidBridge, LaidCross, Laid, end_node, ElseKept, OthersKept}

-- a test that tells the members of a list alike tells the last alike
last_kept : (s t : ℕ → Bool) (p : ℕ) (l : List ℕ) → ((x : ℕ) → Mem x (p ∷ l) → t x ≡ s x) → LastAlone s p l → LastAlone t p l
last_kept s t p [] f h = f p (Memᴰ.head refl) ∙ h
last_kept s t p (x ∷ l) f h = (f p (Memᴰ.head refl) ∙ h.0, last_kept s t x l (λ y m. f y (Memᴰ.tail m)) h.1)

at_last_kept : (s t : ℕ → Bool) (l : List ℕ) → ((x : ℕ) → Mem x l → t x ≡ s x) → AtLast s l → AtLast t l
at_last_kept s t [] f h = tt
at_last_kept s t (x ∷ l) f h = last_kept s t x l f h

-- ---- node u, while the lists stay as they are at its ends
module _ (lists : Lent) (top state : List ℕ) (u : ℕ)
    (ends : (i : ℕ) → i < length (entries_of lists u) → EndAt lists.a_id lists.b_id u (get_or (entries_of lists u) i 0))
    (nxt prv lead nxt' prv' lead' : List ℕ) (kn : (h : ℕ) → end_node lists.a_id lists.b_id h ≡ u → get_or nxt' h 0 ≡ get_or nxt h 0)
    (kp : (h : ℕ) → end_node lists.a_id lists.b_id h ≡ u → get_or prv' h 0 ≡ get_or prv h 0)
    (kl : (k : ℕ) → get_or lists.a_id k 0 ≡ u → get_or lead' k 0 ≡ get_or lead k 0) where
  abbrev g : Graph
  g = graph_of lists top

  -- an entry's end is there
  entry_node : (k : ℕ) → Mem k (g.entries u) → end_node lists.a_id lists.b_id (end_of g u k) ≡ u
  entry_node k m =
      let p = place_of 0 (g.entries u) m in
      end_node_lem g u k (subst (EndAt lists.a_id lists.b_id u) p.here (ends p.place p.within)).end

  next_same : (k : ℕ) → Mem k (g.entries u) → get_or nxt' (end_of g u k) 0 ≡ get_or nxt (end_of g u k) 0
  next_same k m = kn (end_of g u k) (entry_node k m)

  back_same : (k : ℕ) → Mem k (g.entries u) → get_or prv' (end_of g u k) 0 ≡ get_or prv (end_of g u k) 0
  back_same k m = kp (end_of g u k) (entry_node k m)

  -- the entry that is named
  named_same : (k : ℕ) → g.a_node k ≡ u → named g lead' nxt' k ≡ named g lead nxt k
  named_same k i =
      ap₂ (λ (l h : ℕ). pick (eqb l 1) k (pick (eqb l 2) (link_of h) (pick (clockwise (g.a (link_of h)) (g.b (link_of h)) (g.b k)) (link_of h) k)))
      (kl k i) (kn (a_end k) (a_node_lem g k ∙ i))

  bridge_kept : (x y : ℕ) → g.entries u ≡ x ∷ (y ∷ []) → LaidBridge g u x y nxt lead → LaidBridge g u x y nxt' lead'
  bridge_kept x y q b = record {
    onto = next_same x (subst (Mem x) (sym q) (Memᴰ.head refl)) ∙ b.onto;
    back = next_same y (subst (Mem y) (sym q) (Memᴰ.tail (Memᴰ.head refl))) ∙ b.back;
    leads = λ k o i. named_same k i ∙ b.leads k o i;
  }

  cross_kept : LaidCross g state u nxt prv → LaidCross g state u nxt' prv'
  cross_kept c = record {
    links = c.links;
    ring = c.ring;
    linked = linked_kept c.linked (λ k m. ap (λ (h : ℕ). h % cross_mark) (next_same k (c.ring.only k m).listed))
        (λ k m. back_same k (c.ring.only k m).listed);
    marked = λ k m. subst (λ (h : ℕ). cross_mark ≤ h) (sym (next_same k (c.ring.only k m).listed)) (c.marked k m);
    last = at_last_kept (λ x. wraps_at nxt (end_of g u x)) (λ x. wraps_at nxt' (end_of g u x)) c.links
        (λ k m. ap (leb wrap_mark) (next_same k (c.ring.only k m).listed)) c.last;
  }

  pub laid_still : Laid g state u nxt prv lead → Laid g state u nxt' prv' lead'
  laid_still l = record {
    bridge = λ x y q. bridge_kept x y q (l.bridge x y q);
    cross = λ n. cross_kept (l.cross n);
  }

-- ---- while node v is laid
pub laid_kept : (lists : Lent) (top state : List ℕ) (u v : ℕ) → (u ≡ v → ⊥)
    → ((i : ℕ) → i < length (entries_of lists u) → EndAt lists.a_id lists.b_id u (get_or (entries_of lists u) i 0))
    → (nxt prv lead nxt' prv' lead' : List ℕ) → ElseKept lists.a_id lists.b_id v nxt nxt'
    → ElseKept lists.a_id lists.b_id v prv prv' → OthersKept lists.a_id v lead lead'
    → Laid (graph_of lists top) state u nxt prv lead → Laid (graph_of lists top) state u nxt' prv' lead'
laid_kept lists top state u v apart ends nxt prv lead nxt' prv' lead' kn kp kl =
    laid_still lists top state u ends nxt prv lead nxt' prv' lead' (λ h i. kn h (λ e. apart (sym i ∙ e))) (λ h i. kp h (λ e. apart (sym i ∙ e)))
    (λ k i. kl k (λ e. apart (sym i ∙ e)))
