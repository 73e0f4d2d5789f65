-- All nodes of one kind below one, as the loop over them keeps it; and all nodes, once both loops are through.
use Prim.Native.Nat.{ℕ, ◌+◌, ◌-◌, ◌≤◌, ◌<◌}
use native.Mathlib.Omega.{arith}
use native.Mathlib.Decide.{ℕ_discrete}
use mathlib.Core.Path.{◌≡◌, refl, sym, ◌∙◌, subst}
use mathlib.Core.Bool.{Bool, true, false}
use mathlib.Core.Bool as bool
use mathlib.Core.List.{List}
use lib.ListN.{length, get_or}
use Rattle.laws.specs.Test.{true≢false}
use Rattle.laws.specs.Lowest.{some, none_of, some_no}
use Rattle.graph.specs.Graph.{Lent, graph_of}
use Rattle.graph.specs.Checks.{a_of, b_of, node_at, entries_of}
use Rattle.graph.specs.Passes.{Rising}
use Rattle.graph.specs.Total.{part_length}
use Rattle.graph.specs.Sound.{FineNode, fine_node}
use Rattle.rings.specs.Field.{Laid, ElseKept, OthersKept}
use Rattle.lay.specs.declared.Found.{Found}
use Rattle.lay.specs.declared.Found.TheVariants.{Fault, Nothing, Wide}
use Rattle.lay.specs.declared.Passed.{Passed}
use Rattle.lay.specs.declared.Passed.TheVariants.{Wrong, Bridges, Crosses}
use Rattle.lay.specs.Kinds.{Bridge, Cross, wrong_at, KindLaid, BridgesLaid, CrossesLaid, BridgesKept}
use Rattle.lay.specs.Promises.{Finds}
use Rattle.lay.proofs.Kept.{laid_still, laid_kept}

-- a search finds something where its test passes at one number
some_at : (test : ℕ → Bool) (m v : ℕ) → v < m → test v ≡ true → some test m ≡ true
some_at test m v l e = go (some test m) refl
  where
    go : (b : Bool) → some test m ≡ b → b ≡ true
    go true _ = refl
    go false q = absurd (true≢false e (none_of test m q v l))

module _ (g : Lent) (state : List ℕ) where
  -- ---- the nodes of one kind
  module _ (Kind : ℕ → Type 0) where
    kind_less : {nxt prv lead : List ℕ} (m v : ℕ) → m ≤ v → KindLaid g state Kind v nxt prv lead → KindLaid g state Kind m nxt prv lead
    kind_less m v b p = record { fine = λ u l k. p.fine u (omega arith) k; laid = λ top u l k. p.laid top u (omega arith) k }

    -- node v is of another kind
    kind_other : {nxt prv lead : List ℕ} (v : ℕ) → (Kind v → ⊥) → KindLaid g state Kind v nxt prv lead → KindLaid g state Kind (v + 1) nxt prv lead
    kind_other v other p = record {
      fine = λ u l k. p.fine u (below u l k) k;
      laid = λ top u l k. p.laid top u (below u l k) k;
    }
      where
        below : (u : ℕ) → u < v + 1 → Kind u → u < v
        below u l k = go (ℕ_discrete u v)
          where
            go : Dec (u ≡ v) → u < v
            go (yes e) = absurd (other (subst Kind e k))
            go (no n) = omega arith

    -- node v is laid
    kind_more : {nxt prv lead nxt' prv' lead' : List ℕ} (v : ℕ) → KindLaid g state Kind v nxt prv lead → wrong_at g state v ≡ false
        → ((top : List ℕ) → Laid (graph_of g top) state v nxt' prv' lead')
        → ElseKept g.a_id g.b_id v nxt nxt' → ElseKept g.a_id g.b_id v prv prv' → OthersKept g.a_id v lead lead'
        → KindLaid g state Kind (v + 1) nxt' prv' lead'
    kind_more {nxt} {prv} {lead} {nxt'} {prv'} {lead'} v p w new kn kp kl = record {
      fine = λ u l k. right u l k (ℕ_discrete u v);
      laid = λ top u l k. at top u l k (ℕ_discrete u v);
    }
      where
        right : (u : ℕ) → u < v + 1 → Kind u → Dec (u ≡ v) → wrong_at g state u ≡ false
        right u l k (yes e) = subst (λ (x : ℕ). wrong_at g state x ≡ false) (sym e) w
        right u l k (no n) = p.fine u (omega arith) k

        fine : (u : ℕ) → u < v → Kind u → FineNode g.a_id g.b_id (a_of g) (b_of g) (node_at g.a_id) state (entries_of g u) u
        fine u b k = fine_node g.a_id g.b_id (a_of g) (b_of g) (node_at g.a_id) state (entries_of g u) u (p.fine u b k)

        at : (top : List ℕ) (u : ℕ) → u < v + 1 → Kind u → Dec (u ≡ v) → Laid (graph_of g top) state u nxt' prv' lead'
        at top u l k (yes e) = subst (λ (x : ℕ). Laid (graph_of g top) state x nxt' prv' lead') (sym e) (new top)
        at top u l k (no n) =
            let b : u < v = omega arith in
            laid_kept g top state u v n (fine u b k).ends nxt prv lead nxt' prv' lead' kn kp kl (p.laid top u b k)

  -- node v is a `Bridge`, or not, by where its entries stand
  module _ (rising : Rising g.start g.list) (v from to : ℕ) (l : v < length g.start - 1)
      (at : from ≡ get_or g.start v 0) (end : to ≡ get_or g.start (v + 1) 0) where
    is_bridge : to ≡ from + 2 → Bridge g v
    is_bridge two = omega (arith, part_length rising v l)

    is_cross : (to ≡ from + 2 → ⊥) → Cross g v
    is_cross n two = n (omega (arith, part_length rising v l))

  -- ---- the loop over the `Bridge`s: those below v are laid, no entry of a node from v on is named yet, and whether there is a `Cross`
  pub record Bridging (crosses : Bool) (from v : ℕ) (nxt lead : List ℕ) : Type 0 where
    pub place : from ≡ get_or g.start v 0
    pub done : (prv : List ℕ) → KindLaid g state (Bridge g) v nxt prv lead
    pub ahead : (k : ℕ) → v ≤ get_or g.a_id k 0 → get_or lead k 0 ≡ 0
    pub alone : crosses ≡ false → (u : ℕ) → u < v → Bridge g u

  -- one node more
  module _ (rising : Rising g.start g.list) {crosses : Bool} {from v : ℕ} {nxt lead : List ℕ} (b : Bridging crosses from v nxt lead) (to : ℕ)
      (l : v < length g.start - 1) (end : to ≡ get_or g.start (v + 1) 0) where
    pub bridging_other : (to ≡ from + 2 → ⊥) → Bridging true to (v + 1) nxt lead
    bridging_other n = record {
      place = end;
      done = λ prv. kind_other (Bridge g) v (is_cross rising v from to l b.place end n) (b.done prv);
      ahead = λ k h. b.ahead k (omega arith);
      alone = λ e. absurd (true≢false refl e);
    }

    pub bridging_more : {nxt' lead' : List ℕ} → to ≡ from + 2 → wrong_at g state v ≡ false
        → ((prv top : List ℕ) → Laid (graph_of g top) state v nxt' prv lead')
        → ElseKept g.a_id g.b_id v nxt nxt' → OthersKept g.a_id v lead lead' → Bridging crosses to (v + 1) nxt' lead'
    bridging_more two w new kn kl = record {
      place = end;
      done = λ prv. kind_more (Bridge g) v (b.done prv) w (new prv) kn (λ h n. refl) kl;
      ahead = λ k h. kl k (λ e. omega arith) ∙ b.ahead k (omega arith);
      alone = λ e u h. is e u h (ℕ_discrete u v);
    }
      where
        is : crosses ≡ false → (u : ℕ) → u < v + 1 → Dec (u ≡ v) → Bridge g u
        is e u h (yes q) = subst (Bridge g) (sym q) (is_bridge rising v from to l b.place end two)
        is e u h (no n) = b.alone e u (omega arith)

  -- all nodes are past
  module _ {crosses : Bool} {from v : ℕ} {nxt lead : List ℕ} (m : ℕ) (past : m ≤ v) (b : Bridging crosses from v nxt lead) where
    pub bridging_crosses : BridgesLaid g state m nxt lead Crosses
    bridging_crosses prv = kind_less (Bridge g) m v past (b.done prv)

    pub bridging_bridges : crosses ≡ false → BridgesLaid g state m nxt lead Bridges
    bridging_bridges e = (λ u l. b.alone e u (omega arith), bridging_crosses)

  -- ---- the loop over the `Cross`es: those below v are laid, and the ends at `Bridge`s are as they were
  pub record Crossing (from v : ℕ) (nxt₀ nxt prv : List ℕ) : Type 0 where
    pub place : from ≡ get_or g.start v 0
    pub done : (lead : List ℕ) → KindLaid g state (Cross g) v nxt prv lead
    pub same : BridgesKept g nxt₀ nxt

  module _ (rising : Rising g.start g.list) {from v : ℕ} {nxt₀ nxt prv : List ℕ} (c : Crossing from v nxt₀ nxt prv) (to : ℕ)
      (l : v < length g.start - 1) (end : to ≡ get_or g.start (v + 1) 0) where
    pub crossing_other : to ≡ from + 2 → Crossing to (v + 1) nxt₀ nxt prv
    crossing_other two = record {
      place = end;
      done = λ lead. kind_other (Cross g) v (λ n. n (is_bridge rising v from to l c.place end two)) (c.done lead);
      same = c.same;
    }

    -- what a call for a `Cross` leaves at the ends at `Bridge`s
    pub crossing_same : (nxt' : List ℕ) → (to ≡ from + 2 → ⊥) → ElseKept g.a_id g.b_id v nxt nxt' → BridgesKept g nxt₀ nxt'
    crossing_same nxt' n kn h i = kn h (λ e. is_cross rising v from to l c.place end n (subst (Bridge g) e i)) ∙ c.same h i

    pub crossing_more : {nxt' prv' : List ℕ} → (to ≡ from + 2 → ⊥) → wrong_at g state v ≡ false
        → ((lead top : List ℕ) → Laid (graph_of g top) state v nxt' prv' lead)
        → ElseKept g.a_id g.b_id v nxt nxt' → ElseKept g.a_id g.b_id v prv prv' → Crossing to (v + 1) nxt₀ nxt' prv'
    crossing_more {nxt'} n w new kn kp = record {
      place = end;
      done = λ lead. kind_more (Cross g) v (c.done lead) w (new lead) kn kp (λ k i. refl);
      same = crossing_same nxt' n kn;
    }

  pub crossing_all : {from v : ℕ} {nxt₀ nxt prv : List ℕ} (m : ℕ) → m ≤ v → Crossing from v nxt₀ nxt prv
      → (most : ℕ) → CrossesLaid g state m most nxt prv Nothing
  crossing_all {v = v} m past c most lead = kind_less (Cross g) m v past (c.done lead)

  -- something is wrong with node v
  pub found_wrong : (m v : ℕ) → v < m → (r : Bool) → r ≡ wrong_at g state v → r ≡ true → some (wrong_at g state) m ≡ true
  found_wrong m v l r w e = some_at (wrong_at g state) m v l (sym w ∙ e)

  -- ---- all nodes, by what the two loops leave
  module _ (m : ℕ) where
    abbrev Answers : ℕ → Found → Type 0
    Answers = Finds (some (wrong_at g state) m) (length g.list)

    abbrev Lays : Found → List ℕ → List ℕ → List ℕ → Type 0
    Lays r nxt prv lead = r ≡ Nothing → (top : List ℕ) (v : ℕ) → v < m → Laid (graph_of g top) state v nxt prv lead

    fault_found : Fault ≡ Nothing → ⊥
    fault_found e = bool.true≢false (cc)

    stopped : Wide ≡ Nothing → ⊥
    stopped e = bool.true≢false (cc)

    pub nodes_wrong : (most : ℕ) (nxt prv lead : List ℕ) (p : Passed) → p ≡ Wrong → BridgesLaid g state m nxt lead p
        → Answers most Fault × Lays Fault nxt prv lead
    nodes_wrong most nxt prv lead p e h =
        (subst (BridgesLaid g state m nxt lead) e h, λ z. absurd (fault_found z))

    pub nodes_bridges : (most : ℕ) (nxt prv lead : List ℕ) (p : Passed) → p ≡ Bridges → BridgesLaid g state m nxt lead p
        → Answers most Nothing × Lays Nothing nxt prv lead
    nodes_bridges most nxt prv lead p e h =
        let b = subst (BridgesLaid g state m nxt lead) e h in
        (some_no _ m (λ v l. (b.1 prv).fine v l (b.0 v l)), λ z top v l. (b.1 prv).laid top v l (b.0 v l))

    pub nodes_crosses : (most : ℕ) (nxt₀ nxt prv lead : List ℕ) (p : Passed) → p ≡ Crosses → BridgesLaid g state m nxt₀ lead p
        → (r : Found) → CrossesLaid g state m most nxt prv r → BridgesKept g nxt₀ nxt → Answers most r × Lays r nxt prv lead
    nodes_crosses most nxt₀ nxt prv lead p e h Fault c k = (c, λ z. absurd (fault_found z))
    nodes_crosses most nxt₀ nxt prv lead p e h Wide c k = (c, λ z. absurd (stopped z))
    nodes_crosses most nxt₀ nxt prv lead p e h Nothing c k =
        (some_no _ m (λ v l. right v l (ℕ_discrete (length (entries_of g v)) 2)), λ z top v l. at top v l (ℕ_discrete (length (entries_of g v)) 2))
      where
        b : (prv : List ℕ) → KindLaid g state (Bridge g) m nxt₀ prv lead
        b = subst (BridgesLaid g state m nxt₀ lead) e h

        right : (v : ℕ) → v < m → Dec (length (entries_of g v) ≡ 2) → wrong_at g state v ≡ false
        right v l (yes two) = (b prv).fine v l two
        right v l (no n) = (c lead).fine v l n

        fine : (v : ℕ) → v < m → Bridge g v → FineNode g.a_id g.b_id (a_of g) (b_of g) (node_at g.a_id) state (entries_of g v) v
        fine v l two = fine_node g.a_id g.b_id (a_of g) (b_of g) (node_at g.a_id) state (entries_of g v) v ((b prv).fine v l two)

        at : (top : List ℕ) (v : ℕ) → v < m → Dec (length (entries_of g v) ≡ 2) → Laid (graph_of g top) state v nxt prv lead
        at top v l (yes two) =
            laid_still g top state v (fine v l two).ends nxt₀ prv lead nxt prv lead (λ h i. k h (subst (Bridge g) (sym i) two)) (λ h i. refl) (λ k i. refl)
            ((b prv).laid top v l two)
        at top v l (no n) = (c lead).laid top v l n
