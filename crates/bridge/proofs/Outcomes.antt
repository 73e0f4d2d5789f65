-- What a `Bridge`'s contract asks, of the answer and of the lists left, by the way that the code went.
use Prim.Native.Nat.{ℕ, ◌*◌, ◌≤◌, ◌<◌}
use native.Mathlib.Omega.{arith}
use mathlib.Core.Path.{◌≡◌, refl, sym, ◌∙◌, subst}
use mathlib.Core.Bool.{Bool, true, false, not, ◌||◌}
use mathlib.Core.List.{List}
use lib.Dec.{eqb, leb}
use lib.IntN.{ℤ}
use lib.ListN.{length, get_or, set}
use borrow.Author.Tests.{eqb-true, eqb-false, not-false}
use Rattle.laws.specs.Test.{pick, pick_false, true≢false, or_false}
use Rattle.turn.specs.declared.Point.{Point}
use Rattle.turn.specs.Points.{differ, clockwise}
use Rattle.graph.specs.Graph.{lent, graph_of, point_at}
use Rattle.graph.specs.Checks.{node_at}
use Rattle.graph.specs.Quick.{like_wrong, bridge_wrong}
use Rattle.graph.specs.Known.{Runs}
use Rattle.graph.specs.PointLaws.{same_point}
use Rattle.graph.specs.BridgeLaws.{no_link, no_end, b_and_a, a_and_b, two_a, two_b}
use Rattle.rings.specs.Ends.{a_end, b_end}
use Rattle.rings.specs.Field.{LaidBridge, ElseKept, OthersKept}
use Rattle.pairs.specs.Stores.{paired, led}
use Rattle.bridge.proofs.Stored.{a_end_node, b_end_node, pair_kept, one_kept, led_kept}
use Rattle.bridge.proofs.Bridges.{differ_either, laid_b_a, laid_a_b, laid_b_b, laid_a_a}

module _ {ax ay bx by : List ℤ} {a_id b_id : List ℕ} (runs : Runs ax ay bx by a_id b_id) (state : List ℕ) (v e f : ℕ) (nxt lead : List ℕ) where
  abbrev a : ℕ → Point
  a = point_at ax ay

  abbrev b : ℕ → Point
  b = point_at bx by

  abbrev Laid : List ℕ → List ℕ → Type 0
  Laid nxt' lead' = (start list top : List ℕ) → LaidBridge (graph_of (lent ax ay bx by a_id b_id start list) top) v e f nxt' lead'

  -- the contract, of the answer r and the lists left
  abbrev Outcome : Bool → List ℕ → List ℕ → Type 0
  Outcome r nxt' lead' = (r ≡ bridge_wrong a_id b_id a b (node_at a_id) state v e f) × (r ≡ false → Laid nxt' lead')
      × ((ElseKept a_id b_id v nxt nxt') × (OthersKept a_id v lead lead'))

  -- refused before any store
  refused : true ≡ bridge_wrong a_id b_id a b (node_at a_id) state v e f → Outcome true nxt lead
  refused h = (h, λ q. absurd (true≢false refl q), (λ i n. refl, λ k n. refl))

  pub outcome_no_link : leb (length a_id) e || leb (length a_id) f ≡ true → Outcome true nxt lead
  outcome_no_link h = refused (no_link runs state v e f h)

  pub outcome_no_end : (get_or a_id f 0 ≡ v → ⊥) → (get_or b_id f 0 ≡ v → ⊥) → Outcome true nxt lead
  outcome_no_end h k = refused (no_end runs state v e f h k)

  -- the fault that ends of one sort have none of
  like_fine : (pId : List ℕ) (p q : ℕ → Point) → like_wrong pId p q state v e f ≡ false → (get_or pId e 0 ≡ v) × (e ≡ f → ⊥)
  like_fine pId p q h = (
    eqb-true (get_or pId e 0) v (not-false _ both.0),
    eqb-false e f both.1,
  )
    where
      passed : (s t : Bool) → pick s true t ≡ false → s ≡ false
      passed true t i = absurd (true≢false refl i)
      passed false t i = refl

      both : (not (eqb (get_or pId e 0) v) ≡ false) × (eqb e f ≡ false)
      both = or_false _ _ (or_false _ (differ (p e) (p f)) (passed _ _ h)).0

  module _ (le : e < length a_id) (lf : f < length a_id) (room : 2 * length a_id ≤ length nxt) (slots : length a_id ≤ length lead)
      (r : Bool) (nxt' lead' : List ℕ) where
    re : b_end e < length nxt
    re = omega arith

    rf : b_end f < length nxt
    rf = omega arith

    -- the b of e and the a of f
    pub outcome_b_a : ((k : ℕ) → get_or a_id k 0 ≡ v → get_or lead k 0 ≡ 0) → get_or a_id f 0 ≡ v → get_or b_id e 0 ≡ v
        → r ≡ differ (b e) (a f) → nxt' ≡ pick r nxt (paired nxt (b_end e) (b_end f) (a_end f) (a_end e)) → Outcome r nxt' lead
    outcome_b_a z h k w s = (
      w ∙ b_and_a runs state v e f le lf h k,
      λ q start list top. subst (λ (l : List ℕ). LaidBridge (graph_of (lent ax ay bx by a_id b_id start list) top) v e f l lead)
          (sym (s ∙ pick_false _ _ q))
          (laid_b_a (graph_of (lent ax ay bx by a_id b_id start list) top) v e f nxt lead re rf (λ i. runs.two e le (i ∙ sym k)) h (z f h)),
      (
        subst (ElseKept a_id b_id v nxt) (sym s)
            (pair_kept a_id b_id v nxt (b_end e) (b_end f) (a_end f) (a_end e) r (λ _. b_end_node a_id b_id e ∙ k) (λ _. a_end_node a_id b_id f ∙ h)),
        λ i n. refl,
      ),
    )

    -- the a of e and the b of f
    pub outcome_a_b : (get_or a_id f 0 ≡ v → ⊥) → get_or b_id f 0 ≡ v → get_or a_id e 0 ≡ v
        → r ≡ differ (b f) (a e) → nxt' ≡ pick r nxt (paired nxt (b_end f) (b_end e) (a_end e) (a_end f)) → Outcome r nxt' (set lead e 2)
    outcome_a_b n h k w s = (
      w ∙ differ_either (b f) (a e) ∙ a_and_b runs state v e f le lf n h k,
      λ q start list top. subst (λ (l : List ℕ). LaidBridge (graph_of (lent ax ay bx by a_id b_id start list) top) v e f l (set lead e 2))
          (sym (s ∙ pick_false _ _ q))
          (laid_a_b (graph_of (lent ax ay bx by a_id b_id start list) top) v e f nxt lead re rf k n (omega arith)
          (same_point (b f) (a e) (sym w ∙ q))),
      (
        subst (ElseKept a_id b_id v nxt) (sym s)
            (pair_kept a_id b_id v nxt (b_end f) (b_end e) (a_end e) (a_end f) r (λ _. b_end_node a_id b_id f ∙ h) (λ _. a_end_node a_id b_id e ∙ k)),
        one_kept a_id b_id v lead e 2 k,
      ),
    )

    -- the a's of both
    pub outcome_a_a : get_or a_id f 0 ≡ v → (get_or b_id e 0 ≡ v → ⊥) → r ≡ like_wrong a_id a b state v e f
        → nxt' ≡ pick r nxt (paired nxt (a_end e) (b_end f) (a_end f) (b_end e))
        → lead' ≡ pick r lead (led (clockwise (a e) (b e) (b f)) lead e f) → Outcome r nxt' lead'
    outcome_a_a h n w s t = (
      w ∙ two_a runs state v e f le lf h n,
      λ q start list top. subst (λ (l : List ℕ). LaidBridge (graph_of (lent ax ay bx by a_id b_id start list) top) v e f l lead')
          (sym (s ∙ pick_false _ _ q))
          (subst (LaidBridge (graph_of (lent ax ay bx by a_id b_id start list) top) v e f (paired nxt (a_end e) (b_end f) (a_end f) (b_end e)))
          (sym (t ∙ pick_false _ _ q))
          (laid_a_a (graph_of (lent ax ay bx by a_id b_id start list) top) v e f nxt lead re rf (fine q).0 h (fine q).1 (omega arith) (omega arith))),
      (
        subst (ElseKept a_id b_id v nxt) (sym s)
            (pair_kept a_id b_id v nxt (a_end e) (b_end f) (a_end f) (b_end e) r (λ q. a_end_node a_id b_id e ∙ (fine q).0)
            (λ _. a_end_node a_id b_id f ∙ h)),
        subst (OthersKept a_id v lead) (sym t) (led_kept a_id b_id v (clockwise (a e) (b e) (b f)) r lead e f (λ q. (fine q).0) h),
      ),
    )
      where
        fine : r ≡ false → (get_or a_id e 0 ≡ v) × (e ≡ f → ⊥)
        fine q = like_fine a_id a b (sym w ∙ q)

    -- the b's of both
    pub outcome_b_b : (get_or a_id f 0 ≡ v → ⊥) → get_or b_id f 0 ≡ v → (get_or a_id e 0 ≡ v → ⊥) → r ≡ like_wrong b_id b a state v e f
        → nxt' ≡ pick r nxt (paired nxt (b_end e) (a_end f) (b_end f) (a_end e)) → Outcome r nxt' lead
    outcome_b_b n h m w s = (
      w ∙ two_b runs state v e f le lf n h m,
      λ q start list top. subst (λ (l : List ℕ). LaidBridge (graph_of (lent ax ay bx by a_id b_id start list) top) v e f l lead)
          (sym (s ∙ pick_false _ _ q))
          (laid_b_b (graph_of (lent ax ay bx by a_id b_id start list) top) v e f nxt lead re rf m n (fine q).1),
      (
        subst (ElseKept a_id b_id v nxt) (sym s)
            (pair_kept a_id b_id v nxt (b_end e) (a_end f) (b_end f) (a_end e) r (λ q. b_end_node a_id b_id e ∙ (fine q).0)
            (λ _. b_end_node a_id b_id f ∙ h)),
        λ i k. refl,
      ),
    )
      where
        fine : r ≡ false → (get_or b_id e 0 ≡ v) × (e ≡ f → ⊥)
        fine q = like_fine b_id b a (sym w ∙ q)
