-- One walk: it closes, along the links' directions, and leaves the unvisited ends by turns.
use Rattle.std.specs.Prelude.{ℕ, zero, suc, ◌<◌, ◌≡◌, refl, ◌⊎◌, Bool, true, List, [], ◌∷◌, length, set, Some}
use Rattle.std.proofs.Common.{arith, ◌∙◌, subst, inl, inr, ⊎_elim, true≢false, eq-eqb, ne_eqb}
use Rattle.std.proofs.Math.Decide.{ℕ_discrete}
use Rattle.std.proofs.Math.Path.{sym, ap}
use Rattle.std.proofs.Math.Dec.{eqb}
use Rattle.laws.specs.Test.{pick_true, pick_false}
use Rattle.graph.specs.Graph.{Graph}
use Rattle.next.specs.Next.{met_first, next_link, other, unvisited}
use Rattle.next.specs.Choice.{Mem}
use Rattle.next.specs.States.{unvisited_below}
use Rattle.walk.specs.Walk.{Step, step_from, Walked, done, cons_step, on_next, walk_on}
use Rattle.walk.specs.States.{Unvisited, Mark, set_in, set_gone, set_of, unvisited_set}
use Rattle.tour.specs.Alternation.{Cyc, Alt, alt_ext, remove, some_next, none_before, next_sort}
use Rattle.tour.specs.First.{next_ok}
use Rattle.tour.specs.Ends.{End, hd, tl, link, arrives, way_of, head_n, tail_n, node, UnvisitedEnd, Listed, dec, end_at_lem, listed, leave}

-- a line of links in their directions, from node v to node u
abbrev pub Chain : Graph → Bool → ℕ → List Step → ℕ → Type 0
Chain g cw v [] u = v ≡ u
Chain g cw v (p ∷ l) u = (tail_n g cw p.link ≡ v) × (p.forward ≡ way_of g cw p.link) × Chain g cw (head_n g cw p.link) l u

-- the ends that count while a walk is under way: s was left, e just walked
abbrev pub During : List ℕ → ℕ → ℕ → End → Type 0
During st s e (hd k) = Unvisited st k ⊎ (k ≡ e)
During st s e (tl k) = Unvisited st k ⊎ (k ≡ s)

abbrev pub ByTurns : Graph → Bool → (End → End → End → Type 0) → (End → Type 0) → Type 0
ByTurns g cw B W = Alt End (node g cw) arrives B W

pub record Walks (g : Graph) (cw : Bool) (B : End → End → End → Type 0) (st₀ : List ℕ) (v u : ℕ) (o : Walked) : Type 0 where
  pub steps : List Step
  pub state : List ℕ
  pub is : o ≡ done steps state
  pub chain : Chain g cw v steps u
  pub sub : (k : ℕ) → Unvisited state k → Unvisited st₀ k
  pub turns : ByTurns g cw B (UnvisitedEnd state)

-- a link, and then the rest of the walk
pub one_more : (g : Graph) (cw : Bool) (B : End → End → End → Type 0) (st₀ : List ℕ) (v u f : ℕ) (go : Walked) → tail_n g cw f ≡ v
    → (b : Bool) → b ≡ way_of g cw f → Walks g cw B st₀ (head_n g cw f) u go → Walks g cw B st₀ v u (cons_step (record { link = f; forward = b }) go)
one_more g cw B st₀ v u f go n b pf r = record {
  steps = record { link = f; forward = b } ∷ r.steps;
  state = r.state;
  is = ap (cons_step (record { link = f; forward = b })) r.is;
  chain = (n, pf, r.chain);
  sub = r.sub;
  turns = r.turns;
}

module _ (g : Graph) (ok : Listed g) (cw w : Bool) (st₀ : List ℕ) (len : length st₀ ≡ g.n) {B : End → End → End → Type 0}
    (c : Cyc End (node g cw) (UnvisitedEnd st₀) B)
    (seen : (x y z : End) → B x y z → met_first g w (node g cw x) (link x) (link y) (link z) ≡ true)
    (irr : (v e x : ℕ) → met_first g w v e x x ≡ true → ⊥)
    (trans : (v e x y z : ℕ) → met_first g w v e x y ≡ true → met_first g w v e y z ≡ true → met_first g w v e x z ≡ true)
    (m : ℕ) (m≢0 : Mark m) (s t : ℕ) (ss : Unvisited st₀ s) (st : Unvisited st₀ t) (home : head_n g cw t ≡ tail_n g cw s) where
  small : (k : ℕ) → Unvisited st₀ k → k < g.n
  small k o = subst (λ x. k < x) len (unvisited_below st₀ k o)

  pub record Inv (σ : List ℕ) (e : ℕ) : Type 0 where
    pub sub : (k : ℕ) → Unvisited σ k → Unvisited st₀ k
    pub se : Unvisited st₀ e
    pub ce : Unvisited σ e → ⊥
    pub cs : Unvisited σ s → ⊥
    pub last : (e ≡ t → ⊥) → Unvisited σ t
    pub turns : ByTurns g cw B (During σ s e)
    pub adj : (x : End) → During σ s e x → node g cw x ≡ tail_n g cw s → B (hd t) x (tl s) → ⊥

  module _ (σ : List ℕ) (e : ℕ) (i : Inv σ e) where
    sub_end : (x : End) → During σ s e x → UnvisitedEnd st₀ x
    sub_end (hd k) = ⊎_elim (λ o. i.sub k o) (λ q. subst (Unvisited st₀) (sym q) i.se)
    sub_end (tl k) = ⊎_elim (λ o. i.sub k o) (λ q. subst (Unvisited st₀) (sym q) ss)

    unvisited_during : (x : End) → UnvisitedEnd σ x → During σ s e x
    unvisited_during (hd k) o = inl o
    unvisited_during (tl k) o = inl o

    during_unvisited : (x : End) → During σ s e x → (x ≡ hd e → ⊥) → (x ≡ tl s → ⊥) → UnvisitedEnd σ x
    during_unvisited (hd k) d p q = ⊎_elim (λ o. o) (λ r. absurd (p (ap hd r))) d
    during_unvisited (tl k) d p q = ⊎_elim (λ o. o) (λ r. absurd (q (ap tl r))) d

    -- ---- the walk is over
    not_left : (x : End) → UnvisitedEnd σ x → During σ s e x × (x ≡ hd e → ⊥) × (x ≡ tl s → ⊥)
    not_left x o = (unvisited_during x o, λ q. i.ce (subst (UnvisitedEnd σ) q o), λ q. i.cs (subst (UnvisitedEnd σ) q o))

    finished : e ≡ t → ByTurns g cw B (UnvisitedEnd σ)
    finished p = alt_ext (λ x h. during_unvisited x h.0 h.1 h.2) not_left
        (remove dec arrives c sub_end i.turns (tail_n g cw s) (hd e) (tl s) (inr refl) (inr refl) (ap (head_n g cw) p ∙ home) refl refl
        (λ x d n h. i.adj x d n (subst (λ k. B (hd k) x (tl s)) p h)))

    -- ---- the walk goes on
    module _ (d : e ≡ t → ⊥) where
      abbrev Going : ℕ → Type 0
      Going f = (tail_n g cw f ≡ head_n g cw e) × ((x : End) → During σ s e x → node g cw x ≡ head_n g cw e → B (hd e) x (tl f) → ⊥)

      some_unvisited : (z : ℕ) × Mem z (g.entries (head_n g cw e)) × Unvisited σ z
      some_unvisited =
          let r = some_next dec arrives c sub_end i.turns (hd e) (tl s) (hd t) (inr refl) (inr refl) (inl (i.last d)) home refl refl
          (λ q. d (ap link q)) i.adj in
          let x = r.0 in
          let o : UnvisitedEnd σ x = during_unvisited x r.1 (λ q. true≢false (sym (ap arrives q) ∙ r.3)) r.4 in
          (link x, subst (λ v. Mem (link x) (g.entries v)) r.2 (listed g ok cw x (small (link x) (i.sub (link x) o))), o)

      module _ (f : ℕ) (of : Unvisited σ f) (first : (x : ℕ) → Mem x (g.entries (head_n g cw e)) → Unvisited σ x → met_first g w (head_n g cw e) e x f
          ≡ true → ⊥) where
        first_end : (y : End) → link y ≡ f → (x : End) → During σ s e x → node g cw x ≡ head_n g cw e → (x ≡ hd e → ⊥) → (x ≡ tl s → ⊥) → B (hd e) x y → ⊥
        first_end y q x dx nx n₁ n₂ h =
            let o : UnvisitedEnd σ x = during_unvisited x dx n₁ n₂ in
            first (link x) (subst (λ v. Mem (link x) (g.entries v)) nx (listed g ok cw x (small (link x) (i.sub (link x) o)))) o
            (subst (λ k. met_first g w (head_n g cw e) e (link x) k ≡ true) q (seen (hd e) x y h))

        -- f leaves the node, and is next to e
        going : (tail_n g cw f ≡ head_n g cw e) ⊎ (head_n g cw f ≡ head_n g cw e) → Going f
        going (inl p) = (
          p,
          none_before dec arrives c sub_end i.turns (hd e) (tl s) (hd t) (inr refl) (inr refl) (inl (i.last d)) home refl refl (λ q. d (ap link q)) i.adj
              (tl f) (inl of) p (first_end (tl f) refl),
        )
        going (inr p) =
            absurd (true≢false (next_sort dec arrives c sub_end i.turns (hd e) (tl s) (hd t) (inr refl) (inr refl) (inl (i.last d)) home refl refl
            (λ q. d (ap link q)) i.adj
            (hd f) (inl of) p (first_end (hd f) refl)))

        module _ (gf : Going f) where
          abbrev σ' : List ℕ
          σ' = set σ f m

          abbrev Left : End → Type 0
          Left x = During σ s e x × (x ≡ hd e → ⊥) × (x ≡ tl f → ⊥)

          to : (x : End) → Left x → During σ' s f x
          to (hd k) h =
              elim (ℕ_discrete k f) [
                | yes p ↦ inr p
                | no n ↦ inl
                    (set_in σ f m k (during_unvisited (hd k) h.0 h.1 (λ q. true≢false (ap arrives q))) n)
              ]
          to (tl k) h = ⊎_elim (λ o. inl (set_in σ f m k o (λ q. h.2 (ap tl q)))) (λ q. inr q) h.0

          from : (x : End) → During σ' s f x → Left x
          from (hd k) h =
              let o : Unvisited σ k = ⊎_elim (λ o. (set_of σ f m k of m≢0 o).0) (λ q. subst (Unvisited σ) (sym q) of) h in
              (inl o, λ q. i.ce (subst (Unvisited σ) (ap link q) o), λ q. true≢false (ap arrives q))
          from (tl k) h = (
            ⊎_elim (λ o. inl (set_of σ f m k of m≢0 o).0) (λ q. inr q) h,
            λ q. true≢false (sym (ap arrives q)),
            λ q. ⊎_elim (λ o. (set_of σ f m k of m≢0 o).1 (ap link q)) (λ r. i.cs (subst (Unvisited σ) (sym (ap link q) ∙ r) of)) h,
          )

          inv : Inv σ' f
          inv = record {
            sub = λ k o. i.sub k (set_of σ f m k of m≢0 o).0;
            se = i.sub f of;
            ce = set_gone σ f m of m≢0;
            cs = λ o. i.cs (set_of σ f m s of m≢0 o).0;
            last = λ n. set_in σ f m t (i.last d) (λ q. n (sym q));
            turns = alt_ext to from (remove dec arrives c sub_end i.turns (head_n g cw e) (hd e) (tl f) (inr refl) (inl of) refl gf.0 refl gf.1);
            adj = λ x h. i.adj x (from x h).0;
          }

  abbrev pub Out : ℕ → Walked → Type 0
  Out e o = Walks g cw B st₀ (head_n g cw e) (tail_n g cw s) o

  abbrev pub run : ℕ → ℕ → List ℕ → Walked
  run fuel e σ = walk_on fuel g w (tail_n g cw s) t m (head_n g cw e) e σ

  at_last : (fuel : ℕ) (σ : List ℕ) (e : ℕ) → Inv σ e → e ≡ t → Out e (run (suc fuel) e σ)
  unfolding walk_on
  at_last fuel σ e i p =
      let back : head_n g cw e ≡ tail_n g cw s = ap (head_n g cw) p ∙ home in
      record {
        steps = [];
        state = σ;
        is = pick_true {b = eqb e t} _ _ (eq-eqb e t p) ∙ pick_true {b = eqb (head_n g cw e) (tail_n g cw s)} _ _ (eq-eqb (head_n g cw e) (tail_n g cw s) back);
        chain = back;
        sub = i.sub;
        turns = finished σ e i p;
      }

  onward : (fuel : ℕ) (σ : List ℕ) (e f : ℕ) → (e ≡ t → ⊥) → next_link g w σ (head_n g cw e) e ≡ Some f → other g (head_n g cw e) f ≡ head_n g cw f
      → cons_step (step_from g (head_n g cw e) f) (run fuel f (set σ f m)) ≡ run (suc fuel) e σ
  unfolding walk_on
  onward fuel σ e f d p q =
      sym (pick_false {b = eqb e t} _ _ (ne_eqb e t d)
      ∙ ap (on_next (λ f. cons_step (step_from g (head_n g cw e) f) (walk_on fuel g w (tail_n g cw s) t m (other g (head_n g cw e) f) f (set σ f m)))) p
      ∙ ap (λ v. cons_step (step_from g (head_n g cw e) f) (walk_on fuel g w (tail_n g cw s) t m v f (set σ f m))) q)

  go_on : (fuel : ℕ) (σ : List ℕ) (e : ℕ) → Inv σ e → (e ≡ t → ⊥) → unvisited σ < suc fuel
      → ((σ' : List ℕ) (e' : ℕ) → Inv σ' e' → unvisited σ' < fuel → Out e' (run fuel e' σ')) → Out e (run (suc fuel) e σ)
  go_on fuel σ e i d h ih =
      let v : ℕ = head_n g cw e in
      let z = some_unvisited σ e i d in
      let r = next_ok g w σ v e (irr v e) (trans v e) i.ce z.0 z.2 (listed g ok cw (hd e) (small e i.se)) z.1 in
      let f : ℕ = r.0 in
      let of : Unvisited σ f = r.3 in
      let gf = going σ e i d f of r.4 (end_at_lem g ok cw v f r.2) in
      let l = leave g ok cw v f (small f (i.sub f of)) gf.0 in
      let fewer : unvisited σ ≡ suc (unvisited (set σ f m)) = unvisited_set σ f m of m≢0 in
      subst (Out e) (onward fuel σ e f d r.1 l.1)
      (one_more g cw B st₀ v (tail_n g cw s) f (run fuel f (set σ f m)) gf.0 (eqb (g.a_node f) v) l.0
      (ih (set σ f m) f (inv σ e i d f of r.4 gf) (omega arith)))

  pub walk_ok : (fuel : ℕ) (σ : List ℕ) (e : ℕ) → Inv σ e → unvisited σ < fuel → Out e (run fuel e σ)
  walk_ok zero σ e i h = absurd (few h)
    where
      few : unvisited σ < 0 → ⊥
      few h = omega arith
  walk_ok (suc fuel) σ e i h = elim (ℕ_discrete e t) [ yes p ↦ at_last fuel σ e i p | no n ↦ go_on fuel σ e i n h (walk_ok fuel) ]
