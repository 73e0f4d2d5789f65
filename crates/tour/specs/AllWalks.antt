-- The first link, the last link, and the scan: no walk is refused.
use Prim.Native.Nat.{ℕ, zero, suc, ◌<◌}
use Rattle.std.proofs.Common.{arith, sym, ◌∙◌, subst, inl, inr, ⊎_elim}
use Rattle.std.proofs.Math.Decide.{ℕ_discrete}
use Rattle.std.specs.Prelude.{◌≡◌, refl, ◌⊎◌, Bool, true, false, not, length, set, ltb}
use Rattle.std.proofs.Math.Path.{ap}
use mathlib.Core.List.Memᴰ
use mathlib.Core.List.{List, [], ◌∷◌}
use Rattle.laws.specs.Test.{pick_ind}
use Rattle.graph.specs.Graph.{Graph}
use Rattle.next.specs.Next.{met_first, first_link, unvisited}
use Rattle.next.specs.Choice.{Mem}
use Rattle.next.specs.States.{unvisited_below}
use Rattle.walk.specs.Walk.{Step, Walk, Walked, done, cons_step, on_next, walk_on, walk_from, mark_of}
use Rattle.scan.specs.Scan.{sense_of, walk_of, Scanned, walks, cons_walk, after_walk, scan_at, lowest_unvisited, scan_on, scan}
use Rattle.walk.specs.States.{Unvisited, Mark, set_in, set_gone, set_of}
use Rattle.walk.specs.Visits.{Visits, from_visits, visits_fewer, mark_of_lem}
use Rattle.scan.specs.Visits.{lowest_unvisited_lem}
use Rattle.tour.specs.Alternation.{Cyc, mirror, alt_mirror, alt_ext, no_not}
use Rattle.tour.specs.First.{next_ok, Paired, first_ok}
use Rattle.tour.specs.Ends.{End, hd, tl, link, arrives, way_of, head_n, tail_n, node, UnvisitedEnd, Listed, end_at_lem, listed, same_end}
use Rattle.tour.specs.OneWalk.{Chain, During, ByTurns, Walks, Inv, walk_ok}

-- the order of turning clockwise, and of turning the other way
abbrev pub Sensed : Bool → (End → End → End → Type 0) → End → End → End → Type 0
Sensed true B x y z = B x y z
Sensed false B x y z = B z y x

-- every walk is a closed line of links in their directions
abbrev pub Closed : Graph → Bool → List Walk → Type 0
Closed g cw [] = Unit {0}
Closed g cw (w ∷ ws) = ((u : ℕ) × Chain g cw u w.steps u) × Closed g cw ws

pub record Scans (g : Graph) (cw : Bool) (o : Scanned) : Type 0 where
  pub all : List Walk
  pub state : List ℕ
  pub is : o ≡ walks all state
  pub closed : Closed g cw all

module _ (g : Graph) (ok : Listed g) (cw : Bool) (st₀ : List ℕ) (len : length st₀ ≡ g.n) {B : End → End → End → Type 0}
    (c : Cyc End (node g cw) (UnvisitedEnd st₀) B)
    (seen : (w : Bool) (x y z : End) → Sensed w B x y z → met_first g w (node g cw x) (link x) (link y) (link z) ≡ true)
    (irr : (w : Bool) (v e x : ℕ) → met_first g w v e x x ≡ true → ⊥)
    (trans : (w : Bool) (v e x y z : ℕ) → met_first g w v e x y ≡ true → met_first g w v e y z ≡ true → met_first g w v e x z ≡ true) where
  cyc : (w : Bool) → Cyc End (node g cw) (UnvisitedEnd st₀) (Sensed w B)
  cyc true = c
  cyc false = mirror c

  to_sense : (w : Bool) (W : End → Type 0) → ByTurns g cw B W → ByTurns g cw (Sensed w B) W
  to_sense true W a = a
  to_sense false W a = alt_mirror a

  of_sense : (w : Bool) (W : End → Type 0) → ByTurns g cw (Sensed w B) W → ByTurns g cw B W
  of_sense true W a = a
  of_sense false W a = alt_mirror a

  turned : (w : Bool) (x y z : End) → Sensed w B x y z → Sensed (not w) B z y x
  turned true x y z h = h
  turned false x y z h = h

  module _ (σ : List ℕ) (sub : (k : ℕ) → Unvisited σ k → Unvisited st₀ k) (turns : ByTurns g cw B (UnvisitedEnd σ)) where
    small : (k : ℕ) → Unvisited σ k → k < g.n
    small k o = subst (λ x. k < x) len (unvisited_below st₀ k (sub k o))

    -- the partner of an unvisited end: another unvisited link at its node
    partner : (x : End) → UnvisitedEnd σ x → (z : ℕ) × Mem z (g.entries (node g cw x)) × Unvisited σ z × (z ≡ link x → ⊥)
    partner x o =
        let r = turns (node g cw x) x x o o refl refl refl in
        let z = r.0 in (
          link z,
          subst (λ v. Mem (link z) (g.entries v)) r.2 (listed g ok cw z (small (link z) r.1)),
          r.1,
          λ q. no_not (arrives x) (sym (ap arrives (same_end g ok cw z x (small (link z) r.1) q r.2)) ∙ r.3),
        )

    -- ---- a bridge
    paired : Paired g σ
    paired v x y k e mk o = ⊎_elim (λ p. by (tl k) refl p) (λ p. by (hd k) refl p) (end_at_lem g ok cw v k (subst (Mem k) (sym e) mk))
      where
        two : {a : ℕ} → Mem a (x ∷ (y ∷ [])) → (a ≡ x) ⊎ (a ≡ y)
        two m = ⊎_elim inl (λ n. ⊎_elim inr (λ j. absurd (Memᴰ.not-nil j)) (Memᴰ.cases_cons n)) (Memᴰ.cases_cons m)

        both : (a b : ℕ) → Unvisited σ a → Unvisited σ b → (b ≡ a → ⊥) → (a ≡ x) ⊎ (a ≡ y) → (b ≡ x) ⊎ (b ≡ y) → Unvisited σ x × Unvisited σ y
        both a b oa ob d (inl p) (inl q) = absurd (d (q ∙ sym p))
        both a b oa ob d (inl p) (inr q) = (subst (Unvisited σ) p oa, subst (Unvisited σ) q ob)
        both a b oa ob d (inr p) (inl q) = (subst (Unvisited σ) q ob, subst (Unvisited σ) p oa)
        both a b oa ob d (inr p) (inr q) = absurd (d (q ∙ sym p))

        by : (f : End) → link f ≡ k → node g cw f ≡ v → Unvisited σ x × Unvisited σ y
        by f lf nf =
            let of : UnvisitedEnd σ f = subst (Unvisited σ) (sym lf) o in
            let z = partner f of in
            let mz : Mem z.0 (x ∷ (y ∷ [])) = subst (Mem z.0) (ap g.entries nf ∙ e) z.1 in
            both k z.0 o z.2 (λ q. z.3 (q ∙ sym lf)) (two mk) (two mz)

    -- ---- a walk from s
    module _ (s : ℕ) (os : Unvisited σ s) where
      abbrev w : Bool
      w = sense_of g cw s

      abbrev m : ℕ
      m = mark_of (g.top s)

      abbrev σ₁ : List ℕ
      σ₁ = set σ s m

      abbrev home : ℕ
      home = tail_n g cw s

      n0 : Mark m
      n0 = mark_of_lem (g.top s)

      turns' : ByTurns g cw (Sensed (not w) B) (UnvisitedEnd σ)
      turns' = to_sense (not w) (UnvisitedEnd σ) turns

      abbrev Last : ℕ → Type 0
      Last t = (head_n g cw t ≡ home) × ((x : End) → UnvisitedEnd σ x → node g cw x ≡ home → Sensed (not w) B (tl s) x (hd t) → ⊥)

      module _ (t : ℕ) (ot : Unvisited σ₁ t) (first : (x : ℕ) → Mem x (g.entries home) → Unvisited σ₁ x → met_first g (not w) home s x t ≡ true → ⊥) where
        none_between : (y : End) → link y ≡ t → (x : End) → UnvisitedEnd σ x → node g cw x ≡ home → Sensed (not w) B (tl s) x y → ⊥
        none_between y ly x o nx h = go (ℕ_discrete (link x) s)
          where
            go : Dec (link x ≡ s) → ⊥
            go (yes p) = (cyc (not w)).irr' (tl s) y (subst (λ u. Sensed (not w) B (tl s) u y) (same_end g ok cw x (tl s) (small (link x) o) p nx) h)
            go (no n) = first (link x) (subst (λ v. Mem (link x) (g.entries v)) nx (listed g ok cw x (small (link x) o))) (set_in σ s m (link x) o n)
                (subst (λ k. met_first g (not w) home s (link x) k ≡ true) ly (seen (not w) (tl s) x y h))

        ot' : Unvisited σ t
        ot' = (set_of σ s m t os n0 ot).0

        last_is : (tail_n g cw t ≡ home) ⊎ (head_n g cw t ≡ home) → Last t
        last_is (inl p) = absurd (let r = turns' home (tl s) (tl t) os ot' refl p refl in none_between (tl t) refl r.0 r.1 r.2 r.4)
        last_is (inr p) = (p, none_between (hd t) refl)

        module _ (la : Last t) where
          to : (x : End) → UnvisitedEnd σ x → During σ₁ s s x
          to (hd k) o = elim (ℕ_discrete k s) [ yes p ↦ inr p | no n ↦ inl (set_in σ s m k o n) ]
          to (tl k) o = elim (ℕ_discrete k s) [ yes p ↦ inr p | no n ↦ inl (set_in σ s m k o n) ]

          from : (x : End) → During σ₁ s s x → UnvisitedEnd σ x
          from (hd k) = ⊎_elim (λ o. (set_of σ s m k os n0 o).0) (λ q. subst (Unvisited σ) (sym q) os)
          from (tl k) = ⊎_elim (λ o. (set_of σ s m k os n0 o).0) (λ q. subst (Unvisited σ) (sym q) os)

          begun : Inv g ok cw w st₀ len (cyc w) (seen w) (irr w) (trans w) m n0 s t (sub s os) (sub t ot') la.0 σ₁ s
          begun = record {
            sub = λ k o. sub k (set_of σ s m k os n0 o).0;
            se = sub s os;
            ce = set_gone σ s m os n0;
            cs = set_gone σ s m os n0;
            last = λ n. ot;
            turns = alt_ext to from (to_sense w (UnvisitedEnd σ) turns);
            adj = λ x d n h. la.1 x (from x d) n (turned w (hd t) x (tl s) h);
          }

          walked : Walks g cw (Sensed w B) st₀ (head_n g cw s) home (walk_on (suc (unvisited σ₁)) g w home t m (head_n g cw s) s σ₁)
          walked = walk_ok g ok cw w st₀ len (cyc w) (seen w) (irr w) (trans w) m n0 s t (sub s os) (sub t ot') la.0
              (suc (unvisited σ₁)) σ₁ s begun (omega arith)

      from_ok : (o : Walked) × (walk_of g cw σ s ≡ cons_step (record { link = s; forward = way_of g cw s }) o) × Walks g cw (Sensed w B) st₀ (head_n g cw s)
          home o
      unfolding walk_from
      from_ok =
          let z = partner (tl s) os in
          let r = next_ok g (not w) σ₁ home s (irr (not w) home s) (trans (not w) home s) (set_gone σ s m os n0) z.0 (set_in σ s m z.0 z.2 z.3)
          (listed g ok cw (tl s) (small s os)) z.1 in
          let t : ℕ = r.0 in
          let la = last_is t r.3 r.4 (end_at_lem g ok cw home t r.2) in (
            walk_on (suc (unvisited σ₁)) g w home t m (head_n g cw s) s σ₁,
            ap (on_next (λ t. cons_step (record { link = s; forward = way_of g cw s }) (walk_on (suc (unvisited σ₁)) g w home t m (head_n g cw s) s σ₁))) r.1,
            walked t r.3 r.4 la,
          )

    -- ---- the scan
    module _ (fuel : ℕ) (h : unvisited σ < suc fuel)
        (ih : (σ' : List ℕ) → ((k : ℕ) → Unvisited σ' k → Unvisited st₀ k) → ByTurns g cw B (UnvisitedEnd σ') → unvisited σ' < fuel
        → Scans g cw (scan_on fuel g cw σ')) where
      walk_then : (k s : ℕ) → Unvisited σ s → Scans g cw (after_walk k (g.top s) (λ after. scan_on fuel g cw after) (walk_of g cw σ s))
      walk_then k s os =
          let r = from_ok s os in
          let p : Step = record { link = s; forward = way_of g cw s } in
          let q = r.2 in
          let is : walk_of g cw σ s ≡ done (p ∷ q.steps) q.state = r.1 ∙ ap (cons_step p) q.is in
          let v = subst (Visits (mark_of (g.top s)) σ) is (from_visits g (way_of g cw s) (sense_of g cw s) (mark_of (g.top s)) σ s os) in
          let fewer : unvisited q.state < unvisited σ = visits_fewer (mark_of (g.top s)) σ (p ∷ q.steps) q.state (mark_of_lem (g.top s)) v in
          let rest = ih q.state q.sub (of_sense (sense_of g cw s) (UnvisitedEnd q.state) q.turns) (omega arith) in
          let one : Walk = record { hole = g.top s; steps = p ∷ q.steps } in
          record {
            all = one ∷ rest.all;
            state = rest.state;
            is = ap (after_walk k (g.top s) (λ after. scan_on fuel g cw after)) is ∙ ap (cons_walk one) rest.is;
            closed = ((tail_n g cw s, (refl, refl, q.chain)), rest.closed);
          }

      at_lowest : (k : ℕ) → Unvisited σ k → Scans g cw (scan_at g cw (λ after. scan_on fuel g cw after) σ k (first_link g σ k))
      at_lowest k o =
          let f = first_ok g σ k paired (ok.at_a k (small k o)) o in
          subst (λ x. Scans g cw (scan_at g cw (λ after. scan_on fuel g cw after) σ k x)) (sym f.1) (walk_then k f.0 f.2)

      scan_step : Scans g cw (scan_on (suc fuel) g cw σ)
      unfolding scan_on
      scan_step = pick_ind (ltb (lowest_unvisited σ) (length σ)) _ (walks [] σ) (Scans g cw)
          (λ t. at_lowest (lowest_unvisited σ) (lowest_unvisited_lem σ t))
          (λ n. record { all = []; state = σ; is = refl; closed = tt })

  pub scan_ok : (fuel : ℕ) (σ : List ℕ) → ((k : ℕ) → Unvisited σ k → Unvisited st₀ k) → ByTurns g cw B (UnvisitedEnd σ) → unvisited σ < fuel
      → Scans g cw (scan_on fuel g cw σ)
  scan_ok zero σ sub turns h = absurd (few h)
    where
      few : unvisited σ < 0 → ⊥
      few h = omega arith
  scan_ok (suc fuel) σ sub turns h = scan_step σ sub turns fuel h (scan_ok fuel)

  pub all_ok : ByTurns g cw B (UnvisitedEnd st₀) → Scans g cw (scan g cw st₀)
  all_ok turns = scan_ok (suc (unvisited st₀)) st₀ (λ k o. o) turns (omega arith)
