-- The point at which a walk leads: the a of its first link is least among the walk's points and not before an earlier walk's; for a hole it is the anchor.
use Rattle.std.specs.Prelude.{ℕ, zero, suc, ◌≤◌, ◌<◌, ◌≡◌, refl, Bool, true, false, not, length, get_or, set}
use Rattle.std.proofs.Common.{arith, sym, ap, ◌∙◌, subst, ⊎_elim}
use Rattle.std.specs.Bool.{beq}
use mathlib.Core.List.Memᴰ
use mathlib.Core.List.{List, [], ◌∷◌, map, Memᴰ}
use Rattle.laws.specs.Test.{pick, true≢false, not_true}
use Rattle.laws.specs.Lists.{member}
use Rattle.turn.specs.Points.{before}
use Rattle.turn.specs.PointOrder.{before_transitive}
use Rattle.graph.specs.Graph.{Graph, Lent, graph_of}
use Rattle.graph.specs.Checks.{Room}
use Rattle.graph.specs.Fine.{FineGraph}
use Rattle.next.specs.Next.{is_unvisited}
use Rattle.walk.specs.Walk.{Step, Walk, left, points, marked, mark_of}
use Rattle.scan.specs.Scan.{sense_of}
use Rattle.keep.specs.Outcome.{keeps, kept}
use Rattle.walk.specs.States.{Mark, set_of}
use Rattle.walk.specs.Visits.{Fresh, mark_of_lem}
use Rattle.scan.specs.Visits.{AllFresh}
use Rattle.tour.specs.Statement.{Line}
use Rattle.fit.specs.Places.{walk_at, no_walk}
use Rattle.straighten.specs.Reread.{origin}
use Rattle.fit.specs.Rounds.{Links, meets}
use Rattle.outlines.specs.Grid.{kept_of}
use Rattle.fit.specs.Anchors.{Begins, AllBegin}

-- the first link of a walk
abbrev pub lead : List Step → ℕ
lead [] = 0
lead (s ∷ l) = s.link

-- ---- what a walk marks was unvisited before it
fresh_unvisited : (m : ℕ) (st : List ℕ) (l : List Step) → Mark m → Fresh m st l → (p : Step) → Memᴰ p l → is_unvisited st p.link ≡ true
fresh_unvisited m st [] k f p i = absurd (Memᴰ.not-nil i)
fresh_unvisited m st (s ∷ l) k f p i =
    ⊎_elim (λ (e : p ≡ s). rw e f.0) (λ j. (set_of st s.link m p.link f.0 k (fresh_unvisited m (set st s.link m) l k f.1 p j)).0)
    (Memᴰ.cases_cons i)

marked_unvisited : (m : ℕ) (st : List ℕ) (l : List Step) → Mark m → Fresh m st l → (j : ℕ) → is_unvisited (marked m l st) j ≡ true → is_unvisited st j ≡ true
marked_unvisited m st [] k f j o = o
marked_unvisited m st (s ∷ l) k f j o = (set_of st s.link m j f.0 k (marked_unvisited m (set st s.link m) l k f.1 j o)).0

pub walks_unvisited : (st : List ℕ) (ws : List Walk) → AllFresh st ws → (w : Walk) → Memᴰ w ws → (p : Step) → Memᴰ p w.steps
    → is_unvisited st p.link ≡ true
walks_unvisited st [] f w m p i = absurd (Memᴰ.not-nil m)
walks_unvisited st (v ∷ ws) f w m p i =
    ⊎_elim (λ (e : w ≡ v). fresh_unvisited (mark_of v.hole) st v.steps (mark_of_lem v.hole) f.0 p (subst (λ (x : Walk). Memᴰ p x.steps) e i))
    (λ k. marked_unvisited (mark_of v.hole) st v.steps (mark_of_lem v.hole) f.0 p.link
    (walks_unvisited (marked (mark_of v.hole) v.steps st) ws f.1 w k p i))
    (Memᴰ.cases_cons m)

module _ (g : Lent) (top st₀ : List ℕ) (r : Room) (f : FineGraph g top st₀ r) (cw : Bool) where
  abbrev G : Graph
  G = graph_of g top

  -- ---- one walk
  pub record Leads (w : Walk) : Type 0 where
    pub first : Step
    pub rest : List Step
    pub steps_are : w.steps ≡ first ∷ rest
    pub way : first.forward ≡ not (sense_of G cw first.link)
    pub hole_is : w.hole ≡ G.top first.link
    pub least : (p : Step) → Memᴰ p w.steps → before (left G p) (G.a (lead w.steps)) ≡ false

  no_point : (j s : ℕ) → j < G.n → before (G.a j) (G.a s) ≡ false → (b : Bool) → before (pick b (G.a j) (G.b j)) (G.a s) ≡ false
  no_point j s h e true = e
  no_point j s h e false = not_true (before (G.b j) (G.a s)) (λ t. true≢false (before_transitive (G.a j) (G.b j) (G.a s) (f.links.strict j h) t) e)

  leads_of : (st : List ℕ) (w : Walk) → Begins G cw st w
      → ((p : Step) → Memᴰ p w.steps → (is_unvisited st p.link ≡ true) × (p.link < G.n)) → Leads w
  leads_of st w b a = record {
    first = record { link = b.link; forward = not (sense_of G cw b.link) };
    rest = b.rest;
    steps_are = b.steps_are;
    way = refl;
    hole_is = b.hole_is;
    least = λ p i. subst (λ l. before (left G p) (G.a (lead l)) ≡ false) (sym b.steps_are)
        (no_point p.link b.link (a p i).1 (b.least p.link (a p i).0) p.forward);
  }

  -- ---- all walks: each leads so, and none leads before an earlier one
  abbrev pub Ordered : List Walk → Type 0
  Ordered [] = Unit {0}
  Ordered (w ∷ ws) = ((v : Walk) → Memᴰ v ws → before (G.a (lead v.steps)) (G.a (lead w.steps)) ≡ false) × Ordered ws

  pub all_lead : (st : List ℕ) (ws : List Walk) → AllFresh st ws → AllBegin G cw st ws
      → ((w : Walk) → Memᴰ w ws → (p : Step) → Memᴰ p w.steps → p.link < G.n) → (w : Walk) → Memᴰ w ws → Leads w
  all_lead st [] fr b a w m = absurd (Memᴰ.not-nil m)
  all_lead st (v ∷ ws) fr b a w m = ⊎_elim
      (λ (e : w ≡ v). subst Leads (sym e)
      (leads_of st v b.0 (λ p i. (walks_unvisited st (v ∷ ws) fr v (Memᴰ.head refl) p i, a v (Memᴰ.head refl) p i))))
      (λ k. all_lead (marked (mark_of v.hole) v.steps st) ws fr.1 b.1 (λ x j. a x (Memᴰ.tail j)) w k)
      (Memᴰ.cases_cons m)

  first_mem : (l : List Step) (s : Step) (u : List Step) → l ≡ s ∷ u → (p : Step) × Memᴰ p l × (p.link ≡ lead l)
  first_mem l s u e = (s, subst (Memᴰ s) (sym e) (Memᴰ.head refl), ap lead (sym e))

  pub all_ordered : (st : List ℕ) (ws : List Walk) → AllFresh st ws → AllBegin G cw st ws → Ordered ws
  all_ordered st [] fr b = tt
  all_ordered st (w ∷ ws) fr b = (after, all_ordered (marked (mark_of w.hole) w.steps st) ws fr.1 b.1)
    where
      begun : (s : List ℕ) (us : List Walk) → AllBegin G cw s us → (v : Walk) → Memᴰ v us → (p : Step) × Memᴰ p v.steps
          × (p.link ≡ lead v.steps)
      begun s [] c v m = absurd (Memᴰ.not-nil m)
      begun s (u ∷ us) c v m = ⊎_elim
          (λ (e : v ≡ u). subst (λ (x : Walk). (p : Step) × Memᴰ p x.steps × (p.link ≡ lead x.steps)) (sym e)
          (first_mem u.steps _ c.0.rest c.0.steps_are))
          (λ k. begun (marked (mark_of u.hole) u.steps s) us c.1 v k)
          (Memᴰ.cases_cons m)

      after : (v : Walk) → Memᴰ v ws → before (G.a (lead v.steps)) (G.a (lead w.steps)) ≡ false
      after v m =
          let q = begun (marked (mark_of w.hole) w.steps st) ws b.1 v m in
          let o = walks_unvisited st (w ∷ ws) fr v (Memᴰ.tail m) q.0 q.1 in
          let e : lead w.steps ≡ b.0.link = ap lead b.0.steps_are in
          subst (λ k. before (G.a (lead v.steps)) (G.a k) ≡ false) (sym e)
          (subst (λ k. before (G.a k) (G.a b.0.link) ≡ false) q.2 (b.0.least q.0.link o))

  -- ---- the kept ones
  pub kept_ordered : (minimum : ℕ) (ws : List Walk) → Ordered ws → Ordered (kept G minimum ws)
  kept_ordered minimum [] o = tt
  kept_ordered minimum (w ∷ ws) o = by_keep (keeps G minimum w) (kept_ordered minimum ws o.1)
    where
      by_keep : (b : Bool) → Ordered (kept G minimum ws) → Ordered (pick b (w ∷ kept G minimum ws) (kept G minimum ws))
      by_keep true h = (λ v m. o.0 v (kept_of G minimum ws v m), h)
      by_keep false h = h

  pub ordered_at : (ks : List Walk) → Ordered ks → (c d : ℕ) → c < d → d < length ks → before (G.a (lead (walk_at ks d).steps))
      (G.a (lead (walk_at ks c).steps)) ≡ false
  ordered_at [] o c d h k = absurd (nothing k)
    where
      nothing : d < 0 → ⊥
      nothing k = omega arith
  ordered_at (w ∷ ks) o c zero h k = absurd (nothing h)
    where
      nothing : c < 0 → ⊥
      nothing h = omega arith
  ordered_at (w ∷ ks) o zero (suc d) h k = o.0 (walk_at ks d) (member no_walk ks d (omega arith))
  ordered_at (w ∷ ks) o (suc c) (suc d) h k = ordered_at ks o.1 c d (omega arith) (omega arith)

  -- ---- the anchor of a hole: point 1 for clockwise output, else point 0
  pub anchor_lead : (w : Walk) (v : ℕ) → Leads w → w.hole ≡ true → Links g top st₀ r f w.steps → Line G v w.steps v → 2 ≤ length w.steps
      → get_or (points G w) (pick cw 1 0) origin ≡ G.a (lead w.steps)
  anchor_lead w v l h a n two = by w.steps l.first l.rest l.steps_are l.way (sym l.hole_is ∙ h) a n two
    where
      by : (u : List Step) (s : Step) (t : List Step) → u ≡ s ∷ t → s.forward ≡ not (sense_of G cw s.link) → G.top s.link ≡ true
          → Links g top st₀ r f u → Line G v u v → 2 ≤ length u
          → get_or (map (left G) u) (pick cw 1 0) origin ≡ G.a (lead u)
      by u s t e =
          subst (λ x. s.forward ≡ not (sense_of G cw s.link) → G.top s.link ≡ true → Links g top st₀ r f x → Line G v x v → 2 ≤ length x
          → get_or (map (left G) x) (pick cw 1 0) origin ≡ G.a (lead x)) (sym e) (here t)
        where
          turnedness : (b : Bool) → G.top s.link ≡ true → not (beq (G.top s.link) b) ≡ not b
          turnedness true e = rw e
          turnedness false e = rw e

          here : (t : List Step) → s.forward ≡ not (sense_of G cw s.link) → G.top s.link ≡ true → Links g top st₀ r f (s ∷ t)
              → Line G v (s ∷ t) v → 2 ≤ length (s ∷ t) → get_or (map (left G) (s ∷ t)) (pick cw 1 0) origin ≡ G.a s.link
          here [] w h a n k = absurd (nothing k)
            where
              nothing : 2 ≤ 1 → ⊥
              nothing k = omega arith
          here (q ∷ t) w h a n k = dir cw (w ∙ turnedness cw h)
            where
              dir : (b : Bool) → s.forward ≡ not b → get_or (map (left G) (s ∷ (q ∷ t))) (pick b 1 0) origin ≡ G.a s.link
              dir true e =
                  meets g top st₀ r f s q (a s (Memᴰ.head refl)) (a q (Memᴰ.tail (Memᴰ.head refl))) n.1.0
                  ∙ ap (λ b. pick b (G.b s.link) (G.a s.link)) e
              dir false e = ap (λ b. pick b (G.a s.link) (G.b s.link)) e
