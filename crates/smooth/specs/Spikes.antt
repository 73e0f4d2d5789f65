-- By check 7 no contour of a graph that passes its checks has a spike: where a walk goes on at a node, it does so along another link, and no two links run
-- from a
-- node in the same direction.
use Rattle.std.specs.Prelude.{ℕ, ◌≤◌, ◌≡◌, refl, Bool, true, false, length, set}
use Rattle.std.proofs.Common.{arith, sym, ap, ◌∙◌, subst, inl, inr, ⊎_elim}
use mathlib.Core.List.Memᴰ
use mathlib.Core.List.{List, [], ◌∷◌, map, Memᴰ}
use Rattle.std.proofs.lemmas.List.{length-map}
use Rattle.laws.specs.Test.{Is}
use Rattle.turn.specs.declared.Point.{Point}
use Rattle.turn.specs.Points.{from_to}
use Rattle.turn.specs.Angle.{same_direction, nonzero}
use Rattle.graph.specs.Graph.{Lent, Graph, graph_of}
use Rattle.graph.specs.Checks.{Room, checked, away_from}
use Rattle.walk.specs.Walk.{Step, Walk, left, marked, mark_of}
use Rattle.walk.specs.States.{Unvisited, Mark, set_of}
use Rattle.walk.specs.Visits.{Fresh, mark_of_lem}
use Rattle.scan.specs.Visits.{AllFresh, scanned}
use Rattle.tour.specs.Statement.{node_left, node_reached, Line, reached}
use Rattle.tour.specs.Sums.{meet}
use Rattle.tour.specs.Sound.{Sound, below}
use Rattle.tour.specs.Passing.{sound}
use Rattle.tour.specs.ThreePoints.{away_left, away_reached, at_node, unvisited_before, finished}
use Rattle.straight.specs.Straight.{last_or}
use Rattle.straight.specs.Bends.{spike, no_spike}
use Rattle.straight.specs.Corners.{Smooth, Spikeless}
use Rattle.outlines.specs.Straightening.{AllSpikeless}
use Rattle.outlines.specs.Promises.{SpikelessScan}
use Rattle.turn.specs.Refusals.{no_fault}

-- ---- the last of some steps
abbrev last_step : Step → List Step → Step
last_step s [] = s
last_step s (t ∷ l) = last_step t l

last_left : (g : Graph) (s : Step) (l : List Step) → last_or (left g s) (map (left g) l) ≡ left g (last_step s l)
last_left g s [] = refl
last_left g s (t ∷ l) = last_left g t l

last_reached : (g : Graph) (v u : ℕ) (s : Step) (l : List Step) → Line g v (s ∷ l) u → node_reached g (last_step s l) ≡ u
last_reached g v u s [] n = n.1
last_reached g v u s (t ∷ l) n = last_reached g (node_reached g s) u t l n.1

last_among : (s : Step) (l : List Step) → Memᴰ (last_step s l) (s ∷ l)
last_among s [] = Memᴰ.head refl
last_among s (t ∷ l) = Memᴰ.tail (last_among t l)

-- ---- steps along different links, one after the other
abbrev Apart : Step → List Step → Type 0
Apart s [] = Unit {0}
Apart s (t ∷ l) = (t.link ≡ s.link → ⊥) × (Apart t l)

module _ (m : ℕ) (n : Mark m) where
  fresh_apart : (now : List ℕ) (s : Step) (l : List Step) → Fresh m now (s ∷ l) → Apart s l
  fresh_apart now s [] f = tt
  fresh_apart now s (t ∷ l) f = ((set_of now s.link m t.link f.0 n f.1.0).1, fresh_apart (set now s.link m) t l f.1)

  -- each of them was unvisited before the first
  fresh_all : (now : List ℕ) (l : List Step) → Fresh m now l → (p : Step) → Memᴰ p l → Unvisited now p.link
  fresh_all now [] f p i = absurd (Memᴰ.not-nil i)
  fresh_all now (s ∷ l) f p i =
      ⊎_elim (λ (e : p ≡ s). subst (λ (x : Step). Unvisited now x.link) (sym e) f.0)
      (λ k. (set_of now s.link m p.link f.0 n (fresh_all (set now s.link m) l f.1 p k)).0) (Memᴰ.cases_cons i)

  -- and none of the others goes along the first one's link
  fresh_other : (now : List ℕ) (s : Step) (l : List Step) → Fresh m now (s ∷ l) → (p : Step) → Memᴰ p l → p.link ≡ s.link → ⊥
  fresh_other now s l f p i = (set_of now s.link m p.link f.0 n (fresh_all (set now s.link m) l f.1 p i)).1

-- ---- one walk
module _ (g : Graph) (st : List ℕ) (ok : Sound g st) where
  abbrev Known : Step → Type 0
  Known s = Unvisited st s.link

  -- where a step goes on from another
  joint : (s t : Step) → Known s → Known t → (t.link ≡ s.link → ⊥) → node_left g t ≡ node_reached g s → (r : Point) → reached g t ≡ r
      → spike (left g s) (left g t) r ≡ false
  joint s t os ot d e r q =
      let h : ℕ = node_reached g s in
      let there : reached g s ≡ left g t =
      meet g ok.points true s.forward t.forward s.link t.link (below g st ok s.link os) (below g st ok t.link ot) (sym e) in
      let us : away_from g h s.link ≡ from_to (left g t) (left g s) = away_reached g st ok h s os refl ∙ ap (λ x. from_to x (left g s)) there in
      let ut : away_from g h t.link ≡ from_to (left g t) r = away_left g st ok h t ot e ∙ ap (from_to (left g t)) q in
      no_spike (left g s) (left g t) r (subst (λ x. Is (nonzero x)) us (ok.spread.long h s.link os))
      (subst (λ x. Is (nonzero x)) ut (ok.spread.long h t.link ot))
      (λ k. ok.spread.apart h s.link t.link os ot (at_node g st ok h s os (inr refl)) (at_node g st ok h t ot (inl e)) (λ z. d (sym z))
      (subst (λ x. Is (same_direction x (away_from g h t.link))) (sym us) (subst (λ x. Is (same_direction (from_to (left g t) (left g s)) x)) (sym ut) k)))

  -- the point that a step reaches is left by the next one
  goes_to : (s t : Step) → Known s → Known t → node_left g t ≡ node_reached g s → reached g s ≡ left g t
  goes_to s t os ot e =
      meet g ok.points true s.forward t.forward s.link t.link (below g st ok s.link os) (below g st ok t.link ot) (sym e)

  -- steps after `prev`, to the node that `home` leaves
  steps_smooth : (prev : Step) (l : List Step) (home : Step) (u : ℕ) → Known prev → ((p : Step) → Memᴰ p l → Known p) → Known home → Apart prev l
      → Line g (node_reached g prev) l u → node_left g home ≡ u → Smooth (left g prev) (left g home) (map (left g) l)
  steps_smooth prev [] home u op ol oh a n e = tt
  steps_smooth prev (s ∷ []) home u op ol oh a n e =
      (joint prev s op (ol s (Memᴰ.head refl)) a.0 n.0 (left g home) (goes_to s home (ol s (Memᴰ.head refl)) oh (e ∙ sym n.1)), tt)
  steps_smooth prev (s ∷ (t ∷ l)) home u op ol oh a n e =
      let os = ol s (Memᴰ.head refl) in
      let ot = ol t (Memᴰ.tail (Memᴰ.head refl)) in (
        joint prev s op os a.0 n.0 (left g t) (goes_to s t os ot n.1.0),
        steps_smooth s (t ∷ l) home u os (λ p i. ol p (Memᴰ.tail i)) oh a.1 n.1 e,
      )

  walk_smooth : (m : ℕ) (now : List ℕ) (l : List Step) → Mark m → Fresh m now l → ((k : ℕ) → Unvisited now k → Unvisited st k)
      → (v : ℕ) → Line g v l v → 3 ≤ length l → Spikeless (map (left g) l)
  walk_smooth m now [] n f sub v c h = tt
  walk_smooth m now (s ∷ []) n f sub v c h = absurd (none h)
    where
      none : 3 ≤ 1 → ⊥
      none h = omega arith
  walk_smooth m now (s ∷ (t ∷ l)) n f sub v c h =
      let z : Step = last_step t l in
      let known : (p : Step) → Memᴰ p (s ∷ (t ∷ l)) → Known p = λ p i. sub p.link (fresh_all m n now (s ∷ (t ∷ l)) f p i) in
      let d = fresh_other m n now s (t ∷ l) f z (last_among t l) in
      subst (λ (x : Point). Smooth x (left g s) (map (left g) (s ∷ (t ∷ l)))) (sym (last_left g t l))
      (steps_smooth z (s ∷ (t ∷ l)) s v (known z (Memᴰ.tail (last_among t l))) known (known s (Memᴰ.head refl))
      ((λ e. d (sym e)), fresh_apart m n now s (t ∷ l) f)
      (subst (λ x. Line g x (s ∷ (t ∷ l)) v) (sym (last_reached g v v s (t ∷ l) c)) c) c.0)

  -- ---- all walks
  all_smooth : (now : List ℕ) (ws : List Walk) → AllFresh now ws → ((k : ℕ) → Unvisited now k → Unvisited st k)
      → ((w : Walk) → Memᴰ w ws → ((v : ℕ) × Line g v w.steps v) × (3 ≤ length w.steps)) → AllSpikeless g ws
  all_smooth now [] f sub c = tt
  all_smooth now (w ∷ ws) f sub c =
      let m : ℕ = mark_of w.hole in
      let r = c w (Memᴰ.head refl) in (
        (
          walk_smooth m now w.steps (mark_of_lem w.hole) f.0 sub r.0.0 r.0.1 r.1,
          subst (λ k. 3 ≤ k) (sym (length-map w.steps (left g))) r.1,
        ),
        all_smooth (marked m w.steps now) ws f.1
            (λ j o. sub j (unvisited_before g st ok m now w.steps (mark_of_lem w.hole) f.0 j o)) (λ y i. c y (Memᴰ.tail i)),
      )

-- ---- of what is lent
pub spikeless : (g : Lent) (top st : List ℕ) (r : Room) (cw : Bool) → checked g top st r ≡ no_fault → SpikelessScan (graph_of g top) cw st
spikeless g top st r cw e ws after s =
    all_smooth (graph_of g top) st (sound g top st r e) st ws (scanned (graph_of g top) cw st ws after s).fresh (λ k o. o)
    (λ w m. let f = finished g top st r cw e ws after s w m in (f.closed, f.three))
