-- The areas of closed walks, added up link by link.
use Rattle.std.specs.Prelude.{ℕ, suc, ◌<◌, ◌≡◌, refl, Bool, true, false, List, [], ◌∷◌, map, length, set, eqb, ℤ, pos, ◌+ℤ◌}
use Rattle.std.proofs.Common.{sym, ap, ap₂, ◌∙◌, subst}
use Rattle.std.proofs.Math.IntN.{+ℤ_assoc, +ℤ_idr, +ℤ_idl}
use Rattle.laws.specs.Test.{pick}
use Rattle.laws.specs.Int.{+ℤ-left}
use Rattle.turn.specs.Area.{wedge, area_to, area}
use Rattle.graph.specs.Graph.{Graph}
use Rattle.graph.specs.Fine.{OnePoint}
use Rattle.next.specs.Next.{is_unvisited}
use Rattle.walk.specs.Walk.{Step, Walk, left, marked, mark_of}
use Rattle.keep.specs.Outcome.{areas, total, states_after}
use Rattle.walk.specs.States.{Unvisited, NoneUnvisited, Mark, set_of, over, over_set, over_none}
use Rattle.walk.specs.Visits.{Fresh, mark_of_lem}
use Rattle.scan.specs.Visits.{AllFresh}
use Rattle.tour.specs.Statement.{reached, adds, sum_of}
use Rattle.tour.specs.Ends.{way_of, head_n, tail_n}
use Rattle.tour.specs.OneWalk.{Chain}
use Rattle.tour.specs.AllWalks.{Closed}
use Rattle.tour.specs.Sums.{way_is, meet}

-- the sum of a number for each link along a walk, and along all walks, on top of r
abbrev along : (ℕ → ℤ) → List Step → ℤ → ℤ
along w [] r = r
along w (s ∷ l) r = w s.link +ℤ along w l r

abbrev all_along : (ℕ → ℤ) → List Walk → ℤ → ℤ
all_along w [] r = r
all_along w (x ∷ ws) r = along w x.steps (all_along w ws r)

-- ---- the walks of a scan have each unvisited link once: their sum is the sum over the unvisited links
module _ (w : ℕ → ℤ) where
  abbrev over_unvisited : List ℕ → ℤ
  over_unvisited st = over ◌+ℤ◌ (pos 0) w st

  fresh_over : (m : ℕ) (st : List ℕ) (l : List Step) → Mark m → Fresh m st l → over_unvisited st ≡ along w l (over_unvisited (marked m l st))
  fresh_over m st [] n f = refl
  fresh_over m st (s ∷ l) n f =
      over_set ◌+ℤ◌ (pos 0) +ℤ-left w st s.link m f.0 n ∙ ap (λ r. w s.link +ℤ r) (fresh_over m (set st s.link m) l n f.1)

  walks_over : (st : List ℕ) (ws : List Walk) → AllFresh st ws → over_unvisited st ≡ all_along w ws (over_unvisited (states_after ws st))
  walks_over st [] f = refl
  walks_over st (x ∷ ws) f =
      fresh_over (mark_of x.hole) st x.steps (mark_of_lem x.hole) f.0
      ∙ ap (along w x.steps) (walks_over (marked (mark_of x.hole) x.steps st) ws f.1)

  all_over : (st : List ℕ) (ws : List Walk) → AllFresh st ws → NoneUnvisited (states_after ws st) → over_unvisited st ≡ all_along w ws (pos 0)
  all_over st ws f n = walks_over st ws f ∙ ap (all_along w ws) (over_none ◌+ℤ◌ (pos 0) w (states_after ws st) n)

sum_over : (w : ℕ → ℤ) (st : List ℕ) → sum_of (length st) (λ k. pick (is_unvisited st k) (w k) (pos 0)) ≡ over ◌+ℤ◌ (pos 0) w st
sum_over w [] = refl
sum_over w (x ∷ st) = by (eqb x 0) (w 0) _ _ (sum_over (λ k. w (suc k)) st)
  where
    by : (b : Bool) (p q r : ℤ) → q ≡ r → pick b p (pos 0) +ℤ q ≡ pick b (p +ℤ r) r
    by true p q r e = ap (λ t. p +ℤ t) e
    by false p q r e = +ℤ_idl q ∙ e

-- ---- the area of a closed walk

abbrev Within : ℕ → List Step → Type 0
Within n [] = Unit {0}
Within n (s ∷ l) = (s.link < n) × Within n l

module _ (g : Graph) (pt : OnePoint g) (cw : Bool) where
  -- where one link ends at the node where the next begins
  meets : (p q : Step) → p.link < g.n → q.link < g.n → p.forward ≡ way_of g cw p.link → q.forward ≡ way_of g cw q.link
      → head_n g cw p.link ≡ tail_n g cw q.link → reached g p ≡ left g q
  meets p q hp hq fp fq e =
      ap (λ b. pick b (g.b p.link) (g.a p.link)) fp
      ∙ meet g pt cw (way_of g cw p.link) (way_of g cw q.link) p.link q.link hp hq e
      ∙ ap (λ b. pick b (g.a q.link) (g.b q.link)) (sym fq)

  weighs : (p : Step) → p.forward ≡ way_of g cw p.link → wedge (left g p) (reached g p) ≡ adds g cw p.link
  weighs p f =
      ap (λ b. wedge (left g (record { link = p.link; forward = b })) (reached g (record { link = p.link; forward = b })))
      (f ∙ way_is (g.top p.link) cw)

  -- a line of links from p on, home to the beginning of the link h
  line : (h p : Step) (l : List Step) → h.link < g.n → p.link < g.n → Within g.n l → h.forward ≡ way_of g cw h.link
      → p.forward ≡ way_of g cw p.link
      → Chain g cw (head_n g cw p.link) l (tail_n g cw h.link) → area_to (left g h) (map (left g) (p ∷ l)) ≡ along (adds g cw) (p ∷ l) (pos 0)
  line h p [] hh hp wl fh fp c = ap (wedge (left g p)) (sym (meets p h hp hh fp fh c)) ∙ weighs p fp ∙ sym (+ℤ_idr (adds g cw p.link))
  line h p (q ∷ l) hh hp wl fh fp c =
      ap₂ ◌+ℤ◌ (ap (wedge (left g p)) (sym (meets p q hp wl.0 fp c.1 (sym c.0))) ∙ weighs p fp) (line h q l hh wl.0 wl.1 fh c.1 c.2)

  closed_area : (u : ℕ) (l : List Step) → Within g.n l → Chain g cw u l u → area (map (left g) l) ≡ along (adds g cw) l (pos 0)
  closed_area u [] wl c = refl
  closed_area u (p ∷ l) wl c = line p p l wl.0 wl.0 wl.1 c.1 c.1 (subst (Chain g cw (head_n g cw p.link) l) (sym c.0) c.2)

  along_add : (l : List Step) (r : ℤ) → along (adds g cw) l r ≡ along (adds g cw) l (pos 0) +ℤ r
  along_add [] r = sym (+ℤ_idl r)
  along_add (p ∷ l) r = ap (λ x. adds g cw p.link +ℤ x) (along_add l r) ∙ sym (+ℤ_assoc (adds g cw p.link) (along (adds g cw) l (pos 0)) r)

  abbrev Small : List ℕ → Type 0
  Small st = (k : ℕ) → Unvisited st k → k < g.n

  fresh_within : (m : ℕ) (st : List ℕ) (l : List Step) → Mark m → Fresh m st l → Small st → Within g.n l × Small (marked m l st)
  fresh_within m st [] n f h = (tt, h)
  fresh_within m st (s ∷ l) n f h =
      let q = fresh_within m (set st s.link m) l n f.1 (λ k t. h k (set_of st s.link m k f.0 n t).0) in
      ((h s.link f.0, q.0), q.1)

  areas_along : (st : List ℕ) (ws : List Walk) → AllFresh st ws → Small st → Closed g cw ws → total (areas g ws) ≡ all_along (adds g cw) ws (pos 0)
  areas_along st [] f h c = refl
  areas_along st (w ∷ ws) f h c =
      let m : ℕ = mark_of w.hole in
      let q = fresh_within m st w.steps (mark_of_lem w.hole) f.0 h in
      ap₂ ◌+ℤ◌ (closed_area c.0.0 w.steps q.0 c.0.1) (areas_along (marked m w.steps st) ws f.1 q.1 c.1)
      ∙ sym (along_add w.steps (all_along (adds g cw) ws (pos 0)))

  pub areas_total : (st : List ℕ) (ws : List Walk) → AllFresh st ws → NoneUnvisited (states_after ws st) → length st ≡ g.n → Small st → Closed g cw ws
      → total (areas g ws) ≡ sum_of g.n (λ k. pick (is_unvisited st k) (adds g cw k) (pos 0))
  areas_total st ws f n e h c =
      areas_along st ws f h c ∙ sym (all_over (adds g cw) st ws f n) ∙ sym (sum_over (adds g cw) st)
      ∙ ap (λ m. sum_of m (λ k. pick (is_unvisited st k) (adds g cw k) (pos 0))) e
