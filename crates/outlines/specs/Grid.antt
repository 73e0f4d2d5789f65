-- The links of all walks are links of the graph, and the points of all contours are on the grid where the links' are.
use Rattle.std.specs.Prelude.{ℕ, ◌+◌, ◌*◌, ◌≤◌, ◌<◌, ◌≡◌, refl, length, set}
use Rattle.std.proofs.Common.{arith, sym, ◌∙◌, subst, ⊎_elim, length-set}
use mathlib.Core.List.Memᴰ
use mathlib.Core.List.{List, [], ◌∷◌, ◌++◌, map, Memᴰ}
use Rattle.laws.specs.Test.{pick_ind}
use Rattle.turn.specs.declared.Point.{Point}
use Rattle.turn.specs.Points.{OnGrid}
use Rattle.graph.specs.Graph.{Graph}
use Rattle.next.specs.States.{unvisited_below}
use Rattle.walk.specs.Walk.{Step, Walk, left, marked, mark_of}
use Rattle.walk.specs.Visits.{Fresh}
use Rattle.keep.specs.Outcome.{area_of, keeps, kept, lens, sum, all_points}
use Rattle.keep.specs.Ledger.{kept_three}
use Rattle.scan.specs.Visits.{AllFresh}

-- ---- the links of the walks are links of the graph
pub marked_length : (m : ℕ) (l : List Step) (st : List ℕ) → length (marked m l st) ≡ length st
marked_length m [] st = refl
marked_length m (s ∷ l) st = marked_length m l (set st s.link m) ∙ length-set st s.link m

fresh_below : (m : ℕ) (st : List ℕ) (l : List Step) → Fresh m st l → (p : Step) → Memᴰ p l → p.link < length st
fresh_below m st [] f p i = absurd (Memᴰ.not-nil i)
fresh_below m st (s ∷ l) f p i =
    ⊎_elim (λ (e : p ≡ s). rw e (unvisited_below st s.link f.0))
    (λ k. rw (length-set st s.link m) at (fresh_below m (set st s.link m) l f.1 p k)) (Memᴰ.cases_cons i)

pub walked_below : (st : List ℕ) (ws : List Walk) → AllFresh st ws → (w : Walk) → Memᴰ w ws → (p : Step) → Memᴰ p w.steps → p.link < length st
walked_below st [] f w m p i = absurd (Memᴰ.not-nil m)
walked_below st (v ∷ ws) f w m p i =
    ⊎_elim (λ (e : w ≡ v). fresh_below (mark_of v.hole) st v.steps f.0 p (subst (λ (x : Walk). Memᴰ p x.steps) e i))
    (λ k. rw (marked_length (mark_of v.hole) v.steps st) at (walked_below (marked (mark_of v.hole) v.steps st) ws f.1 w k p i))
    (Memᴰ.cases_cons m)

-- ---- a kept walk is one of the walks
pub kept_of : (g : Graph) (minimum : ℕ) (ws : List Walk) (w : Walk) → Memᴰ w (kept g minimum ws) → Memᴰ w ws
kept_of g minimum [] w = λ m. m
kept_of g minimum (v ∷ ws) w = pick_ind (keeps g minimum v) (v ∷ kept g minimum ws) (kept g minimum ws) (λ l. Memᴰ w l → Memᴰ w (v ∷ ws))
    (λ _ m. ⊎_elim (λ e. Memᴰ.head e) (λ k. Memᴰ.tail (kept_of g minimum ws w k)) (Memᴰ.cases_cons m))
    (λ _ m. Memᴰ.tail (kept_of g minimum ws w m))

-- all kept walks have no more links than all walks, and three each
pub kept_sum : (g : Graph) (minimum : ℕ) (ws : List Walk) → sum (lens (kept g minimum ws)) ≤ sum (lens ws)
kept_sum g minimum [] = omega arith
kept_sum g minimum (v ∷ ws) = pick_ind (keeps g minimum v) (v ∷ kept g minimum ws) (kept g minimum ws) (λ l. sum (lens l) ≤ length v.steps + sum (lens ws))
    (λ _. omega (arith, kept_sum g minimum ws)) (λ _. omega (arith, kept_sum g minimum ws))

abbrev pub Threes : List Walk → Type 0
Threes [] = Unit {0}
Threes (w ∷ ws) = (3 ≤ length w.steps) × (Threes ws)

pub kept_threes : (g : Graph) (minimum : ℕ) (ws : List Walk) → Threes (kept g minimum ws)
kept_threes g minimum [] = tt
kept_threes g minimum (v ∷ ws) = pick_ind (keeps g minimum v) (v ∷ kept g minimum ws) (kept g minimum ws) Threes
    (λ e. (kept_three (length v.steps) (area_of g v) minimum e, kept_threes g minimum ws)) (λ _. kept_threes g minimum ws)

pub threes_sum : (ws : List Walk) → Threes ws → length ws * 3 ≤ sum (lens ws)
threes_sum [] h = omega arith
threes_sum (w ∷ ws) h = omega (arith, h.0, threes_sum ws h.1)

-- ---- the points, where those of n links are on the grid
module _ (g : Graph) (n : ℕ) (on : (p : Step) → p.link < n → OnGrid (left g p)) where
  pub points_on_grid : (l : List Walk) → ((w : Walk) → Memᴰ w l → (p : Step) → Memᴰ p w.steps → p.link < n)
      → (q : Point) → Memᴰ q (all_points g l) → OnGrid q
  points_on_grid [] a q m = absurd (Memᴰ.not-nil m)
  points_on_grid (w ∷ l) a q m = in_walk w.steps (a w (Memᴰ.head refl)) (points_on_grid l (λ x i. a x (Memᴰ.tail i)) q) m
    where
      in_walk : (u : List Step) → ((p : Step) → Memᴰ p u → p.link < n) → (Memᴰ q (all_points g l) → OnGrid q)
          → Memᴰ q (map (left g) u ++ all_points g l) → OnGrid q
      in_walk [] b k m = k m
      in_walk (p ∷ u) b k m =
          ⊎_elim (λ (x : q ≡ left g p). subst OnGrid (sym x) (on p (b p (Memᴰ.head refl))))
          (λ i. in_walk u (λ x j. b x (Memᴰ.tail j)) k i) (Memᴰ.cases_cons m)
