-- Check 10: the table of the kept walks of a graph that passes checks 1 to 7.
use Rattle.std.specs.Prelude.{ℕ, zero, suc, ◌+◌, ◌*◌, ◌-◌, ◌≤◌, ◌<◌, ◌≡◌, refl, Bool, true, false, length, get_or}
use Rattle.std.proofs.Common.{arith, add-one, sym, ap, ap₂, ◌∙◌, subst}
use Rattle.std.proofs.Math.Decide.{ℕ_discrete}
use mathlib.Core.List.{List, [], ◌∷◌, map, Memᴰ}
use Rattle.std.proofs.lemmas.List.{length-map}
use Rattle.laws.specs.Test.{pick}
use Rattle.laws.specs.Lists.{member}
use Rattle.turn.specs.declared.Point.{Point}
use Rattle.turn.specs.Points.{differ, Grid, OnGrid}
use Rattle.graph.specs.Graph.{Graph, Lent, graph_of}
use Rattle.graph.specs.Checks.{Room, checked}
use Rattle.graph.specs.Fine.{FineGraph, fine}
use Rattle.walk.specs.Walk.{Step, Walk, left, points}
use Rattle.scan.specs.Scan.{walks, scan}
use Rattle.keep.specs.Outcome.{kept, lens, firsts, all_points, coordinates, sum}
use Rattle.keep.specs.Ledger.{coordinates_length, all_points_length, firsts_length}
use Rattle.scan.specs.Visits.{scanned}
use Rattle.tour.specs.Statement.{Line}
use Rattle.tour.specs.ThreePoints.{finished}
use Rattle.table.specs.Table.{Table, first_of, range_end, len_of, contour_count, point_count, point, next}
use Rattle.table.specs.TableChecks.{start_in}
use Rattle.table.specs.TableLaws.{next_inside, next_last}
use Rattle.table.specs.Sound.{Sound}
use Rattle.fit.specs.Places.{table_of, walk_at, no_walk, firsts_follow, firsts_end, firsts_within, lens_at, kinds_at}
use Rattle.fit.specs.Places.{lens_length, point_at_lem}
use Rattle.fit.specs.Rounds.{left_grid, line_next, line_last}
use Rattle.straighten.specs.Reread.{origin}
use Rattle.outlines.specs.Grid.{walked_below, kept_of, kept_sum, points_on_grid}
use Rattle.walk.specs.States.{unvisited_some}
use Rattle.turn.specs.Refusals.{no_fault}

-- points on the grid, written as x and y in turn
pub grid_of : (l : List Point) → ((q : Point) → Memᴰ q l → OnGrid q) → Grid (coordinates l)
grid_of [] a i h = absurd (nothing i h)
  where
    nothing : (i : ℕ) → i < 0 → ⊥
    nothing i h = omega arith
grid_of (q ∷ l) a zero h = (a q (Memᴰ.head refl)).0
grid_of (q ∷ l) a (suc zero) h = (a q (Memᴰ.head refl)).1
grid_of (q ∷ l) a (suc (suc i)) h = grid_of l (λ x m. a x (Memᴰ.tail m)) i (omega arith)

module _ (g : Lent) (top st : List ℕ) (r : Room) (e : checked g top st r ≡ no_fault) (cw : Bool) (minimum : ℕ) (ws : List Walk) (after : List ℕ)
    (s : scan (graph_of g top) cw st ≡ walks ws after) where
  abbrev G : Graph
  G = graph_of g top

  abbrev pub ks : List Walk
  ks = kept G minimum ws

  f : FineGraph g top st r
  f = fine g top st r e

  long : length st ≡ G.n
  long = f.band.state_long

  -- ---- each contour
  pub at_walks : (c : ℕ) → c < length ks → Memᴰ (walk_at ks c) ws
  at_walks c h = kept_of G minimum ws (walk_at ks c) (member no_walk ks c h)

  pub three : (c : ℕ) → c < length ks → 3 ≤ length (walk_at ks c).steps
  three c h = (finished g top st r cw e ws after s (walk_at ks c) (at_walks c h)).three

  pub links_in : (w : Walk) → Memᴰ w ws → (p : Step) → Memᴰ p w.steps → p.link < G.n
  links_in w m p i = subst (λ k. p.link < k) long (walked_below st ws (scanned G cw st ws after s).fresh w m p i)

  -- point i and the next round a walk
  round : (w : Walk) → Memᴰ w ws → (i : ℕ) → i < length w.steps
      → (suc i < length w.steps → differ (get_or (points G w) i origin) (get_or (points G w) (suc i) origin) ≡ true)
      × (suc i ≡ length w.steps → differ (get_or (points G w) i origin) (get_or (points G w) 0 origin) ≡ true)
  round w m i h =
      let c = (finished g top st r cw e ws after s w m).closed in
      (line_next g top st r f w.steps c.0 c.0 (links_in w m) c.1 i, last w.steps (links_in w m) c.0 c.1)
    where
      last : (l : List Step) → ((p : Step) → Memᴰ p l → p.link < G.n) → (v : ℕ) → Line G v l v → suc i ≡ length l
          → differ (get_or (map (left G) l) i origin) (get_or (map (left G) l) 0 origin) ≡ true
      last [] a v n q = absurd (nothing q)
        where
          nothing : suc i ≡ 0 → ⊥
          nothing q = omega arith
      last (p ∷ l) a v n q = line_last g top st r f (p ∷ l) v v a n p (a p (Memᴰ.head refl)) n.0 i q

  grid_all : (q : Point) → Memᴰ q (all_points G ks) → OnGrid q
  grid_all = points_on_grid G G.n (left_grid g top st r f) ks (λ w m. links_in w (kept_of G minimum ws w m))

  abbrev t : Table
  t = table_of G ks

  many : contour_count t ≡ length ks
  many = firsts_length 0 (lens ks) ∙ lens_length ks

  points_many : length t.points ≡ sum (lens ks) * 2
  points_many = coordinates_length (all_points G ks) ∙ ap (λ n. n * 2) (all_points_length G ks)

  count : point_count t ≡ sum (lens ks)
  count = omega (arith, points_many)

  end_all : (l : List Walk) → start_in (firsts 0 (lens l)) (lens l) (length (firsts 0 (lens l))) ≡ sum (lens l)
  end_all [] = refl
  end_all (w ∷ l) =
      let n : length (firsts (0 + length w.steps) (lens l)) ≡ length (lens l) = firsts_length (0 + length w.steps) (lens l) in
      firsts_end 0 (lens (w ∷ l)) (length (firsts (0 + length w.steps) (lens l))) (ap suc n) ∙ nought (sum (lens (w ∷ l)))
    where
      nought : (x : ℕ) → 0 + x ≡ x
      nought x = omega arith

  first_zero : (l : List Walk) → 0 < length (firsts 0 (lens l)) → get_or (firsts 0 (lens l)) 0 0 ≡ 0
  first_zero [] h = refl
  first_zero (w ∷ l) h = refl

  in_table : (c : ℕ) → c < contour_count t → c < length ks
  in_table c h = rw many at h

  neighbour : (c p : ℕ) → c < contour_count t → first_of t c ≤ p → p < range_end t c → differ (point t p) (point t (next t c p)) ≡ true
  neighbour c p h low high =
      let k = in_table c h in
      let n : len_of t c ≡ length (walk_at ks c).steps = lens_at ks c in
      let i : p - first_of t c < length (walk_at ks c).steps = omega (arith, n) in
      let at : first_of t c + (p - first_of t c) ≡ p = omega arith in
      let here : point t p ≡ get_or (points G (walk_at ks c)) (p - first_of t c) origin = ap (point t) (sym at) ∙ point_at_lem G ks c (p - first_of t c) k i in
      let d = round (walk_at ks c) (at_walks c k) (p - first_of t c) i in
      elim (ℕ_discrete (p + 1) (range_end t c)) [
        | yes q ↦ ap₂ differ here (ap (point t) (next_last (first_of t c) (range_end t c) p q ∙ zero_more (first_of t c))
            ∙ point_at_lem G ks c 0 k (omega arith)) ∙ d.1 (omega (arith, n))
        | no m ↦ ap₂ differ here (ap (point t) (next_inside (first_of t c) (range_end t c) p (less m) ∙ one_more)
            ∙ point_at_lem G ks c (suc (p - first_of t c)) k (inside m n)) ∙ d.0 (inside m n)
      ]
    where
      zero_more : (x : ℕ) → x ≡ x + 0
      zero_more x = omega arith

      less : (p + 1 ≡ range_end t c → ⊥) → p + 1 < range_end t c
      less m = omega arith

      one_more : p + 1 ≡ first_of t c + suc (p - first_of t c)
      one_more = omega arith

      inside : (p + 1 ≡ range_end t c → ⊥) → len_of t c ≡ length (walk_at ks c).steps → suc (p - first_of t c) < length (walk_at ks c).steps
      inside m n = omega arith

  pub table_sound : Sound t
  table_sound = record {
    len_long = lens_length ks ∙ sym many;
    kind_long = length-map ks (λ w. pick w.hole 1 0) ∙ sym many;
    whole = omega (arith, points_many);
    few = omega (arith, count, kept_sum G minimum ws, (scanned G cw st ws after s).count, unvisited_some st, long, f.few);
    starts = first_zero ks;
    follows = λ c h. rw (add-one c) (firsts_follow 0 (lens ks) c (in_lens c h));
    ends = end_all ks ∙ sym count;
    within = λ c h. omega (arith, firsts_within 0 (lens ks) c (rw (lens_length ks) (in_table c h)), count);
    long = λ c h. rw (lens_at ks c) (three c (in_table c h));
    kinds = λ c h. rw (kinds_at ks c) (flag (walk_at ks c).hole);
    grid = grid_of (all_points G ks) grid_all;
    neighbours = neighbour;
  }
    where
      flag : (b : Bool) → pick b 1 0 ≤ 1
      flag true = omega arith
      flag false = omega arith

      in_lens : (c : ℕ) → c + 1 < contour_count t → suc c < length (lens ks)
      in_lens c h = omega (arith, many, lens_length ks)
