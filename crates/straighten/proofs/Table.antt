-- The pass over all contours: what is written so far and the corners of the contours still to be read make those of the whole table.
use Prim.Native.Nat.{ℕ, zero, suc, ◌+◌, ◌-◌, ◌≤◌, ◌<◌}
use native.Mathlib.Omega.{arith}
use native.Mathlib.Numerals.{add-one}
use mathlib.Core.Path.{◌≡◌, refl, sym, ap, ap₂, ◌∙◌, subst}
use mathlib.Core.List.{List, [], ◌∷◌, ◌++◌}
use lib.ListN.{length, get_or, set, length-set}
use lib.Seq.{sets, get_or-set_other}
use lib.IntN.{ℤ}
use Rattle.turn.specs.declared.Point.{Point}
use Rattle.turn.specs.Points.{OnGrid}
use Rattle.turn.specs.Limits.{max_links}
use Rattle.leave.specs.Points.{put}
use Rattle.walk.specs.Code.{paste}
use Rattle.keep.specs.Outcome.{firsts, sum}
use Rattle.keep.specs.Ledger.{paste_length}
use Rattle.table.specs.Table.{point_in}
use Rattle.straight.specs.Corners.{all_corners, corners_few}
use Rattle.straighten.specs.Runs.{run, RunOnGrid, sizes_from, contours_from, contours_of, corners_of, sizes, joined, Positive, Stands}
use Rattle.straighten.proofs.Passing.{put_other}

-- ---- points that are pasted
paste_append : (l : List ℤ) (at : ℕ) (ps qs : List Point) → paste l at (ps ++ qs) ≡ paste (paste l at ps) (at + length ps) qs
paste_append l at [] qs = ap (λ i. paste l i qs) (none at)
  where
    none : (n : ℕ) → n ≡ n + 0
    none n = omega arith
paste_append l at (p ∷ ps) qs = paste_append (put l at p) (at + 1) ps qs ∙ ap (λ i. paste (paste (put l at p) (at + 1) ps) i qs) (one at (length ps))
  where
    one : (a n : ℕ) → a + 1 + n ≡ a + suc n
    one a n = omega arith

paste_other : (l : List ℤ) (at : ℕ) (ps : List Point) (k : ℕ) → at + length ps ≤ k → point_in (paste l at ps) k ≡ point_in l k
paste_other l at [] k h = refl
paste_other l at (p ∷ ps) k h = paste_other (put l at p) (at + 1) ps k (omega arith) ∙ put_other l at p k (omega arith)

-- ---- runs of points
run_same : (l l' : List ℤ) (at n : ℕ) → ((k : ℕ) → at ≤ k → point_in l k ≡ point_in l' k) → run l at n ≡ run l' at n
run_same l l' at zero h = refl
run_same l l' at (suc n) h = ap₂ ◌∷◌ (h at (omega arith)) (run_same l l' (at + 1) n (λ k m. h k (omega arith)))

run_length : (l : List ℤ) (at n : ℕ) → length (run l at n) ≡ n
run_length l at zero = refl
run_length l at (suc n) = ap suc (run_length l (at + 1) n)

-- the corners of some contours are no more than their points
pub corners_total : (l : List ℤ) (at : ℕ) (ns : List ℕ) → sum (sizes (corners_of (contours_from l at ns))) ≤ sum ns
corners_total l at [] = omega arith
corners_total l at (n ∷ ns) = omega (arith, corners_total l (at + n) ns, corners_few (run l at n), run_length l at n)

-- ---- the invariant
module _ (l : List ℤ) (firsts₀ lens : List ℕ) (m : ℕ) where
  abbrev left : ℕ → List ℕ
  left c = sizes_from lens c (m - c)

  -- the corners of the contours from number c on, the first of them at point number `at`
  abbrev rest : ℕ → ℕ → List (List Point)
  rest c at = corners_of (contours_from l at (left c))

  abbrev whole : List (List Point)
  whole = corners_of (contours_of l lens m)

  pub record Passed (points : List ℤ) (first len : List ℕ) (c at to : ℕ) : Type 0 where
    pub end : at + sum (left c) ≡ sum (sizes_from lens 0 m)
    pub some : Positive (left c)
    pub behind : to ≤ at
    pub points_long : length points ≡ length l
    pub first_long : length first ≡ length firsts₀
    pub len_long : length len ≡ length lens
    pub points_left : (k : ℕ) → at ≤ k → point_in points k ≡ point_in l k
    pub len_left : (k : ℕ) → c ≤ k → get_or len k 0 ≡ get_or lens k 0
    pub points_are : paste points to (joined (rest c at)) ≡ paste l 0 (joined whole)
    pub first_are : sets first c (firsts to (sizes (rest c at))) ≡ sets firsts₀ 0 (firsts 0 (sizes whole))
    pub len_are : sets len c (sizes (rest c at)) ≡ sets lens 0 (sizes whole)
    pub count : to + sum (sizes (rest c at)) ≡ sum (sizes whole)

  module _ (h : Stands l firsts₀ lens m) where
    module _ (points : List ℤ) (first len : List ℕ) (c at to : ℕ) (p : Passed points first len c at to) (k : c < m) where
      abbrev size : ℕ
      size = get_or lens c 0

      abbrev kept : List Point
      kept = all_corners (run l at size)

      one_left : left c ≡ size ∷ left (c + 1)
      one_left = let e : m - c ≡ suc (m - (c + 1)) = omega (arith, k) in ap (sizes_from lens c) e

      one_rest : rest c at ≡ kept ∷ rest (c + 1) (at + size)
      one_rest = ap (λ (ns : List ℕ). corners_of (contours_from l at ns)) one_left

      positive : (0 < size) × (Positive (left (c + 1)))
      positive = subst Positive one_left p.some

      sum_left : at + (size + sum (left (c + 1))) ≡ sum (sizes_from lens 0 m)
      sum_left = ap (λ (ns : List ℕ). at + sum ns) (sym one_left) ∙ p.end

      read_size : get_or len c 0 ≡ size
      read_size = p.len_left c (omega arith)

      on_grid : RunOnGrid points at size
      on_grid i low high = subst OnGrid (sym (p.points_left i low)) (h.grid i (omega arith) (omega (arith, sum_left, high)))

      kept_few : length kept ≤ size
      kept_few = omega (arith, corners_few (run l at size), run_length l at size)

      same_run : run points at size ≡ run l at size
      same_run = run_same points l at size p.points_left

      -- nothing in it passes the limit
      pub few_points_lem : (size' : ℕ) → size' ≡ get_or len c 0 → at + size' ≤ max_links
      few_points_lem size' e = omega (arith, e, read_size, sum_left, h.few)

      pub few_corners : (size' end : ℕ) → size' ≡ get_or len c 0 → end ≡ to + length (all_corners (run points at size')) → end - to ≤ max_links
      few_corners size' end e q =
          omega (arith, few_points_lem size' e, q, corners_few (run points at size'), run_length points at size')

      -- and what it leaves
      one_more : Passed (paste points to kept) (set first c to) (set len c (length kept)) (c + 1) (at + size) (to + length kept)
      one_more = record {
        end = omega (arith, sum_left);
        some = positive.1;
        behind = omega (arith, p.behind, kept_few);
        points_long = paste_length points to kept ∙ p.points_long;
        first_long = length-set first c to ∙ p.first_long;
        len_long = length-set len c (length kept) ∙ p.len_long;
        points_left = λ i n. paste_other points to kept i (omega (arith, p.behind, kept_few, n)) ∙ p.points_left i (omega (arith, n));
        len_left = λ i n. get_or-set_other len c i (length kept) 0 (λ e. omega arith) ∙ p.len_left i (omega (arith, n));
        points_are = sym (paste_append points to kept (joined (rest (c + 1) (at + size))))
            ∙ ap (λ (cs : List (List Point)). paste points to (joined cs)) (sym one_rest) ∙ p.points_are;
        first_are = ap (λ i. sets (set first c to) i (firsts (to + length kept) (sizes (rest (c + 1) (at + size))))) (add-one c)
            ∙ ap (λ (cs : List (List Point)). sets first c (firsts to (sizes cs))) (sym one_rest) ∙ p.first_are;
        len_are = ap (λ i. sets (set len c (length kept)) i (sizes (rest (c + 1) (at + size)))) (add-one c)
            ∙ ap (λ (cs : List (List Point)). sets len c (sizes cs)) (sym one_rest) ∙ p.len_are;
        count = assoc to (length kept) (sum (sizes (rest (c + 1) (at + size))))
            ∙ ap (λ (cs : List (List Point)). to + sum (sizes cs)) (sym one_rest) ∙ p.count;
      }
        where
          assoc : (x y z : ℕ) → x + y + z ≡ x + (y + z)
          assoc x y z = omega arith

      pub goes_on : (size' end : ℕ) (points' : List ℤ) → size' ≡ get_or len c 0 → end ≡ to + length (all_corners (run points at size'))
          → points' ≡ paste points to (all_corners (run points at size'))
          → Passed points' (set first c to) (set len c (end - to)) (c + 1) (at + size') end
      goes_on size' end points' es ee ep =
          let s : size' ≡ size = es ∙ read_size in
          let r : all_corners (run points at size') ≡ kept = ap (λ n. all_corners (run points at n)) s ∙ ap all_corners same_run in
          let e : end ≡ to + length kept = ee ∙ ap (λ (ps : List Point). to + length ps) r in
          let d : end - to ≡ length kept = omega (arith, e) in
          let q : points' ≡ paste points to kept = ep ∙ ap (paste points to) r in
          subst (λ (v : List ℤ). Passed v (set first c to) (set len c (end - to)) (c + 1) (at + size') end) (sym q)
          (subst (λ n. Passed (paste points to kept) (set first c to) (set len c (end - to)) (c + 1) (at + n) end) (sym s)
          (subst (λ n. Passed (paste points to kept) (set first c to) (set len c n) (c + 1) (at + size) end) (sym d)
          (subst (λ n. Passed (paste points to kept) (set first c to) (set len c (length kept)) (c + 1) (at + size) n) (sym e) one_more)))
