-- Where an anchor and the point after it stand, what the code has of an anchor edge from visit to visit, and that an anchor edge
-- lies within the bounds.
use Rattle.std.specs.Prelude.{ℕ, suc, ◌+◌, ◌*◌, ◌-◌, ◌≤◌, ◌<◌, ◌≡◌, refl, Bool, true, false, List, ℤ, length}
use Rattle.std.proofs.Common.{sym, ap₂, ◌∙◌, subst, arith}
use Rattle.std.proofs.Math.Path.{ap}
use Rattle.std.proofs.Math.Decide.{ℕ_discrete}
use Rattle.turn.specs.declared.Point.{Point}
use Rattle.turn.specs.Points.{OnGrid, Grid, differ}
use Rattle.table.specs.Table.{point_in, next_in, previous_in, Table, contour_count, first_of, range_end}
use Rattle.table.specs.TableLaws.{next_inside, grid_point}
use Rattle.table.specs.Sound.{Sound}
use Rattle.table.specs.Passing.{ranges_within, next_within, previous_within}
use Rattle.anchor.specs.declared.Anchor.{Anchor}
use Rattle.anchor.specs.Anchor.{anchor_position_in, anchor_point_in, lower_end, lowest_there, lowest_end, anchor_edge_in, anchor_edge}
use Rattle.anchor.specs.Anchored.{Paired}
use Rattle.anchor.specs.LowestEdges.{one_of, lowest_is, Searched, NextVisit, lowest_skip}

-- ---- the position of an anchor
pub anchor_low : (from : ℕ) (cw : Bool) → from ≤ anchor_position_in from cw
anchor_low from true = omega arith
anchor_low from false = omega arith

pub anchor_high : (from : ℕ) (cw : Bool) → anchor_position_in from cw ≤ from + 1
anchor_high from true = omega arith
anchor_high from false = omega arith

-- in a contour of three points or more the next position is inside
pub after_anchor : (from len : ℕ) (cw : Bool) → 3 ≤ len → next_in from (from + len) (anchor_position_in from cw) ≡ anchor_position_in from cw + 1
after_anchor from len cw h = next_inside from (from + len) (anchor_position_in from cw) (omega (arith, anchor_high from cw))

-- ---- what the code has, from its parts
-- the search for the next visit
module _ (points : List ℤ) (at : Point) (p to : ℕ) where
  pub search_start : p ≤ to → Searched points at p to p
  search_start h = record { low = omega arith; high = h; none = λ i k l. absurd (nothing i k l) }
    where
      nothing : (i : ℕ) → p ≤ i → i < p → ⊥
      nothing i k l = omega arith

  pub search_more : (q : ℕ) (here : Point) → Searched points at p to q → q < to → here ≡ point_in points q → differ here at ≡ true
      → Searched points at p to (q + 1)
  search_more q here s h e d = record { low = omega (arith, s.low); high = omega arith; none = λ i k l. go i k l (ℕ_discrete i q) }
    where
      go : (i : ℕ) → p ≤ i → i < q + 1 → Dec (i ≡ q) → differ (point_in points i) at ≡ true
      go i k l (yes z) = rw z (ap (λ (x : Point). differ x at) (sym e) ∙ d)
      go i k l (no z) = s.none i k (omega arith)

  pub search_here : (q : ℕ) (here : Point) → Searched points at p to q → here ≡ point_in points q → differ here at ≡ false
      → NextVisit points at p to q
  search_here q here s e d = record { searched = s; here = λ _. ap (λ (x : Point). differ x at) (sym e) ∙ d }

  pub search_end : (q : ℕ) → Searched points at p to q → to ≤ q → NextVisit points at p to q
  search_end q s h = record { searched = s; here = λ k. absurd (past k) }
    where
      past : q < to → ⊥
      past k = omega arith

pub there : (points : List ℤ) (from to : ℕ) (at : Point) (p : ℕ) (best next previous low r : Point) → next ≡ point_in points (next_in from to p)
    → previous ≡ point_in points (previous_in from to p) → low ≡ lower_end at best next → r ≡ lower_end at low previous
    → r ≡ lowest_there points from to at p best
there points from to at p best next previous low r i j l m = m ∙ ap₂ (lower_end at) (l ∙ ap (lower_end at best) i) j

-- the visits in turn: the lowest up to position p, where the next one is
pub record UpTo (points : List ℤ) (from to : ℕ) (at b best : Point) (p : ℕ) : Type 0 where
  pub low : from ≤ p
  pub high : p ≤ to
  pub is : best ≡ lowest_end points from to at b (p - from)
  pub here : p < to → differ (point_in points p) at ≡ false

module _ (points : List ℤ) (from to : ℕ) (at b : Point) where
  -- one visit more
  one_more : (n : ℕ) (best : Point) → differ (point_in points (from + n)) at ≡ false → best ≡ lowest_end points from to at b n
      → lowest_there points from to at (from + n) best ≡ lowest_end points from to at b (suc n)
  unfolding lowest_end
  one_more n best d q = ap (lowest_there points from to at (from + n)) q ∙ rw d

  pub first_visit : (p : ℕ) → NextVisit points at from to p → UpTo points from to at b b p
  unfolding lowest_end
  first_visit p v = record {
    low = v.searched.low;
    high = v.searched.high;
    is = lowest_skip points from to at b 0 (p - from) (omega arith) (λ k l m. v.searched.none (from + k) (omega arith) (omega (arith, v.searched.low)));
    here = v.here;
  }

  pub further_visit : (best r : Point) (p q : ℕ) → UpTo points from to at b best p → p < to → r ≡ lowest_there points from to at p best
      → NextVisit points at (p + 1) to q → UpTo points from to at b r q
  further_visit best r p q u l e v = record {
    low = omega (arith, u.low, v.searched.low);
    high = v.searched.high;
    is = e ∙ counted ∙ lowest_skip points from to at b (suc (p - from)) (q - from) (omega (arith, u.low, v.searched.low))
        (λ k m n. v.searched.none (from + k) (omega (arith, u.low)) (omega (arith, u.low, v.searched.low)));
    here = v.here;
  }
    where
      z : from + (p - from) ≡ p
      z = omega (arith, u.low)

      counted : lowest_there points from to at p best ≡ lowest_end points from to at b (suc (p - from))
      counted =
          subst (λ (x : ℕ). lowest_there points from to at x best ≡ lowest_end points from to at b (suc (p - from))) z
          (one_more (p - from) best (rw z (u.here l)) u.is)

-- all of them
module _ (points : List ℤ) (from len : ℕ) (cw : Bool) (h : 3 ≤ len) (at b best : Point) (p : ℕ) (a : at ≡ anchor_point_in points from cw)
    (i : b ≡ point_in points (anchor_position_in from cw + 1)) (u : UpTo points from (from + len) at b best p) (n : from + len ≤ p) where
  to_is : best ≡ (anchor_edge_in points from (from + len) cw).to
  to_is =
      let q : p - from ≡ from + len - from = omega (arith, u.high) in
      u.is ∙ ap₂ (λ (x y : Point). lowest_end points from (from + len) x y (p - from)) a (i ∙ ap (point_in points) (sym (after_anchor from len cw h)))
      ∙ ap (lowest_end points from (from + len) (anchor_point_in points from cw) (point_in points (next_in from (from + len) (anchor_position_in from cw)))) q

  pub edge_is : ◌≡◌ {A = Anchor} (record { at = at; to = best }) (anchor_edge_in points from (from + len) cw)
  edge_is = λ k. record { at = a k; to = to_is k }

pub paired : (t : Table) → Sound t → Paired t.points t.first
paired t s c l = omega (arith, ranges_within t s c l, s.long c l)

-- ---- an anchor edge lies within the bounds
pub lower_on_grid : (at p q r : Point) → r ≡ lower_end at p q → OnGrid p → OnGrid q → OnGrid r
lower_on_grid at p q r e h k = rw e (one_of OnGrid at p q h k)

pub lowest_on_grid : (points : List ℤ) (from to : ℕ) (at b best : Point) (n : ℕ) → best ≡ lowest_end points from to at b n → Grid points
    → to * 2 ≤ length points → from + n ≤ to → OnGrid b → OnGrid best
lowest_on_grid points from to at b best n e g h m o = rw e (lowest_is points from to at OnGrid b n o (λ k l _. (
  grid_point points (next_in from to (from + k)) g (omega (arith, (next_within from to (from + k) (omega arith) (omega arith)).1)),
  grid_point points (previous_in from to (from + k)) g (omega (arith, (previous_within from to (from + k) (omega arith) (omega arith)).1)),
)))

module _ (t : Table) (s : Sound t) (cw : Bool) (c : ℕ) (l : c < contour_count t) where
  abbrev from : ℕ
  from = first_of t c

  abbrev to : ℕ
  to = range_end t c

  abbrev at : ℕ
  at = anchor_position_in from cw

  inside : at < to
  inside = omega (arith, anchor_high from cw, s.long c l)

  point_on_grid : (p : ℕ) → p < to → OnGrid (point_in t.points p)
  point_on_grid p h = grid_point t.points p s.grid (omega (arith, ranges_within t s c l))

  pub anchor_on_grid : OnGrid (anchor_edge t cw c).at
  anchor_on_grid = point_on_grid at inside

  pub end_on_grid : OnGrid (anchor_edge t cw c).to
  end_on_grid =
      lowest_on_grid t.points from to (point_in t.points at) (point_in t.points (next_in from to at)) (anchor_edge t cw c).to (to - from) refl s.grid
      (omega (arith, ranges_within t s c l)) (omega arith) (point_on_grid (next_in from to at) (next_within from to at (anchor_low from cw) inside).1)

  pub on_anchor : (a : Anchor) → a ≡ anchor_edge t cw c → (OnGrid a.at) × (OnGrid a.to)
  on_anchor a e = rw e (anchor_on_grid, end_on_grid)
