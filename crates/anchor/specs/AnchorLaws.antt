-- A hole's anchor edge: it is an edge of the contour at the anchor, none of these is lower, and edges at the anchor of which
-- neither is lower have one direction, so that no rule tells which was kept. Where the contour passes its anchor once, it is
-- the lower of the two edges there.
use Rattle.std.specs.Prelude.{ℕ, ◌+◌, ◌-◌, ◌≤◌, ◌<◌, ◌≡◌, ◌⊎◌, Bool, true, false, List, ℤ}
use Rattle.std.proofs.Common.{arith, sym, ap, ◌∙◌, subst, inl, inr, ⊎_elim}
use Rattle.laws.specs.Test.{Is, true≢false, or_true}
use Rattle.turn.specs.declared.Point.{Point}
use Rattle.turn.specs.Points.{before, differ, from_to, clockwise}
use Rattle.turn.specs.Angle.{same_direction}
use Rattle.turn.specs.PointOrder.{differ_sym, differ_same, same_of_differ}
use Rattle.table.specs.Table.{Table, point_in, point, contour_count, first_of, range_end, is_hole, next_in, previous_in, next, previous}
use Rattle.table.specs.Sound.{Sound}
use Rattle.table.specs.Passing.{next_within, previous_within, next_previous}
use Rattle.anchor.specs.declared.Anchor.{Anchor}
use Rattle.anchor.specs.Anchor.{anchor_position, anchor_point, lower_end, anchor_edge}
use Rattle.anchor.specs.AnchorPositions.{anchor_low, anchor_high}
use Rattle.anchor.specs.Anchored.{Anchored}
use Rattle.anchor.specs.Onward.{one_direction}
use Rattle.anchor.specs.LowestEdges.{Ends, lowest_is, lowest_lower, lowest_once}

-- ---- a contour's edges at a point
-- the contour passes the point at position p
pub record PassesAt (t : Table) (c : ℕ) (at : Point) (p : ℕ) : Type 0 where
  pub from : first_of t c ≤ p
  pub to : p < range_end t c
  pub here : point t p ≡ at

-- an edge of the contour from the point to another
pub record EdgeAt (t : Table) (c : ℕ) (at end : Point) : Type 0 where
  pub position : ℕ
  pub passes : PassesAt t c at position
  pub either : (end ≡ point t (next t c position)) ⊎ (end ≡ point t (previous t c position))

-- ---- "the lower of the two edges at that position" (document 01), of a contour that passes its anchor once
abbrev pub lower_edge_at : List ℤ → ℕ → ℕ → ℕ → Anchor
lower_edge_at points from to p =
    record {
      at = point_in points p;
      to = lower_end (point_in points p) (point_in points (next_in from to p)) (point_in points (previous_in from to p));
    }

module _ (t : Table) (cw : Bool) (s : Sound t) (c : ℕ) (l : c < contour_count t) where
  abbrev k : ℕ
  k = anchor_position t cw c

  abbrev at : Point
  at = anchor_point t cw c

  anchor_passes : PassesAt t c at k
  anchor_passes = record {
    from = anchor_low (first_of t c) cw;
    to = omega (arith, anchor_high (first_of t c) cw, s.long c l);
    here = λ _. at;
  }

  -- position k of the table is number k - first of the contour
  number : (p : ℕ) → first_of t c ≤ p → first_of t c + (p - first_of t c) ≡ p
  number p h = omega arith

  passes_of : (i : ℕ) → i < range_end t c - first_of t c → differ (point t (first_of t c + i)) at ≡ false → PassesAt t c at (first_of t c + i)
  passes_of i h q = record { from = omega arith; to = omega arith; here = same_of_differ (point t (first_of t c + i)) at q }

  -- what holds of the ends of all edges at the anchor
  all_ends : (P : Point → Type 0) → ((p : ℕ) → PassesAt t c at p → (P (point t (next t c p))) × (P (point t (previous t c p))))
      → Ends t.points (first_of t c) (range_end t c) at P (range_end t c - first_of t c)
  all_ends P h i m q = h (first_of t c + i) (passes_of i m q)

  -- the anchor edge's end is one of them
  pub edge_end : (P : Point → Type 0) → ((p : ℕ) → PassesAt t c at p → (P (point t (next t c p))) × (P (point t (previous t c p))))
      → P (anchor_edge t cw c).to
  edge_end P h =
      lowest_is t.points (first_of t c) (range_end t c) at P (point t (next t c k)) (range_end t c - first_of t c) (h k anchor_passes).0 (all_ends P h)

  pub edge_at : EdgeAt t c at (anchor_edge t cw c).to
  edge_at = edge_end (EdgeAt t c at) (λ p q. (
    record { position = p; passes = q; either = inl (λ _. point t (next t c p)) },
    record { position = p; passes = q; either = inr (λ _. point t (previous t c p)) },
  ))

  -- of a contour that passes its anchor once
  pub edge_once : ((p : ℕ) → PassesAt t c at p → p ≡ k) → anchor_edge t cw c ≡ lower_edge_at t.points (first_of t c) (range_end t c) k
  edge_once h = λ i. record { at = at; to = ends i }
    where
      e : first_of t c + (k - first_of t c) ≡ k
      e = number k anchor_passes.from

      ends : (anchor_edge t cw c).to ≡ (lower_edge_at t.points (first_of t c) (range_end t c) k).to
      ends =
          rw e at
          (lowest_once t.points (first_of t c) (range_end t c) at (k - first_of t c) (range_end t c - first_of t c)
          (omega (arith, anchor_passes.from, anchor_passes.to))
          (rw e (differ_same at))
          (λ i m q. let w = h (first_of t c + i) (passes_of i m q) in omega arith))

-- ---- of a hole in a table that passes both checks
ahead_of : (at p : Point) → differ at p ≡ true → before p at ≡ false → before at p ≡ true
ahead_of at p h k = ⊎_elim (λ (e : before at p ≡ true). e) (λ (e : before p at ≡ true). absurd (true≢false e k)) (or_true (before at p) (before p at) h)

module _ (t : Table) (cw : Bool) (s : Sound t) (a : Anchored t cw) (c : ℕ) (l : c < contour_count t) (h : is_hole t c ≡ true) where
  abbrev anchor : Point
  anchor = anchor_point t cw c

  -- every edge at the anchor runs rightward or straight up
  abbrev Ahead : Point → Type 0
  Ahead p = before anchor p ≡ true

  ends_ahead : (p : ℕ) → PassesAt t c anchor p → (Ahead (point t (next t c p))) × (Ahead (point t (previous t c p)))
  ends_ahead p q = (
    ahead_of anchor (point t (next t c p)) (subst (λ (x : Point). differ x (point t (next t c p)) ≡ true) q.here (s.neighbours c p l q.from q.to))
        (a.least c (next t c p) l h n.0 n.1),
    ahead_of anchor (point t (previous t c p))
        (differ_sym anchor (point t (previous t c p))
        ∙ subst (λ (x : Point). differ (point t (previous t c p)) x ≡ true)
        (ap (point t) (next_previous (first_of t c) (range_end t c) p q.from q.to) ∙ q.here) (s.neighbours c (previous t c p) l w.0 w.1))
        (a.least c (previous t c p) l h w.0 w.1),
  )
    where
      n : (first_of t c ≤ next t c p) × (next t c p < range_end t c)
      n = next_within (first_of t c) (range_end t c) p q.from q.to

      w : (first_of t c ≤ previous t c p) × (previous t c p < range_end t c)
      w = previous_within (first_of t c) (range_end t c) p q.from q.to

  -- so does the anchor edge
  pub edge_ahead : before (anchor_edge t cw c).at (anchor_edge t cw c).to ≡ true
  edge_ahead = edge_end t cw s c l Ahead ends_ahead

  -- no edge of the contour at the anchor is strictly clockwise of the anchor edge
  pub edge_lowest : (p : Point) → EdgeAt t c anchor p → clockwise anchor (anchor_edge t cw c).to p ≡ false
  edge_lowest p e = go e.either
    where
      i : ℕ
      i = e.position - first_of t c

      z : first_of t c + i ≡ e.position
      z = number t cw s c l e.position e.passes.from

      passing : differ (point t (first_of t c + i)) anchor ≡ false
      passing = subst (λ (x : Point). differ x anchor ≡ false) (sym (ap (point t) z ∙ e.passes.here)) (differ_same anchor)

      low : (clockwise anchor (anchor_edge t cw c).to (point t (next t c e.position)) ≡ false)
          × (clockwise anchor (anchor_edge t cw c).to (point t (previous t c e.position)) ≡ false)
      low =
          subst (λ (q : ℕ). (clockwise anchor (anchor_edge t cw c).to (point t (next t c q)) ≡ false)
          × (clockwise anchor (anchor_edge t cw c).to (point t (previous t c q)) ≡ false)) z
          (lowest_lower t.points (first_of t c) (range_end t c) anchor (point t (next t c (anchor_position t cw c)))
          (ends_ahead (anchor_position t cw c) (anchor_passes t cw s c l)).0 (range_end t c - first_of t c) (all_ends t cw s c l Ahead ends_ahead) i
          (omega (arith, e.passes.from, e.passes.to)) passing)

      go : (p ≡ point t (next t c e.position)) ⊎ (p ≡ point t (previous t c e.position)) → clockwise anchor (anchor_edge t cw c).to p ≡ false
      go (inl q) = rw q low.0
      go (inr q) = rw q low.1

  edge_onward : (p : Point) → EdgeAt t c anchor p → Ahead p
  edge_onward p e = go e.either
    where
      go : (p ≡ point t (next t c e.position)) ⊎ (p ≡ point t (previous t c e.position)) → Ahead p
      go (inl q) = rw q (ends_ahead e.position e.passes).0
      go (inr q) = rw q (ends_ahead e.position e.passes).1

  -- an edge at the anchor than which the anchor edge is not lower has its direction
  pub edge_tie : (p : Point) → EdgeAt t c anchor p → clockwise anchor p (anchor_edge t cw c).to ≡ false
      → Is (same_direction (from_to anchor (anchor_edge t cw c).to) (from_to anchor p))
  edge_tie p e q = one_direction anchor (anchor_edge t cw c).to p edge_ahead (edge_onward p e) (edge_lowest p e) q
