-- The search over the gathered holes and in their order is that of the definition.
use Prim.Native.Nat.{ℕ, zero, suc, ◌≤◌, ◌<◌}
use mathlib.Core.Path.{◌≡◌, refl, sym, ap, ap₂, ◌∙◌, subst}
use mathlib.Core.Bool.{Bool, true, false}
use mathlib.Core.List.{List}
use native.Mathlib.Omega.{arith}
use native.Mathlib.Decide.{ℕ_discrete}
use lib.ListN.{length, get_or, take, replicate}
use lib.Seq.{length-take-le, get_or-take}
use lib.IntN.{pos}
use lib.Signed.{lt_z, ◌≤ℤ◌, ≤ℤ_refl}
use Rattle.laws.specs.Test.{or_false}
use Rattle.laws.specs.Compare.{lt_no}
use Rattle.turn.specs.declared.Point.{Point}
use Rattle.turn.specs.Points.{before, OnGrid}
use Rattle.table.specs.Table.{Table, contour_count, max_contours}
use Rattle.table.specs.Sound.{Sound}
use Rattle.table.specs.Passing.{contours_few}
use Rattle.anchor.specs.declared.Anchor.{Anchor}
use Rattle.anchor.specs.Anchor.{anchor_edge}
use Rattle.anchor.specs.Anchored.{Anchored}
use Rattle.anchor.specs.Anchors.{Anchors, listed_anchor, AnchorRoom, AnchorsOnGrid, less_room}
use Rattle.anchor.specs.AnchorPositions.{anchor_on_grid, end_on_grid}
use Rattle.candidates.specs.Candidates.{rightward}
use Rattle.nearest.specs.Search.{search_under}
use Rattle.nearest.specs.SearchLists.{giving, SortedAnchors}
use Rattle.nearest.specs.Least.{under_few}
use Rattle.precede.specs.Precedence.{goes_before}
use Rattle.order.specs.HoleOrder.{precedes, sorted, holes, hole, binding_order}
use Rattle.order.specs.HoleLaws.{Rising, holes_rising, holes_are}
use Rattle.order.specs.HoleLists.{Gathered, Bounded, by_anchor, Ordered}
use Rattle.order.specs.Insertion.{sorted_length, sorted_image, entries}
use Rattle.owners.specs.Owners.{every_contour, contour_below, give_each}
use Rattle.owners.specs.Giving.{give_listed, Listed}
use Rattle.owners.proofs.Gives.{give_same}

-- ---- no contour is mute
zeros : (n c : ℕ) → get_or {A = ℕ} (replicate n 0) c 0 ≡ 0
zeros zero c = refl
zeros (suc n) zero = refl
zeros (suc n) (suc c) = zeros n c

every_gives : (n : ℕ) → giving (replicate n 0) ≡ every_contour
every_gives n = λ i c. here c i
  where
    here : (c : ℕ) → giving (replicate n 0) c ≡ true
    here c = rw (zeros n c)

-- ---- the search with the gathered holes
-- one point is not before another, so not left of it
not_left : (p q : Point) → before q p ≡ false → p.x ≤ℤ q.x
not_left p q e = lt_no q.x p.x (or_false (lt_z q.x p.x) _ e).0

module _ (t : Table) (s : Sound t) (cw : Bool) (a : Anchored t cw) (m : ℕ) (who : List ℕ) (h : Anchors) (g : Gathered t cw (contour_count t) m who h) where
  rising : Rising (holes t) (contour_count t)
  rising = holes_rising t (contour_count t)

  among : (j : ℕ) → j < m → j < length (holes t)
  among j l = omega (arith, g.all)

  pub few_holes : m ≤ max_contours
  few_holes = omega (arith, g.all, rising.few, contours_few t s)

  hole_below : (j : ℕ) → j < m → hole t j < contour_count t
  hole_below j l = rising.below j (among j l)

  module _ (r : AnchorRoom h max_contours) where
    on_grid : AnchorsOnGrid h m
    on_grid = record {
      room = less_room h m r few_holes;
      at = λ j l. subst (λ (w : Anchor). OnGrid w.at) (sym (g.at j l)) (anchor_on_grid t s cw (hole t j) (hole_below j l));
      to = λ j l. subst (λ (w : Anchor). OnGrid w.to) (sym (g.at j l)) (end_on_grid t s cw (hole t j) (hole_below j l));
    }

    pub bounded : max_contours ≤ length who → Bounded who h m
    bounded w = record { who_room = omega (arith, few_holes); on_grid = on_grid }

    in_order : (p q : ℕ) → p ≤ q → q < m → get_or h.x p (pos 0) ≤ℤ get_or h.x q (pos 0)
    in_order p q l n = go (ℕ_discrete p q)
      where
        x_at : (j : ℕ) → j < m → get_or h.x j (pos 0) ≡ (anchor_edge t cw (hole t j)).at.x
        x_at j k = ap (λ (w : Anchor). w.at.x) (g.at j k)

        go : Dec (p ≡ q) → get_or h.x p (pos 0) ≤ℤ get_or h.x q (pos 0)
        go (yes e) = rw e (≤ℤ_refl (get_or h.x q (pos 0)))
        go (no e) =
            let i : p < q = omega arith in
            rw (x_at p (omega arith), x_at q n)
            (not_left (anchor_edge t cw (hole t p)).at (anchor_edge t cw (hole t q)).at
            (a.order (hole t p) (hole t q) (rising.rises p q i (among q n)) (hole_below q n)
            (holes_are t (contour_count t) p (among p (omega arith))) (holes_are t (contour_count t) q (among q n))))

    pub sorted_anchors : SortedAnchors h m
    sorted_anchors = record { on_grid = on_grid; sorted = in_order }

  module _ (under ord own : List ℕ) (u : (j : ℕ) → j < m → get_or under j 0 ≡ search_under t true cw (giving (replicate max_contours 0)) (listed_anchor h j))
      (o : Ordered h who m ord) where
    under_is : (j : ℕ) → j < m → get_or under j 0 ≡ contour_below t cw (hole t j)
    under_is j l =
        u j l ∙ ap (λ (e : ℕ → Bool). search_under t true cw e (listed_anchor h j)) (every_gives max_contours)
        ∙ ap (search_under t true cw every_contour) (g.at j l)

    low : (i : ℕ) → i < m → get_or ord i 0 < m
    low i l = rw (o i l) (entries (λ k. k < m) (by_anchor h who) (λ k. k) m (λ k n. n) i l)

    pub listed : max_contours ≤ length ord → max_contours ≤ length who → max_contours ≤ length under → length own ≡ contour_count t
        → Listed ord who under m (length own)
    listed p q r e = record {
      ord_room = omega (arith, few_holes);
      ord_below = low;
      who_room = omega (arith, few_holes);
      who_below = λ j l. rw (g.who_is j l, e) (hole_below j l);
      under_room = omega (arith, few_holes);
      under_below = λ j l. rw (under_is j l, e) (under_few t s (rightward true cw) every_contour (anchor_edge t cw (hole t j)));
    }

    -- the order of the places is the order of the holes
    by_anchor_lem : (i j : ℕ) → i < m → j < m → precedes t cw (hole t i) (hole t j) ≡ by_anchor h who i j
    by_anchor_lem i j l n =
        sym (ap₂ (λ (p q : Anchor). goes_before p q (get_or who i 0) (get_or who j 0)) (g.at i l) (g.at j n)
        ∙ ap₂ (goes_before (anchor_edge t cw (hole t i)) (anchor_edge t cw (hole t j))) (g.who_is i l) (g.who_is j n))

    pub gave : max_contours ≤ length ord → give_listed who under (take m ord) own ≡ give_each (contour_below t cw) (binding_order t cw) own
    gave p =
        give_same (contour_below t cw) (hole t) who under m g.who_is under_is (binding_order t cw) (take m ord) own
        (sorted_length (precedes t cw) (hole t) (length (holes t)) ∙ sym g.all ∙ sym taken)
        (λ i l. pair i (rw taken at l)) (λ i l. let k : i < m = rw taken at l in rw (get_or-take m ord i 0 k) (low i k))
      where
        taken : length (take m ord) ≡ m
        taken = length-take-le m ord (omega (arith, few_holes))

        pair : (i : ℕ) → i < m → get_or (binding_order t cw) i 0 ≡ hole t (get_or (take m ord) i 0)
        pair i l =
            ap (λ (n : ℕ). get_or (sorted (precedes t cw) (hole t) n) i 0) (sym g.all)
            ∙ sorted_image (precedes t cw) (by_anchor h who) (hole t) m by_anchor_lem m (omega arith) i l
            ∙ ap (hole t) (sym (get_or-take m ord i 0 l ∙ o i l))
