-- What 12 means. Binding comes to a hole when the contour of the nearest edge under its anchor has its owner: that contour is a
-- hull, or a hole that goes before it. So binding stops at the first hole, in its order, under whose anchor no edge lies, and
-- nowhere else.
use Prim.Native.Nat.{ℕ, zero, suc, ◌+◌, ◌-◌, ◌<◌}
use native.Mathlib.Omega.{arith}
use Rattle.std.proofs.Math.Decide.{dec_le, ℕ_discrete}
use Rattle.std.specs.Prelude.{◌≡◌, refl, ◌⊎◌, true, List, length, get_or, eqb}
use Rattle.std.proofs.Common.{sym, ap, ◌∙◌, inl, inr, eq-eqb, ne_eqb, eqb-true, lt-ltb}
use Rattle.std.proofs.Math.Path.{subst}
use Rattle.std.proofs.Math.Bool.{Bool}
use Rattle.laws.specs.Test.{pick, true≢false}
use Rattle.laws.specs.Lists.{tabulate, tabulate_length, tabulate_at, Place, place_of}
use Rattle.laws.specs.Lowest.{lowest}
use Rattle.laws.specs.Count.{count, counted_in}
use Rattle.table.specs.Table.{Table, point_count, contour_count, kind_of, is_hole, dropped_owner}
use Rattle.table.specs.Sound.{Sound}
use Rattle.table.specs.TableLaws.{hulls_few}
use Rattle.table.specs.Passing.{located, contours_few}
use Rattle.anchor.specs.declared.Anchor.{Anchor}
use Rattle.anchor.specs.Anchor.{anchor_edge}
use Rattle.anchor.specs.Anchored.{Anchored}
use Rattle.edges.specs.declared.Edge.{Edge}
use Rattle.candidates.specs.Candidates.{rightward, edge}
use Rattle.nearest.specs.Search.{nearest, contour_under}
use Rattle.nearest.specs.Least.{NoneBelow, Nearest, Best, best}
use Rattle.order.specs.HoleOrder.{precedes, holes, hole, binding_order}
use Rattle.order.specs.HoleLaws.{holes_rising, holes_are}
use Rattle.order.specs.Insertion.{entries, sorted_length}
use Rattle.order.specs.OrderLaws.{IsHole, strict, precedes_itself, in_order, each_once}
use Rattle.owners.specs.Owners.{with_fill_above, every_contour, contour_below, first_owner, searched_owners}
use Rattle.owners.specs.OwnerLaws.{hull_below}
use Rattle.parents.specs.Under.{under_before}
use Rattle.parents.specs.Waiting.{Known, Ready, stops_at, bare, stops}

-- ---- the search, by what it answers
-- the nearest edge, where there is one
pub record EdgeUnder (edge : ℕ → Edge) (gives : ℕ → Bool) (a : Anchor) (n d : ℕ) : Type 0 where
  pub number : ℕ
  pub is : Nearest edge gives a n number
  pub whose : (edge number).contour ≡ d

module _ (edge : ℕ → Edge) (gives : ℕ → Bool) (a : Anchor) (n : ℕ) where
  pub edge_under : (d : ℕ) → contour_under edge gives a n ≡ suc d → EdgeUnder edge gives a n d
  unfolding contour_under
  edge_under d e = go (nearest edge gives a n) (best edge gives a n) e
    where
      go : (b : ℕ) → Best edge gives a n b → pick (eqb b 0) 0 ((edge (b - 1)).contour + 1) ≡ suc d → EdgeUnder edge gives a n d
      go zero r q = absurd (none q)
        where
          none : 0 ≡ suc d → ⊥
          none q = omega arith
      go (suc b) r q =
          let z : suc b - 1 ≡ b = omega arith in
          let w : (edge b).contour + 1 ≡ suc d = rw (ne_eqb (suc b) 0 (λ z. omega arith), z) at q in
          record { number = b; is = r; whose = omega arith }

  -- no edge lies under exactly where it answers 0
  pub nothing_under : contour_under edge gives a n ≡ 0 → NoneBelow edge gives a n
  unfolding contour_under
  nothing_under e = go (nearest edge gives a n) (best edge gives a n) e
    where
      go : (b : ℕ) → Best edge gives a n b → pick (eqb b 0) 0 ((edge (b - 1)).contour + 1) ≡ 0 → NoneBelow edge gives a n
      go zero r q = r
      go (suc b) r q = let w : (edge (suc b - 1)).contour + 1 ≡ 0 = rw (ne_eqb (suc b) 0 (λ z. omega arith)) at q in absurd (some w)
        where
          some : (edge (suc b - 1)).contour + 1 ≡ 0 → ⊥
          some q = omega arith

-- ---- of a hole in a table that passes checks 10 and 11
module _ (t : Table) (cw : Bool) (s : Sound t) (a : Anchored t cw) where
  -- the contour of the nearest edge under its anchor is a hull, or a hole that goes before it
  abbrev pub Before : ℕ → ℕ → Type 0
  Before c d = ((d < contour_count t) × (kind_of t d ≡ 0)) ⊎ ((IsHole t cw s a d) × (precedes t cw d c ≡ true))

  pub parent_before : (c : ℕ) → IsHole t cw s a c → (d : ℕ) → contour_below t cw c ≡ suc d → Before c d
  unfolding edge
  parent_before c (l, h) d e = subst (Before c) u.whose (go (kind_of t k) refl)
    where
      right : Bool
      right = rightward with_fill_above cw

      u : EdgeUnder (edge t right) every_contour (anchor_edge t cw c) (point_count t) d
      u = edge_under (edge t right) every_contour (anchor_edge t cw c) (point_count t) d e

      k : ℕ
      k = (edge t right u.number).contour

      below : k < contour_count t
      below = (located t s u.number u.is.one).below

      go : (n : ℕ) → kind_of t k ≡ n → Before c k
      go zero q = inl (below, q)
      go (suc n) q =
          let o : kind_of t k ≡ 1 = omega (arith, s.kinds k below) in
          let i : is_hole t k ≡ true = eq-eqb _ _ o in
          inr ((below, i), under_before t cw s a right every_contour c l h u.number u.is.one u.is.counted i)

  -- and never its own
  pub own_hole_never : (c : ℕ) → IsHole t cw s a c → contour_below t cw c ≡ suc c → ⊥
  own_hole_never c (l, h) e = go (parent_before c (l, h) c e)
    where
      go : Before c c → ⊥
      go (inl (_, q)) = hull (eqb-true _ _ h) q
        where
          hull : kind_of t c ≡ 1 → kind_of t c ≡ 0 → ⊥
          hull p q = omega arith
      go (inr (_, q)) = true≢false q (precedes_itself t cw c)

  -- ---- binding's order
  abbrev order : List ℕ
  order = binding_order t cw

  pub order_length : length order ≡ length (holes t)
  order_length = sorted_length (precedes t cw) (hole t) (length (holes t))

  pub order_holes : (i : ℕ) → i < length order → IsHole t cw s a (get_or order i 0)
  order_holes i h =
      entries (IsHole t cw s a) (precedes t cw) (hole t) (length (holes t))
      (λ k l. ((holes_rising t (contour_count t)).below k l, holes_are t (contour_count t) k l)) i (rw (← order_length) h)

  pub order_place : (d : ℕ) → IsHole t cw s a d → Place 0 d order
  order_place d (l, h) =
      let o : count d order ≡ 1 = each_once t cw d ∙ rw (lt-ltb d (contour_count t) l, h) in
      place_of 0 order (counted_in d order (omega arith))

  -- a hole that goes before another stands before it
  stands_before_lem : (i d : ℕ) → i < length order → IsHole t cw s a d → precedes t cw d (get_or order i 0) ≡ true → (p : Place 0 d order) → p.place < i
  stands_before_lem i d h g e p = go (dec_le (suc p.place) i) (ℕ_discrete p.place i)
    where
      c : ℕ
      c = get_or order i 0

      same : p.place ≡ i → ⊥
      same q = true≢false (subst (λ (x : ℕ). precedes t cw x c ≡ true) (sym p.here ∙ ap (λ (x : ℕ). get_or order x 0) q) e) (precedes_itself t cw c)

      later : i < p.place → ⊥
      later q =
          true≢false
          ((strict t cw s a).transitive d c d g (order_holes i h) g e
          (subst (λ (x : ℕ). precedes t cw c x ≡ true) p.here (in_order t cw s a i p.place q (rw (← order_length) p.within))))
          (precedes_itself t cw d)

      go : Dec (p.place < i) → Dec (p.place ≡ i) → p.place < i
      go (yes q) r = q
      go (no q) (yes r) = absurd (same r)
      go (no q) (no r) = absurd (later (omega arith))

  -- ---- when binding comes to a hole, the contour under it has its owner
  abbrev owners : List ℕ
  owners = tabulate (first_owner t.kind) (contour_count t)

  hull_owns : (d : ℕ) → d < contour_count t → kind_of t d ≡ 0 → get_or owners d 0 ≡ dropped_owner → ⊥
  hull_owns d l k e =
      let f = tabulate_at 0 (first_owner t.kind) (contour_count t) d l in
      let m = hull_below t.kind d (rw s.kind_long l) k in
      omega (arith, f, e, m, hulls_few t.kind, contours_few t s, s.kind_long)

  pub ready : Ready (contour_below t cw) owners order
  ready i h d e = go (parent_before (get_or order i 0) (order_holes i h) d e)
    where
      go : Before (get_or order i 0) d → Known (contour_below t cw) owners order i d
      go (inl (l, k)) = inl (hull_owns d l k)
      go (inr (g, q)) = let p = order_place d g in inr (p.place, stands_before_lem i d h g q p, p.here)

  -- binding stops at the first hole under whose anchor no edge lies, and nowhere else
  pub stops_at_orphans : (searched_owners t cw).answer ≡ stops_at (contour_below t cw) order (lowest (bare (contour_below t cw) order) (length order))
  stops_at_orphans =
      stops (contour_below t cw) order owners
      (λ i h. rw (tabulate_length (first_owner t.kind) (contour_count t)) (order_holes i h).0) ready
