-- When binding answers 12, of any table whatever: exactly where checks 10 and 11 pass, there are two hulls or more, and no edge
-- lies under some hole's anchor. The place is the first such hole in binding's order.
use Rattle.std.specs.Prelude.{ℕ, ◌≤◌, ◌<◌, ◌≡◌, Bool, true, false, ◌||◌, List, length, get_or, replicate, eqb, Result, Ok, Err}
use native.Mathlib.Omega.{arith}
use Rattle.std.proofs.Math.Decide.{dec_le, ℕ_discrete}
use Rattle.std.proofs.Math.Path.{refl}
use Rattle.std.proofs.Common.{sym, ap, ◌∙◌, subst}
use borrow.Author.Tests.{eq-eqb, ne_eqb, eqb-true, eqb-false}
use Rattle.laws.specs.Test.{pick, true≢false}
use Rattle.laws.specs.Lists.{Place}
use Rattle.laws.specs.Lowest.{lowest, some, Found, some_of, none_of}
use Rattle.laws.specs.Fails.{Iff}
use Rattle.turn.specs.Reasons
use Rattle.turn.specs.declared.Reason.{Reason}
use Rattle.turn.specs.Refusals.{number_of, place_of, refuse_at, followed_by, both_fine, Checked, refused, no_fault}
use Rattle.table.specs.Table.{Table, point_count, contour_count, hull_count, is_hole, dropped_owner}
use Rattle.table.specs.TableChecks.{misfit, unended, bad_contour, table_checked}
use Rattle.table.specs.Sound.{Sound}
use Rattle.table.specs.Passing.{passes_sound}
use Rattle.anchor.specs.Anchor.{anchor_edge}
use Rattle.anchor.specs.AnchorChecks.{bad_anchor, anchors_checked, both_checked}
use Rattle.anchor.specs.Anchored.{Anchored}
use Rattle.anchor.specs.Anchoring.{passes_anchored}
use Rattle.candidates.specs.Candidates.{rightward, edge}
use Rattle.nearest.specs.Least.{NoneBelow, none_under}
use Rattle.order.specs.HoleOrder.{precedes, binding_order}
use Rattle.order.specs.OrderLaws.{strict, precedes_itself, in_order}
use Rattle.owners.specs.Owners.{with_fill_above, every_contour, contour_below, owned, searched_owners, owners_of}
use Rattle.bind.specs.declared.Bound.{Bound}
use Rattle.turn.specs.declared.Refusal.{Refusal}
use Rattle.bind.specs.Outcome.{binding_number, handed_by, bound_after, bound}
use Rattle.parents.specs.Waiting.{bare}
use Rattle.parents.specs.Orphans.{nothing_under, order_length, order_holes, order_place, stops_at_orphans}
use Rattle.turn.specs.declared.Reason.TheVariants.{NoParent, WrongTable, WrongAnchor}

-- a hole under whose anchor no candidate edge lies
pub record Orphan (t : Table) (cw : Bool) (c : ℕ) : Type 0 where
  pub below : c < contour_count t
  pub hole : is_hole t c ≡ true
  pub none : NoneBelow (edge t (rightward with_fill_above cw)) every_contour (anchor_edge t cw c) (point_count t)

-- the first of them in binding's order
pub record FirstOrphan (t : Table) (cw : Bool) (c : ℕ) : Type 0 where
  pub is : Orphan t cw c
  pub first : (d : ℕ) → Orphan t cw d → (d ≡ c → ⊥) → precedes t cw c d ≡ true

-- what 12 at contour c says of a table, with room for so many owners
pub record TwelveAt (t : Table) (cw : Bool) (owners c : ℕ) : Type 0 where
  pub checked : both_checked t owners cw ≡ no_fault
  pub several : 2 ≤ hull_count t
  pub place : FirstOrphan t cw c

-- ---- checks 10 and 11 answer no 12
abbrev Not12 : Checked → Type 0
Not12 k = number_of k ≡ 12 → ⊥

fine_not : Not12 no_fault
fine_not e = omega arith

fault_not : (n : Reason) (p : ℕ) → Reasons.number_of n < 12 → Not12 (refused n p)
fault_not n p h e = omega arith

both_not : (a b : Checked) → Not12 a → Not12 b → Not12 (followed_by a b)
both_not (Ok u) b h k = k
both_not (Err r) b h k = h

refuse_not : (b : Bool) (n : Reason) (p : ℕ) (next : Checked) → Reasons.number_of n < 12 → Not12 next → Not12 (pick b (refused n p) next)
refuse_not true n p next h k = fault_not n p h
refuse_not false n p next h k = k

checks_not : (t : Table) (owners : ℕ) (cw : Bool) → Not12 (both_checked t owners cw)
unfolding table_checked anchors_checked
checks_not t owners cw =
    both_not (table_checked t owners) (anchors_checked t cw)
    (refuse_not (misfit (length t.points) (length t.first) (length t.len) (length t.kind) owners || unended t) WrongTable 0
    (refuse_at WrongTable (bad_contour t) (contour_count t) no_fault) (omega arith)
    (refuse_not (some (bad_contour t) (contour_count t)) WrongTable (lowest (bad_contour t) (contour_count t)) no_fault (omega arith) fine_not))
    (refuse_not (some (bad_anchor t cw) (contour_count t)) WrongAnchor (lowest (bad_anchor t cw) (contour_count t)) no_fault (omega arith) fine_not)

-- ---- the search, with two hulls or more
not_all : (c : ℕ) → no_fault ≡ refused NoParent c → ⊥
not_all c q = let z : ◌≡◌ {A = ℕ} 0 12 = ap number_of q in omega arith

module _ (t : Table) (cw : Bool) (s : Sound t) (a : Anchored t cw) where
  abbrev order : List ℕ
  order = binding_order t cw

  abbrev test : ℕ → Bool
  test = bare (contour_below t cw) order

  -- the places of the order at which nothing lies under are the orphans'
  orphan_at : (i : ℕ) → i < length order → test i ≡ true → Orphan t cw (get_or order i 0)
  orphan_at i l e = record {
    below = (order_holes t cw s a i l).0;
    hole = (order_holes t cw s a i l).1;
    none = nothing_under (edge t (rightward with_fill_above cw)) every_contour (anchor_edge t cw (get_or order i 0)) (point_count t) (eqb-true _ _ e);
  }

  bare_at : (d : ℕ) → Orphan t cw d → (p : Place 0 d order) → test p.place ≡ true
  bare_at d o p =
      eq-eqb _ _ (ap (contour_below t cw) p.here
      ∙ none_under (edge t (rightward with_fill_above cw)) every_contour (anchor_edge t cw d) (point_count t) o.none)

  -- the lowest such place is the first orphan's
  first_at_lem : (i : ℕ) → Found test (length order) i → FirstOrphan t cw (get_or order i 0)
  first_at_lem i f = record {
    is = orphan_at i f.within f.passes;
    first = λ d o n. let p = order_place t cw s a d (o.below, o.hole) in go d o n p (dec_le p.place i) (ℕ_discrete p.place i);
  }
    where
      go : (d : ℕ) → Orphan t cw d → (d ≡ get_or order i 0 → ⊥) → (p : Place 0 d order) → Dec (p.place ≤ i) → Dec (p.place ≡ i)
          → precedes t cw (get_or order i 0) d ≡ true
      go d o n p l (yes e) = absurd (n (sym p.here ∙ ap (λ (x : ℕ). get_or order x 0) e))
      go d o n p (yes l) (no e) = absurd (true≢false (bare_at d o p) (f.lowest_one p.place (omega arith)))
      go d o n p (no l) (no e) =
          subst (λ (x : ℕ). precedes t cw (get_or order i 0) x ≡ true) p.here
          (in_order t cw s a i p.place (omega arith) (rw (← order_length t cw s a) p.within))

  -- there is one first orphan at the most
  one_first : (c d : ℕ) → FirstOrphan t cw c → FirstOrphan t cw d → c ≡ d
  one_first c d f g = go (ℕ_discrete c d)
    where
      hole_of : (c : ℕ) → Orphan t cw c → (c < contour_count t) × (is_hole t c ≡ true)
      hole_of c o = (o.below, o.hole)

      apart : (c ≡ d → ⊥) → ⊥
      apart n =
          true≢false
          ((strict t cw s a).transitive c d c (hole_of c f.is) (hole_of d g.is) (hole_of c f.is)
          (f.first d g.is (λ e. n (sym e))) (g.first c f.is n))
          (precedes_itself t cw c)

      go : Dec (c ≡ d) → c ≡ d
      go (yes e) = e
      go (no n) = absurd (apart n)

  -- binding stops at the first orphan
  stuck_first : (c : ℕ) → Iff ((searched_owners t cw).answer ≡ refused NoParent c) (FirstOrphan t cw c)
  stuck_first c = go (some test (length order)) refl (stops_at_orphans t cw s a)
    where
      go : (b : Bool) → some test (length order) ≡ b
          → (searched_owners t cw).answer ≡ pick (some test (length order)) (refused NoParent (get_or order (lowest test (length order)) 0)) no_fault
          → Iff ((searched_owners t cw).answer ≡ refused NoParent c) (FirstOrphan t cw c)
      go true h e =
          let f = first_at_lem (lowest test (length order)) (some_of test (length order) h) in
          let z = rw h at e in
          record {
            to = λ q. subst (FirstOrphan t cw) (ap place_of (sym z ∙ q)) f;
            from = λ g. z ∙ ap (refused NoParent) (one_first _ c f g);
          }
      go false h e =
          let z = rw h at e in
          record {
            to = λ q. absurd (not_all c (sym z ∙ q));
            from = λ g.
                let o = g.is in let p = order_place t cw s a c (o.below, o.hole) in
                absurd (true≢false (bare_at c o p) (none_of test (length order) h p.place p.within));
          }

-- ---- the outcome
module _ (t : Table) (cw : Bool) (buffer : List ℕ) where
  -- checks 10 and 11 pass
  sound_of : both_checked t (length buffer) cw ≡ no_fault → (Sound t) × (Anchored t cw)
  sound_of e =
      let f = (both_fine (table_checked t (length buffer)) (anchors_checked t cw)).to e in
      (((passes_sound t (length buffer)).to f.0).0, (passes_anchored t cw).to f.1)

  -- with one hull or none every hole has its owner
  searched : (c : ℕ) → (owners_of t cw).answer ≡ refused NoParent c → (2 ≤ hull_count t) × ((searched_owners t cw).answer ≡ refused NoParent c)
  unfolding owners_of
  searched c = go (replicate (contour_count t) dropped_owner) (replicate (contour_count t) 0) (eqb (hull_count t) 0) refl (eqb (hull_count t) 1) refl
    where
      two : (n : ℕ) → (n ≡ 0 → ⊥) → (n ≡ 1 → ⊥) → 2 ≤ n
      two n p q = omega arith

      go : (l m : List ℕ) (x : Bool) → eqb (hull_count t) 0 ≡ x → (y : Bool) → eqb (hull_count t) 1 ≡ y
          → (pick x (owned no_fault l) (pick y (owned no_fault m) (searched_owners t cw))).answer ≡ refused NoParent c
          → (2 ≤ hull_count t) × ((searched_owners t cw).answer ≡ refused NoParent c)
      go l m true p y q e = absurd (not_all c e)
      go l m false p true q e = absurd (not_all c e)
      go l m false p false q e = (two (hull_count t) (eqb-false _ _ p) (eqb-false _ _ q), e)

  -- binding answers 12 at contour c
  abbrev pub Answers12 : ℕ → Type 0
  Answers12 c = (bound t cw buffer).answer ≡ refused NoParent c

  -- an answer's refusal, without its counts
  abbrev told : Result Bound Refusal → Checked
  told (Ok b) = no_fault
  told (Err r) = Err r

  answered : (c : ℕ) → Answers12 c → TwelveAt t cw (length buffer) c
  answered c = go (both_checked t (length buffer) cw) refl
    where
      fine : both_checked t (length buffer) cw ≡ no_fault → (g : Checked) → (owners_of t cw).answer ≡ g
          → (handed_by t g (owners_of t cw).owners buffer).answer ≡ refused NoParent c → TwelveAt t cw (length buffer) c
      fine q (Ok u) h e = absurd (fine_not (ap binding_number e))
      fine q (Err r) h e =
          let k = sound_of q in
          let m = searched c (h ∙ ap told e) in
          record { checked = q; several = m.0; place = (stuck_first t cw k.0 k.1 c).to m.1 }

      go : (k : Checked) → both_checked t (length buffer) cw ≡ k → (bound_after k t cw buffer).answer ≡ refused NoParent c → TwelveAt t cw (length buffer) c
      go (Err r) q e = absurd (checks_not t (length buffer) cw (ap number_of q ∙ ap binding_number e))
      go (Ok u) q e = fine q (owners_of t cw).answer refl e

  answers : (c : ℕ) → TwelveAt t cw (length buffer) c → Answers12 c
  unfolding owners_of
  answers c w =
      let k = sound_of w.checked in
      rw (w.checked, ne_eqb (hull_count t) 0 (λ z. omega (arith, w.several)), ne_eqb (hull_count t) 1 (λ z. omega (arith, w.several)))
      (stuck (searched_owners t cw).answer ((stuck_first t cw k.0 k.1 c).from w.place))
    where
      stuck : (g : Checked) → g ≡ refused NoParent c → (handed_by t g (searched_owners t cw).owners buffer).answer ≡ refused NoParent c
      stuck g e = rw e

  pub twelve : (c : ℕ) → Iff (Answers12 c) (TwelveAt t cw (length buffer) c)
  twelve c = record { to = answered c; from = answers c }
