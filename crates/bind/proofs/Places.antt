-- The place of a refusal is 0 or a contour that stands after few others, so it fits 32 bits.
use Rattle.std.specs.Prelude.{Result, Ok, Err, IfErr}
use Prim.Native.Nat.{ℕ, zero, suc, ◌^◌, ◌≤◌, ◌<◌}
use mathlib.Core.Path.{◌≡◌, refl, sym, ap}
use mathlib.Core.List.{List, [], ◌∷◌}
use lib.Dec.{eqb}
use mathlib.Core.Bool.{Bool, true, false, ◌||◌}
use native.Mathlib.Omega.{arith}
use lib.ListN.{length, get_or, set, replicate}
use Rattle.laws.specs.Test.{pick, or_false}
use Rattle.laws.specs.Lowest.{lowest, some, NoneBelow, some_of}
use Rattle.turn.specs.Limits.{max_links}
use Rattle.turn.specs.Refusals.{followed_by, Checked, refused, no_fault}
use Rattle.table.specs.Table.{Table, point_count, contour_count, first_of, len_of, kind_of, hull_count, dropped_owner}
use Rattle.table.specs.TableChecks.{misfit, start_in, unended, bad_contour, table_checked}
use Rattle.table.specs.Tests.{Ranged, fitting, contour_right}
use Rattle.table.specs.Passing.{passes_sound, contours_few}
use Rattle.anchor.specs.AnchorChecks.{bad_anchor, anchors_checked, both_checked}
use Rattle.turn.specs.declared.Refusal.{Refusal}
use Rattle.turn.specs.declared.Reason.TheVariants.{WrongTable, WrongAnchor, NoParent}
use Rattle.laws.specs.Lists.{tabulate}
use Rattle.order.specs.HoleOrder.{precedes, holes, hole, binding_order}
use Rattle.order.specs.HoleLaws.{holes_rising}
use Rattle.order.specs.Insertion.{sorted_length, entries}
use Rattle.owners.specs.Owners.{Owned, owned, given, first_owner, give_each, contour_below, searched_owners, owners_of}
use Rattle.bind.specs.declared.Bound.{Bound}
use Rattle.bind.specs.Outcome.{Outcome, outcome, handed_by, bound_after, bound}
use Rattle.bind.proofs.Whole.{checks}

-- contours that check 10 finds right stand one after the other, each with a point or more
module _ (t : Table) (c : ℕ) (right : NoneBelow (bad_contour t) c) where
  ranged : (k : ℕ) → k < c → Ranged (point_count t) (start_in t.first t.len k) (first_of t k) (len_of t k) (kind_of t k)
  ranged k l = ((contour_right t.points (start_in t.first t.len k) (first_of t k) (len_of t k) (kind_of t k)).to (right k l)).0

  starts : (k : ℕ) → k ≤ c → k ≤ start_in t.first t.len k
  starts zero h = omega arith
  starts (suc k) h = let r = ranged k h in omega (arith, starts k (omega arith), r.consecutive, r.long)

  few_before : (k : ℕ) → k ≤ c → point_count t ≤ max_links → k ≤ max_links
  few_before zero h p = omega arith
  few_before (suc k) h p = omega (arith, starts (suc k) h, (ranged k h).within)

table_place : (t : Table) (owners : ℕ) (r : Refusal) → table_checked t owners ≡ Err r → r.place ≤ max_links
unfolding table_checked
table_place t owners r e =
    go (misfit (length t.points) (length t.first) (length t.len) (length t.kind) owners || unended t) refl
    (some (bad_contour t) (contour_count t)) refl e
  where
    first : ◌≡◌ {A = Checked} (refused WrongTable 0) (Err r) → r.place ≤ max_links
    first q = let z : ◌≡◌ {A = ℕ} 0 r.place = cc in omega arith

    lowest_one : point_count t ≤ max_links → NoneBelow (bad_contour t) (lowest (bad_contour t) (contour_count t))
        → ◌≡◌ {A = Checked} (refused WrongTable (lowest (bad_contour t) (contour_count t))) (Err r) → r.place ≤ max_links
    lowest_one k o q =
        let z : lowest (bad_contour t) (contour_count t) ≡ r.place = cc in
        omega (arith, few_before t (lowest (bad_contour t) (contour_count t)) o (lowest (bad_contour t) (contour_count t)) (omega arith) k)

    none : no_fault ≡ Err r → r.place ≤ max_links
    none q = let z : ◌≡◌ {A = ℕ} 0 1 = cc in omega arith

    go : (b : Bool) → misfit (length t.points) (length t.first) (length t.len) (length t.kind) owners || unended t ≡ b → (d : Bool)
        → some (bad_contour t) (contour_count t) ≡ d
        → pick b (refused WrongTable 0) (pick d (refused WrongTable (lowest (bad_contour t) (contour_count t))) no_fault) ≡ Err r → r.place ≤ max_links
    go true f d h q = first q
    go false f true h q =
        lowest_one ((fitting (length t.points) (length t.first) (length t.len) (length t.kind) owners).to (or_false _ _ f).0).0.1
        (some_of (bad_contour t) (contour_count t) h).lowest_one q
    go false f false h q = none q

anchors_place : (t : Table) (cw : Bool) (r : Refusal) → contour_count t ≤ max_links → anchors_checked t cw ≡ Err r → r.place ≤ max_links
unfolding anchors_checked
anchors_place t cw r k e = go (some (bad_anchor t cw) (contour_count t)) refl e
  where
    at : lowest (bad_anchor t cw) (contour_count t) < contour_count t
        → ◌≡◌ {A = Checked} (refused WrongAnchor (lowest (bad_anchor t cw) (contour_count t))) (Err r) → r.place ≤ max_links
    at l q = let z : lowest (bad_anchor t cw) (contour_count t) ≡ r.place = cc in omega arith

    none : no_fault ≡ Err r → r.place ≤ max_links
    none q = let z : ◌≡◌ {A = ℕ} 0 1 = cc in omega arith

    go : (b : Bool) → some (bad_anchor t cw) (contour_count t) ≡ b → pick b (refused WrongAnchor (lowest (bad_anchor t cw) (contour_count t))) no_fault ≡ Err r
        → r.place ≤ max_links
    go true h q = at (some_of (bad_anchor t cw) (contour_count t) h).within q
    go false h q = none q

checks_place : (t : Table) (owners : ℕ) (cw : Bool) (r : Refusal) → both_checked t owners cw ≡ Err r → r.place ≤ max_links
checks_place t owners cw r e = go (table_checked t owners) refl e
  where
    same : (s : Refusal) → table_checked t owners ≡ Err s → ◌≡◌ {A = Checked} (Err s) (Err r) → r.place ≤ max_links
    same s f g = let z : s.place ≡ r.place = cc in omega (arith, table_place t owners s f)

    go : (k : Checked) → table_checked t owners ≡ k → followed_by k (anchors_checked t cw) ≡ Err r → r.place ≤ max_links
    go (Ok u) f g = anchors_place t cw r (omega (arith, contours_few t ((passes_sound t owners).to f).0)) g
    go (Err s) f g = same s f g

-- the holes in binding's order are contours
order_below : (t : Table) (cw : Bool) (i : ℕ) → i < length (binding_order t cw) → get_or (binding_order t cw) i 0 < contour_count t
order_below t cw i l =
    entries (λ k. k < contour_count t) (precedes t cw) (hole t) (length (holes t)) (holes_rising t (contour_count t)).below i
    (rw (sorted_length (precedes t cw) (hole t) (length (holes t))) at l)

-- the hole that finds no parent is one of those gone through
stuck_below : (under : ℕ → ℕ) (n : ℕ) (l own : List ℕ) (r : Refusal) → ((i : ℕ) → i < length l → get_or l i 0 < n)
    → (give_each under l own).answer ≡ Err r → r.place < n
unfolding give_each
stuck_below under n [] own r h e = let z : ◌≡◌ {A = ℕ} 0 1 = cc in omega arith
stuck_below under n (c ∷ l) own r h e =
    go (eqb (given (under c) own) dropped_owner) e (stuck_below under n l (set own c (given (under c) own)) r (λ i k. h (suc i) (omega arith)))
  where
    rest : Owned
    rest = give_each under l (set own c (given (under c) own))

    go : (b : Bool) → (pick b (owned (refused NoParent c) own) rest).answer ≡ Err r → (rest.answer ≡ Err r → r.place < n) → r.place < n
    go true q k = let z : c ≡ r.place = cc in omega (arith, h 0 (omega arith))
    go false q k = k q

owners_place : (t : Table) (cw : Bool) (r : Refusal) → contour_count t ≤ max_links → (owners_of t cw).answer ≡ Err r → r.place ≤ max_links
unfolding owners_of
owners_place t cw r k e = go (eqb (hull_count t) 0) (eqb (hull_count t) 1) e
  where
    none : no_fault ≡ Err r → r.place ≤ max_links
    none q = let z : ◌≡◌ {A = ℕ} 0 1 = cc in omega arith

    go : (a b : Bool) → (pick a (owned no_fault (replicate (contour_count t) dropped_owner))
        (pick b (owned no_fault (replicate (contour_count t) 0)) (searched_owners t cw))).answer ≡ Err r → r.place ≤ max_links
    go true b q = none q
    go false true q = none q
    go false false q =
        omega (
          arith,
          stuck_below (contour_below t cw) (contour_count t) (binding_order t cw) (tabulate (first_owner t.kind) (contour_count t)) r (order_below t cw) q,
        )

place_few : (t : Table) (cw : Bool) (buffer : List ℕ) (r : Refusal) → (bound t cw buffer).answer ≡ Err r → r.place ≤ max_links
place_few t cw buffer r e = checked (both_checked t (length buffer) cw) refl e
  where
    found : contour_count t ≤ max_links → (a : Checked) → (owners_of t cw).answer ≡ a
        → (handed_by t a (owners_of t cw).owners buffer).answer ≡ Err r → r.place ≤ max_links
    found k (Ok u) f q = let z : ◌≡◌ {A = ℕ} 0 1 = cc in omega arith
    found k (Err s) f q = let z : s.place ≡ r.place = cc in omega (arith, owners_place t cw s k f)

    checked : (a : Checked) → both_checked t (length buffer) cw ≡ a → (bound_after a t cw buffer).answer ≡ Err r → r.place ≤ max_links
    checked (Ok u) f q = found (omega (arith, contours_few t (checks t (length buffer) cw f).sound)) (owners_of t cw).answer refl q
    checked (Err s) f q = let z : s.place ≡ r.place = cc in omega (arith, checks_place t (length buffer) cw s f)

-- so the place of what binding answers fits
pub place_fits : (t : Table) (cw : Bool) (buffer owner : List ℕ) (a : Result Bound Refusal) → outcome a owner ≡ bound t cw buffer
    → IfErr a (λ r. r.place < 2 ^ 32)
place_fits t cw buffer owner (Ok b) e = tt
place_fits t cw buffer owner (Err r) e = omega (arith, place_few t cw buffer r (sym (ap (λ (o : Outcome). o.answer) e)))
