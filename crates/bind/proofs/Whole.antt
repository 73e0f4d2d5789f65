-- The parts joined: the checks, what the search hands on, and the outcome.
use Rattle.std.specs.Prelude.{Result, Ok, Err}
use Prim.Native.Nat.{ℕ, ◌≤◌}
use mathlib.Core.Path.{◌≡◌, refl, sym, ap, ◌∙◌, subst}
use mathlib.Core.Bool.{Bool}
use mathlib.Core.List.{List}
use native.Mathlib.Omega.{arith}
use lib.ListN.{length, take, replicate}
use lib.Seq.{take_all}
use borrow.Author.Tests.{ne_eqb}
use Rattle.laws.specs.Lists.{over_front}
use Rattle.turn.specs.Refusals.{followed_by, Checked, no_fault}
use Rattle.turn.specs.declared.Refusal.{Refusal}
use Rattle.table.specs.Table.{Table, contour_count, hulls, hull_count, dropped_owner}
use Rattle.table.specs.TableChecks.{table_checked}
use Rattle.table.specs.Sound.{Sound}
use Rattle.table.specs.Passing.{passes_sound}
use Rattle.anchor.specs.AnchorChecks.{anchors_checked, both_checked}
use Rattle.anchor.specs.Anchored.{Anchored}
use Rattle.anchor.specs.Anchoring.{passes_anchored}
use Rattle.owners.specs.Owners.{Owned, owned, searched_owners, owners_of}
use Rattle.deliver.specs.Delivery.{delivered}
use Rattle.bind.specs.declared.Bound.{Bound}
use Rattle.bind.specs.Outcome.{dropped_of, bound_to, Outcome, outcome, handed, bound_after, bound}

-- ---- the ways out of `bind_sound`
pub hull_count_lem : (t : Table) → Sound t → (k : ℕ) → k ≡ hulls (take (contour_count t) t.kind) → hull_count t ≡ k
hull_count_lem t s k e = sym (e ∙ ap hulls (take_all (contour_count t) t.kind (omega (arith, s.kind_long))))

abbrev told_by : Table → Checked → List ℕ → Outcome
told_by t (Ok u) owners = outcome (bound_to (hull_count t) (dropped_of t)) owners
told_by t (Err r) owners = outcome (Err r) owners

told : (t : Table) (r : Checked) (owners buffer : List ℕ) → handed t (owned r owners) buffer ≡ told_by t (delivered (owned r owners) buffer).answer
    (delivered (owned r owners) buffer).owners
told t (Ok u) owners buffer = refl
told t (Err r) owners buffer = refl

module _ (t : Table) (cw : Bool) (buffer new : List ℕ) where
  no_hull_lem : hull_count t ≡ 0 → owners_of t cw ≡ owned no_fault (replicate (contour_count t) dropped_owner)
  unfolding owners_of
  no_hull_lem h = rw h

  one_hull_lem : hull_count t ≡ 1 → owners_of t cw ≡ owned no_fault (replicate (contour_count t) 0)
  unfolding owners_of
  one_hull_lem h = rw h

  pub bound_none : hull_count t ≡ 0 → new ≡ over_front (replicate (contour_count t) dropped_owner) buffer → outcome (bound_to 0 (contour_count t)) new
      ≡ handed t (owners_of t cw) buffer
  bound_none h w = subst (λ (o : Owned). outcome (bound_to 0 (contour_count t)) new ≡ handed t o buffer) (sym (no_hull_lem h)) (rw (h, w))

  pub bound_one : hull_count t ≡ 1 → new ≡ over_front (replicate (contour_count t) 0) buffer → outcome (bound_to 1 0) new ≡ handed t (owners_of t cw) buffer
  bound_one h w = subst (λ (o : Owned). outcome (bound_to 1 0) new ≡ handed t o buffer) (sym (one_hull_lem h)) (rw (h, w))

  module _ (k : ℕ) (h : hull_count t ≡ k) (z : k ≡ 0 → ⊥) (o : k ≡ 1 → ⊥) (r : Checked) (e : owned r new ≡ delivered (searched_owners t cw) buffer) where
    owners_searched : owners_of t cw ≡ searched_owners t cw
    unfolding owners_of
    owners_searched = rw (h, ne_eqb k 0 z, ne_eqb k 1 o)

    answered : handed t (owners_of t cw) buffer ≡ told_by t r new
    answered =
        ap (λ (w : Owned). handed t w buffer) owners_searched
        ∙ told t (searched_owners t cw).answer (searched_owners t cw).owners buffer
        ∙ ap (λ (w : Owned). told_by t w.answer w.owners) (sym e)

    pub bound_all : r ≡ no_fault → outcome (bound_to k 0) new ≡ handed t (owners_of t cw) buffer
    bound_all q = sym (answered ∙ rw (q, h, ne_eqb k 0 z))

    pub bound_stuck : (q : Refusal) → r ≡ Err q → (a : Result Bound Refusal) → a ≡ Err q → outcome a new ≡ handed t (owners_of t cw) buffer
    bound_stuck q f a g = rw g (sym (answered ∙ rw f))

-- ---- the ways out of `bind`
pub record Checks (t : Table) (owners : ℕ) (cw : Bool) : Type 0 where
  pub sound : Sound t
  pub anchored : Anchored t cw
  pub room : contour_count t ≤ owners

never : {r : Refusal} → Err r ≡ no_fault → ⊥
never e = let z : ◌≡◌ {A = ℕ} 0 1 = cc in omega arith

pub checks : (t : Table) (owners : ℕ) (cw : Bool) → both_checked t owners cw ≡ no_fault → Checks t owners cw
checks t owners cw e = go (table_checked t owners) refl e
  where
    go : (r : Checked) → table_checked t owners ≡ r → followed_by r (anchors_checked t cw) ≡ no_fault → Checks t owners cw
    go (Ok u) q f =
        let p = (passes_sound t owners).to q in
        record { sound = p.0; anchored = (passes_anchored t cw).to f; room = p.1 }
    go (Err r) q f = absurd (never f)

pub bound_fine : (t : Table) (cw : Bool) (buffer : List ℕ) (o : Outcome) → both_checked t (length buffer) cw ≡ no_fault → o
    ≡ handed t (owners_of t cw) buffer → o ≡ bound t cw buffer
bound_fine t cw buffer o e q = q ∙ ap (λ (r : Checked). bound_after r t cw buffer) (sym e)

pub bound_at : (t : Table) (cw : Bool) (buffer : List ℕ) (r : Refusal) → both_checked t (length buffer) cw ≡ Err r → (a : Result Bound Refusal) → a ≡ Err r
    → outcome a buffer ≡ bound t cw buffer
bound_at t cw buffer r e a f = ap (λ (x : Result Bound Refusal). outcome x buffer) f ∙ ap (λ (k : Checked). bound_after k t cw buffer) (sym e)
