-- Every owner that binding gives is below the hull count.
use Rattle.std.specs.Prelude.{ℕ, zero, suc, ◌+◌, ◌-◌, ◌≤◌, ◌<◌, ◌⊎◌, Bool, true, false, eqb, length, set, take}
use Rattle.std.proofs.Math.Path.{◌≡◌, refl, ap}
use Rattle.std.proofs.Common.{◌∙◌, subst, inl, inr, not-suc-le-zero, eq-eqb, ne_eqb, eqb-true, lt-ltb, get_or-set_same, get_or-set_other}
use mathlib.Core.List.{List, [], ◌∷◌}
use native.Mathlib.Omega.{arith}
use Rattle.std.proofs.Math.Decide.{dec_le, ℕ_discrete}
use Rattle.std.proofs.Math.ListN.{get_or, replicate, get_or-replicate, get_or-eq_default}
use Rattle.std.proofs.Math.Seq.{set_out}
use Rattle.laws.specs.Test.{pick, true≢false}
use Rattle.laws.specs.Count.{count, count_more, count_most, counted_in}
use Rattle.laws.specs.Lists.{tabulate, tabulate_at, tabulate_past, Place, place_of}
use Rattle.table.specs.Table.{Table, contour_count, kind_of, hulls, hull_count, dropped_owner}
use Rattle.table.specs.Sound.{Sound}
use Rattle.order.specs.HoleOrder.{binding_order}
use Rattle.order.specs.OrderLaws.{each_once}
use Rattle.owners.specs.Owners.{Owned, owned, given, first_owner, give_each, contour_below, searched_owners, owners_of}
use Rattle.turn.specs.Refusals.{Checked, refused, no_fault}
use Rattle.turn.specs.declared.Reason.TheVariants.{NoParent}

-- ---- giving keeps owners below a bound
module _ (under : ℕ → ℕ) (n : ℕ) (some : 0 < n) where
  -- below the bound, or none
  abbrev Held : List ℕ → Type 0
  Held l = (c : ℕ) → (get_or l c 0 < n) ⊎ (get_or l c 0 ≡ dropped_owner)

  parent_held : (u : ℕ) (l : List ℕ) → Held l → (given u l ≡ dropped_owner → ⊥) → given u l < n
  parent_held u l h e = go (eqb u 0) refl
    where
      at : (get_or l (u - 1) 0 < n) ⊎ (get_or l (u - 1) 0 ≡ dropped_owner) → eqb u 0 ≡ false → given u l < n
      at (inl k) f = rw f k
      at (inr k) f = absurd (e (rw f k))

      go : (b : Bool) → eqb u 0 ≡ b → given u l < n
      go true f = absurd (e (rw f))
      go false f = at (h (u - 1)) f

  -- an owner stored, of which it is known that it is below
  module _ (l : List ℕ) (c v : ℕ) (b : v < n) where
    stored : (d : ℕ) → get_or l d 0 < n → get_or (set l c v) d 0 < n
    stored d h = go (ℕ_discrete d c) (dec_le (suc c) (length l))
      where
        go : Dec (d ≡ c) → Dec (c < length l) → get_or (set l c v) d 0 < n
        go (yes e) (yes k) = rw (e, get_or-set_same l c v 0 k) b
        go (yes e) (no k) = let m : length l ≤ c = omega arith in rw (set_out l c v m) h
        go (no e) k = rw (get_or-set_other l c d v 0 e) h

    held_on : Held l → Held (set l c v)
    held_on h d = go (ℕ_discrete d c) (dec_le (suc c) (length l))
      where
        go : Dec (d ≡ c) → Dec (c < length l) → (get_or (set l c v) d 0 < n) ⊎ (get_or (set l c v) d 0 ≡ dropped_owner)
        go (yes e) (yes k) = inl (rw (e, get_or-set_same l c v 0 k) b)
        go (yes e) (no k) = let m : length l ≤ c = omega arith in rw (set_out l c v m) (h d)
        go (no e) k = rw (get_or-set_other l c d v 0 e) (h d)

    new : get_or (set l c v) c 0 < n
    new = go (dec_le (suc c) (length l))
      where
        go : Dec (c < length l) → get_or (set l c v) c 0 < n
        go (yes k) = rw (get_or-set_same l c v 0 k) b
        go (no k) = let m : length l ≤ c = omega arith in rw (set_out l c v m, get_or-eq_default l 0 m) some

  -- what all holes' parents found leaves below the bound: what was, and the holes gone through
  record Below (l old new' : List ℕ) : Type 0 where
    kept : (d : ℕ) → get_or old d 0 < n → get_or new' d 0 < n
    gone : (i : ℕ) → i < length l → get_or new' (get_or l i 0) 0 < n

  split : {x y : List ℕ} {r q : Checked} → owned r x ≡ owned q y → (r ≡ q) × (x ≡ y)
  split e = (ap (λ (w : Owned). w.answer) e, ap (λ (w : Owned). w.owners) e)

  all_given : (l old new' : List ℕ) → Held old → give_each under l old ≡ owned no_fault new' → Below l old new'
  unfolding give_each
  all_given [] old new' h e = let q = split e in record { kept = λ d k. rw (← q.1) k; gone = λ i k. absurd (not-suc-le-zero k) }
  all_given (c ∷ l) old new' h e = go (eqb (given (under c) old) dropped_owner) refl e (λ k. all_given l (set old c (given (under c) old)) new' k)
    where
      stuck : owned (refused NoParent c) old ≡ owned no_fault new' → ⊥
      stuck q = let z : refused NoParent c ≡ no_fault = (split q).0 in let w : ◌≡◌ {A = ℕ} 0 1 = cc in omega arith

      joined : given (under c) old < n → Below l (set old c (given (under c) old)) new' → Below (c ∷ l) old new'
      joined b r = record { kept = λ d k. r.kept d (stored old c (given (under c) old) b d k); gone = at }
        where
          at : (i : ℕ) → i < suc (length l) → get_or new' (get_or (c ∷ l) i 0) 0 < n
          at zero k = r.kept c (new old c (given (under c) old) b)
          at (suc i) k = r.gone i (omega arith)

      go : (b : Bool) → eqb (given (under c) old) dropped_owner ≡ b
          → pick b (owned (refused NoParent c) old) (give_each under l (set old c (given (under c) old)))
          ≡ owned no_fault new'
          → (Held (set old c (given (under c) old)) → give_each under l (set old c (given (under c) old)) ≡ owned no_fault new'
          → Below l (set old c (given (under c) old)) new') → Below (c ∷ l) old new'
      go true f q r = absurd (stuck q)
      go false f q r =
          let b = parent_held (under c) old h (λ z. true≢false (eq-eqb _ _ z) f) in
          joined b (r (held_on old c (given (under c) old) b h) q)

-- ---- the first owners
pub hull_below : (kinds : List ℕ) (c : ℕ) → c < length kinds → get_or kinds c 0 ≡ 0 → first_owner kinds c < hulls kinds
hull_below kinds c l e =
    let m : hulls (take (c + 1) kinds) ≡ hulls (take c kinds) + 1 = count_more 0 kinds c l ∙ rw (eq-eqb _ _ e) in
    rw (eq-eqb _ _ e) (omega (arith, m, count_most 0 (c + 1) kinds))

hole_none : (kinds : List ℕ) (c : ℕ) → (get_or kinds c 0 ≡ 0 → ⊥) → first_owner kinds c ≡ dropped_owner
hole_none kinds c e = rw (ne_eqb _ _ e)

module _ (t : Table) (s : Sound t) (some : 0 < hull_count t) where
  first_held : Held (λ k. k) (hull_count t) some (tabulate (first_owner t.kind) (contour_count t))
  first_held c = go (dec_le (suc c) (contour_count t)) (ℕ_discrete (kind_of t c) 0)
    where
      go : Dec (c < contour_count t) → Dec (kind_of t c ≡ 0) → (get_or (tabulate (first_owner t.kind) (contour_count t)) c 0 < hull_count t) ⊎
          (get_or (tabulate (first_owner t.kind) (contour_count t)) c 0 ≡ dropped_owner)
      go (yes h) (yes k) = inl (rw (tabulate_at 0 (first_owner t.kind) (contour_count t) c h) (hull_below t.kind c (omega (arith, s.kind_long)) k))
      go (yes h) (no k) = inr (tabulate_at 0 (first_owner t.kind) (contour_count t) c h ∙ hole_none t.kind c k)
      go (no h) k = inl (rw (tabulate_past 0 (first_owner t.kind) (contour_count t) c (omega arith)) some)

  searched_below : (cw : Bool) (l : List ℕ) → searched_owners t cw ≡ owned no_fault l → (c : ℕ) → c < contour_count t → get_or l c 0 < hull_count t
  searched_below cw l e c h = go (ℕ_discrete (kind_of t c) 0)
    where
      r : Below (contour_below t cw) (hull_count t) some (binding_order t cw) (tabulate (first_owner t.kind) (contour_count t)) l
      r = all_given (contour_below t cw) (hull_count t) some (binding_order t cw) (tabulate (first_owner t.kind) (contour_count t)) l first_held e

      hole_at : Place 0 c (binding_order t cw) → get_or l c 0 < hull_count t
      hole_at m = subst (λ (d : ℕ). get_or l d 0 < hull_count t) m.here (r.gone m.place m.within)

      go : Dec (kind_of t c ≡ 0) → get_or l c 0 < hull_count t
      go (yes k) = r.kept c (rw (tabulate_at 0 (first_owner t.kind) (contour_count t) c h) (hull_below t.kind c (omega (arith, s.kind_long)) k))
      go (no k) =
          let i : kind_of t c ≡ 1 = omega (arith, s.kinds c h) in
          let o : count c (binding_order t cw) ≡ 1 = each_once t cw c ∙ rw (lt-ltb c (contour_count t) h, eq-eqb _ _ i) in
          hole_at (place_of 0 (binding_order t cw) (counted_in c (binding_order t cw) (omega arith)))

  -- where binding succeeds and there is a hull
  pub owners_below : (cw : Bool) (l : List ℕ) → owners_of t cw ≡ owned no_fault l → (c : ℕ) → c < contour_count t → get_or l c 0 < hull_count t
  unfolding owners_of
  owners_below cw l e c h = go (eqb (hull_count t) 0) refl (eqb (hull_count t) 1) refl e
    where
      zeros : owned no_fault (replicate (contour_count t) 0) ≡ owned no_fault l → get_or l c 0 < hull_count t
      zeros q = let z : replicate (contour_count t) 0 ≡ l = ap (λ (w : Owned). w.owners) q in rw (← z, get_or-replicate {A = ℕ} (contour_count t) c 0 0 h) some

      none : hull_count t ≡ 0 → ⊥
      none q = omega arith

      go : (a : Bool) → eqb (hull_count t) 0 ≡ a → (b : Bool) → eqb (hull_count t) 1 ≡ b
          → pick a (owned no_fault (replicate (contour_count t) dropped_owner)) (pick b (owned no_fault (replicate (contour_count t) 0)) (searched_owners t cw))
          ≡ owned no_fault l → get_or l c 0 < hull_count t
      go true f b g q = absurd (none (eqb-true _ _ f))
      go false f true g q = zeros q
      go false f false g q = searched_below cw l q c h
