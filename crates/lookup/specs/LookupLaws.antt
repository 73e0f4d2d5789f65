-- A lookup finds a contour exactly when document 01 says, and what it finds has the table's values.
use Rattle.std.specs.Prelude.{ℕ, zero, suc, ◌≤◌, ◌<◌, ◌≡◌, Bool, ◌&&◌, List, eqb, ltb, length, get_or, Option, Some, None}
use Rattle.std.proofs.Common.{arith, sym, ◌∙◌, eq-eqb, ne_eqb, eqb-true, ltb-true, lt-ltb}
use Rattle.std.proofs.Math.Decide.{ℕ_discrete}
use Rattle.std.proofs.Math.Path.{refl}
use Rattle.std.proofs.Math.Bool.{true, false}
use Rattle.laws.specs.Test.{pick}
use Rattle.laws.specs.Fails.{Iff}
use Rattle.turn.specs.Refusals.{is_fine, fine_is, no_fault}
use Rattle.table.specs.Table.{Table, contour_count, first_of, len_of, kind_of, hull_count, shape_of, dropped_owner}
use Rattle.table.specs.TableChecks.{table_checked}
use Rattle.lookup.specs.declared.records.Role.TheVariants.{Hull, Hole, Dropped}
use Rattle.lookup.specs.declared.records.ContourRecord.{ContourRecord}
use Rattle.lookup.specs.Lookups.{owner_right, role_of, record_of, record_if_right, looked_up, role_kind, role_number, role_owner}
use Rattle.lookup.specs.Lookups.{no_values, values_of_lookup, role_number_in, values_if_right, looked_up_values}

abbrev right : Table → List ℕ → ℕ → Bool
right t owner c = owner_right (kind_of t c) (get_or owner c 0) (shape_of t c) (hull_count t)

-- the number is below the count, the table passes check 10, and the owner is right
pub record Present (t : Table) (owner : List ℕ) (c : ℕ) : Type 0 where
  pub below : c < contour_count t
  pub passes : table_checked t (length owner) ≡ no_fault
  pub owned : owner_right (kind_of t c) (get_or owner c 0) (shape_of t c) (hull_count t) ≡ true

-- by the three tests
abbrev ways : Bool → Bool → Bool → ContourRecord → Option ContourRecord
ways b f o r = pick (b && f) (pick o (Some r) None) None

never : (r s : ContourRecord) → ◌≡◌ {A = Option ContourRecord} None (Some s) → ⊥
never r s e = let z : ◌≡◌ {A = ℕ} 0 1 = cc in omega arith

found_ways : (b f o : Bool) (r s : ContourRecord) → ways b f o r ≡ Some s → ((b ≡ true) × (f ≡ true)) × (o ≡ true)
found_ways true true true r s e = ((refl, refl), refl)
found_ways true true false r s e = absurd (never r s e)
found_ways true false o r s e = absurd (never r s e)
found_ways false f o r s e = absurd (never r s e)

-- whatever is found is the contour's record, and it is found exactly where the contour is present
pub found_record_lem : (t : Table) (owner : List ℕ) (c : ℕ) → Present t owner c → looked_up t owner c ≡ Some (record_of t owner c)
unfolding looked_up
found_record_lem t owner c p = rw (lt-ltb c (contour_count t) p.below, p.passes, p.owned)

pub found_present : (t : Table) (owner : List ℕ) (c : ℕ) (r : ContourRecord) → looked_up t owner c ≡ Some r → Present t owner c
unfolding looked_up
found_present t owner c r e =
    let w = found_ways (ltb c (contour_count t)) (is_fine (table_checked t (length owner))) (right t owner c) (record_of t owner c) r e in
    record { below = ltb-true c (contour_count t) w.0.0; passes = fine_is (table_checked t (length owner)) w.0.1; owned = w.1 }

-- and "none" is answered exactly where it is not
pub missing_absent : (t : Table) (owner : List ℕ) (c : ℕ) → Iff (looked_up t owner c ≡ None) (Present t owner c → ⊥)
missing_absent t owner c =
    record { to = λ e p. never (record_of t owner c) (record_of t owner c) (sym e ∙ found_record_lem t owner c p); from = λ n. go (looked_up t owner c) refl n }
  where
    go : (a : Option ContourRecord) → looked_up t owner c ≡ a → (Present t owner c → ⊥) → a ≡ None
    go (Some r) e n = absurd (n (found_present t owner c r e))
    go None e n = refl

-- ---- a role has the kind and the owner that the table has
module _ (owner shape hulls : ℕ) where
  pub role_values : (kind : ℕ) → kind ≤ 1 → owner_right kind owner shape hulls ≡ true → (role_kind (role_of kind owner hulls) ≡ kind)
      × (role_owner (role_of kind owner hulls) ≡ owner)
  role_values zero l e = (refl, refl)
  role_values (suc kind) l e =
      let z : kind ≡ 0 = omega arith in
      rw z (go (ℕ_discrete hulls 0) (rw z at e))
    where
      go : Dec (hulls ≡ 0) → pick (eqb hulls 0) (eqb owner dropped_owner) (ltb owner hulls) ≡ true → (role_kind (role_of 1 owner hulls) ≡ 1)
          × (role_owner (role_of 1 owner hulls) ≡ owner)
      go (yes q) e = let w = eq-eqb hulls 0 q in rw w (refl, sym (eqb-true owner dropped_owner (rw w at e)))
      go (no q) e = let w = ne_eqb hulls 0 q in rw w (refl, refl)

-- ---- what is answered has the values that are read off the table and the owners
role_number_lem : (kind owner hulls : ℕ) → role_number (role_of kind owner hulls) ≡ role_number_in kind hulls
role_number_lem kind owner hulls = go (eqb kind 0) (eqb hulls 0)
  where
    go : (b n : Bool) → role_number (pick b (Hull owner) (pick n Dropped (Hole owner))) ≡ pick b 0 (pick n 2 1)
    go true n = refl
    go false true = refl
    go false false = refl

role_owner_lem : (kind owner shape hulls : ℕ) → owner_right kind owner shape hulls ≡ true → role_owner (role_of kind owner hulls) ≡ owner
role_owner_lem kind owner shape hulls = go (eqb kind 0) (eqb hulls 0)
  where
    go : (b n : Bool) → pick b (eqb owner shape) (pick n (eqb owner dropped_owner) (ltb owner hulls)) ≡ true
        → role_owner (pick b (Hull owner) (pick n Dropped (Hole owner))) ≡ owner
    go true n e = refl
    go false true e = sym (eqb-true owner dropped_owner e)
    go false false e = refl

module _ (t : Table) (owner : List ℕ) (c : ℕ) where
  values_right : values_of_lookup (record_if_right t owner c) ≡ values_if_right t owner c
  values_right = go (right t owner c) refl
    where
      go : (b : Bool) → right t owner c ≡ b → values_of_lookup (pick b (Some (record_of t owner c)) None) ≡ pick b
          (record { found = 1; role = role_number_in (kind_of t c) (hull_count t); owner = get_or owner c 0; first = first_of t c; len = len_of t c }) no_values
      go true e =
          rw (role_number_lem (kind_of t c) (get_or owner c 0) (hull_count t), role_owner_lem (kind_of t c) (get_or owner c 0) (shape_of t c) (hull_count t) e)
      go false e = refl

  pub looked_up_values_lem : values_of_lookup (looked_up t owner c) ≡ looked_up_values t owner c
  unfolding looked_up looked_up_values
  looked_up_values_lem = go (ltb c (contour_count t) && is_fine (table_checked t (length owner)))
    where
      go : (b : Bool) → values_of_lookup (pick b (record_if_right t owner c) None) ≡ pick b (values_if_right t owner c) no_values
      go true = values_right
      go false = refl
