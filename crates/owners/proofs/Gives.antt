-- Giving owners hole by hole: the code's lists and the definition's.
use Prim.Native.Nat.{ℕ, suc, ◌+◌, ◌≤◌, ◌<◌}
use mathlib.Core.Path.{◌≡◌, refl, sym, ap, ◌∙◌}
use mathlib.Core.List.{List, [], ◌∷◌}
use native.Mathlib.Omega.{arith}
use native.Mathlib.Numerals.{add-one}
use lib.ListN.{length, get_or, set, drop, drop_of_length-le}
use lib.Seq.{drop-cons}
use borrow.Author.Tests.{eq-eqb, ne_eqb}
use Rattle.table.specs.Table.{dropped_owner}
use Rattle.owners.specs.Owners.{Owned, owned, given, give_each}
use Rattle.owners.specs.Giving.{give_listed}
use Rattle.turn.specs.Refusals.{refused, no_fault}
use Rattle.turn.specs.declared.Reason.TheVariants.{NoParent}

-- ---- the loop of `give_owners`
module _ (who under order own : List ℕ) (i : ℕ) where
  abbrev from_here : Owned
  from_here = give_listed who under (drop i order) own

  pub give_end : length order ≤ i → owned no_fault own ≡ from_here
  unfolding give_listed
  give_end h = rw (drop_of_length-le order h)

  module _ (h : i < length order) (p : ℕ) (e : p ≡ given (get_or under (get_or order i 0) 0) own) where
    abbrev hole : ℕ
    hole = get_or who (get_or order i 0) 0

    next : drop i order ≡ get_or order i 0 ∷ drop (suc i) order
    next = drop-cons order i 0 h

    pub give_stuck : p ≡ dropped_owner → owned (refused NoParent hole) own ≡ from_here
    unfolding give_listed
    give_stuck z = rw (next, ← e, eq-eqb _ _ z)

    pub give_more : (p ≡ dropped_owner → ⊥) → give_listed who under (drop (i + 1) order) (set own hole p) ≡ from_here
    unfolding give_listed
    give_more z = rw (next, ← e, ne_eqb _ _ z, add-one i)

-- ---- the definition goes over contours, the code over places among the holes
module _ (below hole : ℕ → ℕ) (who under : List ℕ) (m : ℕ) (who_is : (j : ℕ) → j < m → get_or who j 0 ≡ hole j)
    (under_is : (j : ℕ) → j < m → get_or under j 0 ≡ below (hole j)) where
  pub give_same : (l l' own : List ℕ) → length l ≡ length l' → ((i : ℕ) → i < length l' → get_or l i 0 ≡ hole (get_or l' i 0))
      → ((i : ℕ) → i < length l' → get_or l' i 0 < m)
      → give_listed who under l' own ≡ give_each below l own
  unfolding give_listed give_each
  give_same [] [] own e s b = refl
  give_same [] (j ∷ l') own e s b = absurd (none e)
    where
      none : 0 ≡ suc (length l') → ⊥
      none e = omega arith
  give_same (c ∷ l) [] own e s b = absurd (none e)
    where
      none : suc (length l) ≡ 0 → ⊥
      none e = omega arith
  give_same (c ∷ l) (j ∷ l') own e s b =
      let k : j < m = b 0 (omega arith) in
      let w : get_or who j 0 ≡ c = who_is j k ∙ sym (s 0 (omega arith)) in
      let u : get_or under j 0 ≡ below c = under_is j k ∙ ap below (sym (s 0 (omega arith))) in
      let rest = give_same l l' (set own c (given (below c) own)) (omega arith) (λ i n. s (suc i) (omega arith)) (λ i n. b (suc i) (omega arith)) in
      rw (w, u, rest)
