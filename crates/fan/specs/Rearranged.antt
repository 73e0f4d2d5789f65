-- A list and the same list in another order: each number stands in it as often.
use Rattle.std.specs.Prelude.{ℕ, zero, suc, ◌+◌, ◌≤◌, ◌<◌, ◌≡◌, refl, eqb, length, get_or, set, take}
use Rattle.std.proofs.Common.{not-suc-le-zero, le_of_suc-le-suc, arith, sym, ◌∙◌, subst, length-set, get_or-set_same, get_or-set_other, eq-eqb}
use Rattle.std.proofs.Math.Decide.{ℕ_discrete}
use mathlib.Core.List.{List, [], ◌∷◌, Memᴰ}
use Rattle.laws.specs.Test.{pick}
use Rattle.laws.specs.Count.{count, count_more, count_most, counted_in}
use Rattle.laws.specs.Lists.{Place, place_of, member}

-- m is l in some order
pub record Rearranged (l m : List ℕ) : Type 0 where
  pub len : length m ≡ length l
  pub counts : (x : ℕ) → count x m ≡ count x l

pub unmoved : (l : List ℕ) → Rearranged l l
unmoved l = record { len = refl; counts = λ x. refl }

pub moved_twice : {l m k : List ℕ} → Rearranged l m → Rearranged m k → Rearranged l k
moved_twice r s = record { len = s.len ∙ r.len; counts = λ x. s.counts x ∙ r.counts x }

pub moved_back : {l m : List ℕ} → Rearranged l m → Rearranged m l
moved_back r = record { len = sym r.len; counts = λ x. sym (r.counts x) }

-- ---- two numbers change places
-- a store at i takes away what stood there, and adds what is stored
count_set : (x y : ℕ) (l : List ℕ) (i : ℕ) → i < length l → count x (set l i y) + pick (eqb (get_or l i 0) x) 1 0 ≡ count x l + pick (eqb y x) 1 0
unfolding count
count_set x y [] i h = absurd (not-suc-le-zero h)
count_set x y (z ∷ l) zero h = omega arith
count_set x y (z ∷ l) (suc i) h = omega (arith, count_set x y l i (le_of_suc-le-suc h))

module _ (l : List ℕ) (i j : ℕ) (h : i < length l) (k : j < length l) where
  abbrev x : ℕ
  x = get_or l i 0

  abbrev y : ℕ
  y = get_or l j 0

  there : Dec (j ≡ i) → get_or (set l i y) j 0 ≡ y
  there (yes e) = rw e (get_or-set_same l i (get_or l i 0) 0 h)
  there (no n) = get_or-set_other l i j y 0 n

  same : (z : ℕ) → count z (set (set l i y) j x) ≡ count z l
  same z =
      let p = count_set z y l i h in
      let q = count_set z x (set l i y) j (rw (length-set l i y) k) in
      omega (arith, p, rw (there (ℕ_discrete j i)) at q)

  pub swapped : Rearranged l (set (set l i y) j x)
  swapped = record { len = length-set (set l i y) j x ∙ length-set l i y; counts = same }

-- ---- each number of the one stands in the other
-- one that stands in a list is counted
counts_there : (x : ℕ) (l : List ℕ) (i : ℕ) → i < length l → get_or l i 0 ≡ x → 1 ≤ count x l
counts_there x l i h e =
    let m : count x (take (i + 1) l) ≡ count x (take i l) + 1 = count_more x l i h ∙ rw (eq-eqb (get_or l i 0) x e) in
    omega (arith, m, count_most x (i + 1) l)

module _ {l m : List ℕ} (r : Rearranged l m) where
  pub member_before : {x : ℕ} → Memᴰ x m → Memᴰ x l
  member_before {x} k =
      let p = place_of 0 m k in
      counted_in x l (omega (arith, r.counts x, counts_there x m p.place p.within p.here))

  -- what holds at every place of l holds at every place of m
  pub place_before : (i : ℕ) → i < length m → Place 0 (get_or m i 0) l
  place_before i h = place_of 0 l (member_before (member 0 m i h))

  pub each_before : (P : ℕ → Type 0) → ((i : ℕ) → i < length l → P (get_or l i 0)) → (i : ℕ) → i < length m → P (get_or m i 0)
  each_before P p i h = let q = place_before i h in subst P q.here (p q.place q.within)
