-- Lists in an order: each element stands before all that follow it. Two such lists of the same elements are equal.
use Rattle.std.specs.Prelude.{ℕ, ◌+◌, ◌≤◌, ◌<◌, ◌≡◌, ◌⊎◌, Bool, false, length, get_or}
use native.Mathlib.Omega.{arith}
use Rattle.std.proofs.Math.Decide.{dec_le}
use Rattle.std.proofs.Math.Path.{refl}
use Rattle.std.proofs.Common.{sym, ap₂, ◌∙◌, subst, inl, inr, ⊎_elim, eqb-true}
use mathlib.Core.List.Memᴰ
use mathlib.Core.List.{List, [], ◌∷◌, ◌++◌, reverse, reverse-cons}
use Rattle.std.proofs.Math.Bool.{true}
use Rattle.std.proofs.Math.Dec.{eqb}
use Rattle.laws.specs.Test.{pick}
use Rattle.laws.specs.Lists.{member}
use Rattle.laws.specs.Count.{count, counted_in, counted, sum_less, sum_const}
use Rattle.next.specs.Choice.{Mem}

abbrev pub Order : Type 1
Order = ℕ → ℕ → Type 0

-- x stands before every element of a list
abbrev pub BeforeAll : Order → ℕ → List ℕ → Type 0
BeforeAll R x l = (y : ℕ) → Mem y l → R x y

abbrev pub Sorted : Order → List ℕ → Type 0
Sorted R [] = Unit
Sorted R (x ∷ l) = BeforeAll R x l × Sorted R l

-- ---- two lists, one after the other
module _ (R : Order) where
  pub sorted_append : (s t : List ℕ) → Sorted R s → Sorted R t → ((x : ℕ) → Mem x s → BeforeAll R x t)
      → Sorted R (s ++ t)
  sorted_append [] t p q h = q
  sorted_append (x ∷ s) t p q h = (
    λ y m. ⊎_elim (λ k. p.0 y k) (λ k. h x (Memᴰ.head refl) y k) (Memᴰ.append_cases s m),
    sorted_append s t p.1 q (λ y m. h y (Memᴰ.tail m)),
  )

  pub record Parts (s t : List ℕ) : Type 0 where
    pub left : Sorted R s
    pub right : Sorted R t
    pub between : (x : ℕ) → Mem x s → BeforeAll R x t

  pub sorted_parts : (s t : List ℕ) → Sorted R (s ++ t) → Parts s t
  sorted_parts [] t p = record { left = tt; right = p; between = λ x m. absurd (Memᴰ.not-nil m) }
  sorted_parts (x ∷ s) t p =
      let r = sorted_parts s t p.1 in
      record {
        left = (λ y m. p.0 y (Memᴰ.append_left t m), r.left);
        right = r.right;
        between = λ y m. ⊎_elim (λ (q : y ≡ x). subst (λ z. BeforeAll R z t) (sym q)
            (λ z n. p.0 z (Memᴰ.append_right s n)))
            (λ k. r.between y k) (Memᴰ.cases_cons m);
      }

  -- one more, at its place
  pub sorted_insert : (s t : List ℕ) (q : ℕ) → Sorted R (s ++ t) → ((x : ℕ) → Mem x s → R x q) → BeforeAll R q t
      → Sorted R (s ++ (q ∷ t))
  sorted_insert s t q p hs ht =
      let r = sorted_parts s t p in
      sorted_append s (q ∷ t) r.left (ht, r.right)
      (λ x m y n. ⊎_elim (λ (e : y ≡ q). subst (R x) (sym e) (hs x m)) (λ k. r.between x m y k)
      (Memᴰ.cases_cons n))

-- of two different elements one stands before the other
pub sorted_two : (R : Order) (l : List ℕ) → Sorted R l → (x y : ℕ) → Mem x l → Mem y l → (x ≡ y → ⊥) → R x y ⊎ R y x
sorted_two R [] p x y m n d = absurd (Memᴰ.not-nil m)
sorted_two R (z ∷ l) p x y m n d =
    by (Memᴰ.cases_cons m) (Memᴰ.cases_cons n) (λ i j. sorted_two R l p.1 x y i j d)
  where
    by : (x ≡ z) ⊎ Mem x l → (y ≡ z) ⊎ Mem y l → (Mem x l → Mem y l → R x y ⊎ R y x) → R x y ⊎ R y x
    by (inl e) (inl f) rest = absurd (d (e ∙ sym f))
    by (inl e) (inr j) rest = inl (subst (λ w. R w y) (sym e) (p.0 y j))
    by (inr i) (inl f) rest = inr (subst (λ w. R w x) (sym f) (p.0 x i))
    by (inr i) (inr j) rest = rest i j

-- ---- the order of another
pub sorted_by : (R S : Order) (l : List ℕ) → ((x y : ℕ) → Mem x l → Mem y l → R x y → S x y) → Sorted R l → Sorted S l
sorted_by R S [] h p = tt
sorted_by R S (x ∷ l) h p = (
  λ y m. h x y (Memᴰ.head refl) (Memᴰ.tail m) (p.0 y m),
  sorted_by R S l (λ y z m n. h y z (Memᴰ.tail m) (Memᴰ.tail n)) p.1,
)

-- ---- in reverse
pub of_reverse : {x : ℕ} (l : List ℕ) → Mem x (reverse l) → Mem x l
of_reverse [] m = m
of_reverse {x} (y ∷ l) m =
    ⊎_elim (λ k. Memᴰ.tail (of_reverse l k))
    (λ k. ⊎_elim Memᴰ.head (λ n. absurd (Memᴰ.not-nil n)) (Memᴰ.cases_cons k))
    (Memᴰ.append_cases (reverse l) (subst (Mem x) (reverse-cons y l) m))

pub in_reverse : {x : ℕ} (l : List ℕ) → Mem x l → Mem x (reverse l)
in_reverse [] m = m
in_reverse {x} (y ∷ l) m = subst (Mem x) (sym (reverse-cons y l))
    (⊎_elim (λ q. Memᴰ.append_right (reverse l) (Memᴰ.head q)) (λ k. Memᴰ.append_left (y ∷ []) (in_reverse l k))
    (Memᴰ.cases_cons m))

pub sorted_reverse : (R : Order) (l : List ℕ) → Sorted (λ x y. R y x) l → Sorted R (reverse l)
sorted_reverse R [] p = tt
sorted_reverse R (x ∷ l) p = subst (Sorted R) (sym (reverse-cons x l))
    (sorted_append R (reverse l) (x ∷ []) (sorted_reverse R l p.1) (λ y m. absurd (Memᴰ.not-nil m), tt)
    (λ y m z n. ⊎_elim (λ (q : z ≡ x). subst (R y) (sym q) (p.0 y (of_reverse l m)))
    (λ k. absurd (Memᴰ.not-nil k)) (Memᴰ.cases_cons n)))

-- ---- one list alone has given elements in a given order
abbrev pub Within : List ℕ → List ℕ → Type 0
Within l m = (x : ℕ) → Mem x l → Mem x m

module _ (R : Order) where
  -- no element of the list stands before itself, nor two before one another
  pub record Strict (l : List ℕ) : Type 0 where
    pub irr : (x : ℕ) → Mem x l → R x x → ⊥
    pub asym : (x y : ℕ) → Mem x l → Mem y l → R x y → R y x → ⊥

  shorter : (x : ℕ) (l : List ℕ) → Strict (x ∷ l) → Strict l
  shorter x l s = record {
    irr = λ y m. s.irr y (Memᴰ.tail m);
    asym = λ y z m n. s.asym y z (Memᴰ.tail m) (Memᴰ.tail n);
  }

  heads : (x y : ℕ) (l m : List ℕ) → Strict (x ∷ l) → Sorted R (x ∷ l) → Sorted R (y ∷ m) → Within (x ∷ l) (y ∷ m)
      → Within (y ∷ m) (x ∷ l) → x ≡ y
  heads x y l m s p q f h =
      ⊎_elim (λ e. e) (λ yx. ⊎_elim (λ e. sym e)
      (λ xy. absurd (s.asym x y (Memᴰ.head refl) (Memᴰ.tail xy) (p.0 y xy) (q.0 x yx)))
      (Memᴰ.cases_cons (h y (Memᴰ.head refl)))) (Memᴰ.cases_cons (f x (Memᴰ.head refl)))

  -- what follows the common head
  tails : (x y : ℕ) (l m : List ℕ) → x ≡ y → Strict (x ∷ l) → Sorted R (x ∷ l) → Within (x ∷ l) (y ∷ m) → Within l m
  tails x y l m e s p f z k = ⊎_elim
      (λ (q : z ≡ y). absurd (s.irr x (Memᴰ.head refl) (subst (R x) (q ∙ sym e) (p.0 z k))))
      (λ n. n) (Memᴰ.cases_cons (f z (Memᴰ.tail k)))

  pub sorted_unique : (l m : List ℕ) → Strict l → Sorted R l → Sorted R m → Within l m → Within m l → l ≡ m
  sorted_unique [] [] s p q f h = refl
  sorted_unique [] (y ∷ m) s p q f h = absurd (Memᴰ.not-nil (h y (Memᴰ.head refl)))
  sorted_unique (x ∷ l) [] s p q f h = absurd (Memᴰ.not-nil (f x (Memᴰ.head refl)))
  sorted_unique (x ∷ l) (y ∷ m) s p q f h =
      let e : x ≡ y = heads x y l m s p q f h in
      let t : Strict (y ∷ m) = record {
        irr = λ z n. s.irr z (h z n);
        asym = λ z w n o. s.asym z w (h z n) (h w o);
      } in
      ap₂ ◌∷◌ e (sorted_unique l m (shorter x l s) p.1 q.1 (tails x y l m e s p f) (tails y x m l (sym e) t q h))

-- ---- each element stands once, so a list of numbers below n is no longer than n
abbrev pub Once : List ℕ → Type 0
Once l = (x : ℕ) → count x l ≤ 1

module _ (R : Order) where
  pub sorted_once : (l : List ℕ) → ((x : ℕ) → Mem x l → R x x → ⊥) → Sorted R l → Once l
  unfolding count
  sorted_once [] irr p x = omega arith
  sorted_once (y ∷ l) irr p x =
      at (eqb y x) refl (sorted_once l (λ z m. irr z (Memᴰ.tail m)) p.1 x) (dec_le 1 (count x l))
    where
      again : eqb y x ≡ true → Mem x l → ⊥
      again e m = irr y (Memᴰ.head refl) (subst (R y) (sym (eqb-true y x e)) (p.0 x m))

      at : (b : Bool) → eqb y x ≡ b → count x l ≤ 1 → Dec (1 ≤ count x l) → pick b 1 0 + count x l ≤ 1
      at true e r (yes k) = absurd (again e (counted_in x l k))
      at true e r (no k) = omega arith
      at false e r d = omega arith

  pub sorted_short : (l : List ℕ) (n : ℕ) → ((x : ℕ) → Mem x l → R x x → ⊥) → Sorted R l → ((x : ℕ) → Mem x l → x < n)
      → length l ≤ n
  sorted_short l n irr p b =
      let c = counted l n (λ k h. b (get_or l k 0) (member 0 l k h)) in
      let s = sum_less (λ i. count i l) (λ i. 1) n (λ i h. sorted_once l irr p i) in
      omega (arith, sum_const 1 n)
