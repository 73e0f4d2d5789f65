-- How often a number stands in a list, as check 5 and binding's order count it; sums over the numbers below n.
use Rattle.std.specs.Prelude.{ℕ, zero, suc, ◌+◌, ◌*◌, ◌≤◌, ◌<◌, ◌≡◌, refl, Bool, true, false, eqb, length, get_or, take}
use Rattle.std.proofs.Common.{zero-le, suc-le-suc, not-suc-le-zero, le_of_suc-le-suc, eq-or-lt_of_le, zero-add, add-zero, add_assoc, add-one, arith, sym}
use Rattle.std.proofs.Common.{ap₂, ◌∙◌, ⊎_elim, take-suc, eq-eqb, ne_eqb, eqb-true}
use Rattle.std.proofs.Math.Decide.{dec_le}
use mathlib.Core.List.{List, [], ◌∷◌, ◌++◌, Memᴰ}
use Rattle.laws.specs.Test.{pick}
use Rattle.laws.specs.Lists.{Place, place_of}

unfoldable pub count : ℕ → List ℕ → ℕ
count x [] = 0
count x (y ∷ ys) = pick (eqb y x) 1 0 + count x ys

-- ---- one more element
pub count_append : (x : ℕ) (s t : List ℕ) → count x (s ++ t) ≡ count x s + count x t
unfolding count
count_append x [] t = sym (zero-add _)
count_append x (y ∷ s) t = simp (count_append x s t, add_assoc)

pub count_snoc : (x y : ℕ) (l : List ℕ) → count x (l ++ (y ∷ [])) ≡ count x l + pick (eqb y x) 1 0
unfolding count
count_snoc x y l = count_append x l (y ∷ []) ∙ simp add-zero

pub count_more : (x : ℕ) (l : List ℕ) (k : ℕ) → k < length l → count x (take (k + 1) l) ≡ count x (take k l) + pick (eqb (get_or l k 0) x) 1 0
unfolding count
count_more x l k h = simp (add-one, take-suc l k 0 h, count_append, add-zero)

-- ---- of a part and of the whole
pub count_none : (x : ℕ) (l : List ℕ) → count x (take 0 l) ≡ 0
unfolding count
count_none x [] = refl
count_none x (y ∷ l) = refl

pub count_most : (x k : ℕ) (l : List ℕ) → count x (take k l) ≤ count x l
unfolding count
count_most x zero [] = omega arith
count_most x zero (y ∷ l) = omega arith
count_most x (suc k) [] = omega arith
count_most x (suc k) (y ∷ l) = omega (arith, count_most x k l)

-- ---- what is counted is a member, and stands at a place
pub counted_in : (x : ℕ) (l : List ℕ) → 1 ≤ count x l → Memᴰ x l
unfolding count
counted_in x [] h = absurd (not-suc-le-zero h)
counted_in x (y ∷ l) h = at (eqb y x) refl h (counted_in x l)
  where
    at : (b : Bool) → eqb y x ≡ b → 1 ≤ pick b 1 0 + count x l → (1 ≤ count x l → Memᴰ x l) → Memᴰ x (y ∷ l)
    at true e h r = Memᴰ.head (sym (eqb-true y x e))
    at false e h r = Memᴰ.tail (r (omega arith))

count_at : (x : ℕ) (l : List ℕ) (i : ℕ) → i < length l → get_or l i 0 ≡ x → 1 ≤ count x l
unfolding count
count_at x [] i h e = absurd (not-suc-le-zero h)
count_at x (y ∷ l) zero h e = rw (eq-eqb y x e) (omega arith)
count_at x (y ∷ l) (suc i) h e = omega (arith, count_at x l i (le_of_suc-le-suc h) e)

-- two places are two
pub count_two : (x : ℕ) (l : List ℕ) (i j : ℕ) → i < j → j < length l → get_or l i 0 ≡ x → get_or l j 0 ≡ x → 2 ≤ count x l
unfolding count
count_two x [] i j h k p q = absurd (not-suc-le-zero k)
count_two x (y ∷ l) i zero h k p q = absurd (not-suc-le-zero h)
count_two x (y ∷ l) zero (suc j) h k p q = let c = count_at x l j (le_of_suc-le-suc k) q in rw (eq-eqb y x p) (omega arith)
count_two x (y ∷ l) (suc i) (suc j) h k p q = omega (arith, count_two x l i j (le_of_suc-le-suc h) (le_of_suc-le-suc k) p q)

-- no two places with one number: it stands once at most
pub count_single : (x : ℕ) (l : List ℕ) → ((i j : ℕ) → i < j → j < length l → get_or l i 0 ≡ get_or l j 0 → ⊥) → count x l ≤ 1
unfolding count
count_single x [] h = zero-le
count_single x (y ∷ l) h = at (count_single x l (λ i j m k e. h (suc i) (suc j) (suc-le-suc m) (suc-le-suc k) e)) (eqb y x) refl (dec_le 1 (count x l))
  where
    again : eqb y x ≡ true → Place 0 x l → ⊥
    again e p = h 0 (suc p.place) (suc-le-suc zero-le) (suc-le-suc p.within) (eqb-true y x e ∙ sym p.here)

    at : count x l ≤ 1 → (b : Bool) → eqb y x ≡ b → Dec (1 ≤ count x l) → pick b 1 0 + count x l ≤ 1
    at r true e (yes m) = absurd (again e (place_of 0 l (counted_in x l m)))
    at r true e (no m) = omega arith
    at r false e d = omega arith

-- ---- sums
unfoldable pub sum : (ℕ → ℕ) → ℕ → ℕ
sum f zero = 0
sum f (suc n) = f n + sum f n

pub sum_same : (f g : ℕ → ℕ) (n : ℕ) → ((i : ℕ) → i < n → f i ≡ g i) → sum f n ≡ sum g n
unfolding sum
sum_same f g zero h = refl
sum_same f g (suc n) h = ap₂ ◌+◌ (h n (omega arith)) (sum_same f g n (λ i l. h i (omega arith)))

pub sum_add : (f g : ℕ → ℕ) (n : ℕ) → sum (λ i. f i + g i) n ≡ sum f n + sum g n
unfolding sum
sum_add f g zero = refl
sum_add f g (suc n) = omega (arith, sum_add f g n)

pub sum_const : (c n : ℕ) → sum (λ i. c) n ≡ c * n
unfolding sum
sum_const c zero = omega arith
sum_const c (suc n) = omega (arith, sum_const c n)

pub sum_swap : (f : ℕ → ℕ → ℕ) (m n : ℕ) → sum (λ i. sum (f i) n) m ≡ sum (λ j. sum (λ i. f i j) m) n
unfolding sum
sum_swap f zero n = sym (sum_const 0 n ∙ omega arith)
sum_swap f (suc m) n = omega (arith, sum_swap f m n, sum_add (f m) (λ j. sum (λ i. f i j) m) n)

pub sum_less : (f g : ℕ → ℕ) (n : ℕ) → ((i : ℕ) → i < n → f i ≤ g i) → sum f n ≤ sum g n
unfolding sum
sum_less f g zero h = zero-le
sum_less f g (suc n) h = omega (arith, h n (omega arith), sum_less f g n (λ i l. h i (omega arith)))

-- no term is below its bound where the sum is not
pub sum_tight : (f g : ℕ → ℕ) (n : ℕ) → ((i : ℕ) → i < n → f i ≤ g i) → sum g n ≤ sum f n → (i : ℕ) → i < n → f i ≡ g i
unfolding sum
sum_tight f g zero h e i l = absurd (not-suc-le-zero l)
sum_tight f g (suc n) h e i l =
    let a = h n (omega arith) in
    let b = sum_less f g n (λ j m. h j (omega arith)) in
    ⊎_elim (λ (q : i ≡ n). rw q (omega arith)) (λ (m : i < n). sum_tight f g n (λ j k. h j (omega arith)) (omega arith) i m)
    (eq-or-lt_of_le (le_of_suc-le-suc l))

-- of the numbers below n, x is one
nowhere : (x n : ℕ) → n ≤ x → sum (λ i. pick (eqb x i) 1 0) n ≡ 0
unfolding sum
nowhere x zero h = refl
nowhere x (suc n) h = simp (ne_eqb x n (omega arith), nowhere x n (omega arith))

pub sum_once : (x n : ℕ) → x < n → sum (λ i. pick (eqb x i) 1 0) n ≡ 1
unfolding sum
sum_once x zero h = absurd (not-suc-le-zero h)
sum_once x (suc n) h =
    ⊎_elim (λ (q : x ≡ n). simp (eq-eqb x n q, nowhere x n (omega arith))) (λ (m : x < n). simp (ne_eqb x n (omega arith), sum_once x n m))
    (eq-or-lt_of_le (le_of_suc-le-suc h))

-- a list of numbers below n is as long as they are counted
pub counted : (l : List ℕ) (n : ℕ) → ((k : ℕ) → k < length l → get_or l k 0 < n) → sum (λ i. count i l) n ≡ length l
unfolding count
counted [] n h = sum_const 0 n ∙ omega arith
counted (y ∷ l) n h =
    sum_add (λ i. pick (eqb y i) 1 0) (λ i. count i l) n ∙
    omega (arith, sum_once y n (h 0 (omega arith)), counted l n (λ k m. h (suc k) (suc-le-suc m)))
