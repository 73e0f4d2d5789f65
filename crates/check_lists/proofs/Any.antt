-- What `any` answers, as `some` of the numbers below n.
use Rattle.std.proofs.Common.{◌≡◌, ℕ, zero, suc, ◌+◌, Bool, true, false, ◌||◌, List, [], ◌∷◌, length, get_or, refl, sym, ap, ap₂, ◌∙◌, arith, below_none}
use Rattle.std.specs.List.{list_any, range_with_len}
use Rattle.std.proofs.lemmas.Bool.Decides.{nat_tests}
use Rattle.laws.specs.Lowest.{lowest, some, some_no}

some_first : (test : ℕ → Bool) (n : ℕ) → test zero || some (λ k. test (suc k)) n ≡ some test (suc n)
unfolding lowest
some_first test n = at (test zero) refl
  where
    at : (b : Bool) → test zero ≡ b → test zero || some (λ k. test (suc k)) n ≡ some test (suc n)
    at true e = rw e (grind (arith, nat_tests))
    at false e = rw e (grind (arith, nat_tests))

-- of a list's elements
pub any_list : (test : ℕ → Bool) (xs : List ℕ) → list_any test xs ≡ some (λ i. test (get_or xs i 0)) (length xs)
any_list test [] = sym (some_no _ 0 (below_none _))
any_list test (x ∷ xs) = ap (λ b. test x || b) (any_list test xs) ∙ some_first (λ i. test (get_or (x ∷ xs) i 0)) (length xs)

-- of the numbers from a on
any_from : (test f : ℕ → Bool) (a n : ℕ) → ((k : ℕ) → test (a + k) ≡ f k) → list_any test (range_with_len a n) ≡ some f n
any_from test f a zero h = sym (some_no f 0 (below_none _))
any_from test f a (suc n) h =
    let first : test a ≡ f zero = ap test (omega arith) ∙ h zero in
    let rest = any_from test (λ k. f (suc k)) (a + 1) n (λ k. ap test (omega arith) ∙ h (suc k)) in
    ap₂ ◌||◌ first rest ∙ some_first f n

pub any_range : (test : ℕ → Bool) (n : ℕ) → list_any test (range_with_len 0 n) ≡ some test n
any_range test n = any_from test test 0 n (λ k. ap test (omega arith))
