-- `check_lists::stray_in` meets its contract: some entry is stray.
use Rattle.std.proofs.Common.{◌≡◌, ℕ, zero, suc, Bool, true, false, ◌||◌, List, [], ◌∷◌, length, get_or, refl, sym, ap, ◌∙◌, arith, rules, tests, below_none}
use Rattle.std.specs.List.{list_any}
use Rattle.std.proofs.lemmas.Bool.Decides.{nat_tests}
use Rattle.std.proofs.lemmas.Iterator.{YieldsList-from_slice}
use Rattle.std.proofs.lemmas.Iterator.Search.{any_from_yields_List}
use Rattle.laws.specs.Lowest.{lowest, some, some_no}
use Rattle.graph.specs.Checks.{stray}
use Rattle.check_lists.proofs.stray_in.Goals as goal

-- what `any` answers of a list's elements, as `some` of its places
some_first : (test : ℕ → Bool) (n : ℕ) → test zero || some (λ k. test (suc k)) n ≡ some test (suc n)
unfolding lowest
some_first test n = at (test zero) refl
  where
    at : (b : Bool) → test zero ≡ b → test zero || some (λ k. test (suc k)) n ≡ some test (suc n)
    at true e = rw e (grind (arith, nat_tests))
    at false e = rw e (grind (arith, nat_tests))

any_list : (test : ℕ → Bool) (xs : List ℕ) → list_any test xs ≡ some (λ i. test (get_or xs i 0)) (length xs)
any_list test [] = sym (some_no _ 0 (below_none _))
any_list test (x ∷ xs) = ap (λ b. test x || b) (any_list test xs) ∙ some_first (λ i. test (get_or (x ∷ xs) i 0)) (length xs)

pub returns : goal.returns
returns c =
    let x = c.args in
    any_from_yields_List (stray x.aid.now x.bid.now x.v) _ _ _ c.any.ensures.ran (YieldsList-from_slice x.here.now (cc)) (λ e b q k. search (rules, tests))
    ∙ any_list (stray x.aid.now x.bid.now x.v) x.here.now
