-- Visit states: that a link is unvisited, as the definitions test it and as the code reads it.
use Rattle.std.specs.Prelude.{ℕ, zero, suc, ◌<◌, ◌≡◌, refl, true, false, List, [], ◌∷◌, length, get_or, Some, None}
use Rattle.std.proofs.Common.{not-suc-le-zero, le_of_suc-le-suc, arith, ◌∙◌, eqb-true, eq-eqb, ne_eqb}
use Rattle.laws.specs.Test.{pick_ind, true≢false}
use Rattle.next.specs.Next.{is_unvisited, only_unvisited}
use Rattle.next.specs.Known.{NamesUnvisited}

-- ---- what stands past the end of a list plays no role within it
default_free : (l : List ℕ) (k d e : ℕ) → k < length l → get_or l k d ≡ get_or l k e
default_free [] k d e h = absurd (not-suc-le-zero h)
default_free (x ∷ l) zero d e h = refl
default_free (x ∷ l) (suc k) d e h = default_free l k d e (le_of_suc-le-suc h)

-- ---- from the code's read
pub read_unvisited : (st : List ℕ) (k : ℕ) → k < length st → get_or st k 0 ≡ 0 → is_unvisited st k ≡ true
read_unvisited st k h e = eq-eqb _ _ (default_free st k 1 0 h ∙ e)

pub read_shut : (st : List ℕ) (k : ℕ) → k < length st → (get_or st k 0 ≡ 0 → ⊥) → is_unvisited st k ≡ false
read_shut st k h n = ne_eqb _ _ (λ e. n (default_free st k 0 1 h ∙ e))

pub is_unvisited_lem : (st : List ℕ) (k : ℕ) → NamesUnvisited st (Some k) → is_unvisited st k ≡ true
is_unvisited_lem st k h = eq-eqb _ _ h.1

-- ---- to it
pub unvisited_below : (st : List ℕ) (k : ℕ) → is_unvisited st k ≡ true → k < length st
unvisited_below [] k e = absurd (true≢false e refl)
unvisited_below (x ∷ st) zero e = omega arith
unvisited_below (x ∷ st) (suc k) e = omega (arith, unvisited_below st k e)

pub names_unvisited : (st : List ℕ) (k : ℕ) → is_unvisited st k ≡ true → NamesUnvisited st (Some k)
names_unvisited st k e = (unvisited_below st k e, eqb-true _ _ e)

pub only_unvisited_lem : (st : List ℕ) (k : ℕ) → NamesUnvisited st (only_unvisited st k)
only_unvisited_lem st k = pick_ind (is_unvisited st k) (Some k) None (NamesUnvisited st) (names_unvisited st k) (λ _. tt)

pub unvisited_read : (st : List ℕ) (k : ℕ) → is_unvisited st k ≡ true → get_or st k 0 ≡ 0
unvisited_read st k e = default_free st k 0 1 (unvisited_below st k e) ∙ eqb-true _ _ e
