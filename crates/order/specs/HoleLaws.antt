-- The holes in contour order: each below the contours looked at, each a hole, and rising.
use Rattle.std.specs.Prelude.{ℕ, zero, suc, ◌≤◌, ◌<◌, ◌≡◌, refl, Bool, true, false, List, [], ◌∷◌, ◌++◌, length, get_or}
use Rattle.std.proofs.Common.{sym, subst, arith, not-suc-le-zero, length-append}
use Rattle.std.proofs.Math.Decide.{ℕ_discrete}
use Rattle.std.proofs.Math.ListN.{get_or-append}
use Rattle.std.proofs.lemmas.List.{get_or_at}
use Rattle.laws.specs.Test.{pick}
use Rattle.table.specs.Table.{Table, is_hole}
use Rattle.order.specs.HoleOrder.{holes_below}

-- n numbers at most, below n and rising
pub record Rising (l : List ℕ) (n : ℕ) : Type 0 where
  pub few : length l ≤ n
  pub below : (j : ℕ) → j < length l → get_or l j 0 < n
  pub rises : (i j : ℕ) → i < j → j < length l → get_or l i 0 < get_or l j 0

rising_skip : (l : List ℕ) (n : ℕ) → Rising l n → Rising l (suc n)
rising_skip l n r = record { few = omega (arith, r.few); below = λ j h. omega (arith, r.below j h); rises = r.rises }

module _ (l : List ℕ) (c : ℕ) where
  longer : length (l ++ (c ∷ [])) ≡ suc (length l)
  longer = omega (arith, length-append l (c ∷ []))

  old : (j : ℕ) → j < length l → get_or (l ++ (c ∷ [])) j 0 ≡ get_or l j 0
  old j h = get_or-append l (c ∷ []) 0 j h

  last : (j : ℕ) → j ≡ length l → get_or (l ++ (c ∷ [])) j 0 ≡ c
  last j e = get_or_at l c [] 0 j (sym e)

rising_more : (l : List ℕ) (n : ℕ) → Rising l n → Rising (l ++ (n ∷ [])) (suc n)
rising_more l n r = record {
  few = omega (arith, longer l n, r.few);
  below = λ j h. low j (omega (arith, longer l n)) (ℕ_discrete j (length l));
  rises = λ i j h k. up i j h (omega (arith, longer l n)) (ℕ_discrete j (length l));
}
  where
    low : (j : ℕ) → j < suc (length l) → Dec (j ≡ length l) → get_or (l ++ (n ∷ [])) j 0 < suc n
    low j h (yes e) = rw (last l n j e) (omega arith)
    low j h (no e) = rw (old l n j (omega arith)) (omega (arith, r.below j (omega arith)))

    up : (i j : ℕ) → i < j → j < suc (length l) → Dec (j ≡ length l) → get_or (l ++ (n ∷ [])) i 0 < get_or (l ++ (n ∷ [])) j 0
    up i j h k (yes e) = rw (old l n i (omega arith), last l n j e) (r.below i (omega arith))
    up i j h k (no e) = rw (old l n i (omega arith), old l n j (omega arith)) (r.rises i j h (omega arith))

pub holes_rising : (t : Table) (n : ℕ) → Rising (holes_below t n) n
unfolding holes_below
holes_rising t zero = record { few = omega arith; below = λ j h. absurd (not-suc-le-zero h); rises = λ i j h k. absurd (not-suc-le-zero k) }
holes_rising t (suc n) = go (is_hole t n) (holes_rising t n)
  where
    go : (b : Bool) → Rising (holes_below t n) n → Rising (pick b (holes_below t n ++ (n ∷ [])) (holes_below t n)) (suc n)
    go true r = rising_more (holes_below t n) n r
    go false r = rising_skip (holes_below t n) n r

pub holes_are : (t : Table) (n j : ℕ) → j < length (holes_below t n) → is_hole t (get_or (holes_below t n) j 0) ≡ true
unfolding holes_below
holes_are t zero j h = absurd (not-suc-le-zero h)
holes_are t (suc n) j h = go (is_hole t n) refl (holes_are t n j) h
  where
    at : is_hole t n ≡ true → (j < length (holes_below t n) → is_hole t (get_or (holes_below t n) j 0) ≡ true) → j < suc (length (holes_below t n))
        → Dec (j ≡ length (holes_below t n)) → is_hole t (get_or (holes_below t n ++ (n ∷ [])) j 0) ≡ true
    at q r k (yes e) = subst (λ (c : ℕ). is_hole t c ≡ true) (sym (last (holes_below t n) n j e)) q
    at q r k (no e) = subst (λ (c : ℕ). is_hole t c ≡ true) (sym (old (holes_below t n) n j (omega arith))) (r (omega arith))

    go : (b : Bool) → is_hole t n ≡ b → (j < length (holes_below t n) → is_hole t (get_or (holes_below t n) j 0) ≡ true)
        → j < length (pick b (holes_below t n ++ (n ∷ [])) (holes_below t n))
        → is_hole t (get_or (pick b (holes_below t n ++ (n ∷ [])) (holes_below t n)) j 0) ≡ true
    go true q r k = at q r (omega (arith, longer (holes_below t n) n)) (ℕ_discrete j (length (holes_below t n)))
    go false q r k = r k
