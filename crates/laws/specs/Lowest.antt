-- The search that every check is: the lowest number at which a test passes; and what a loop that searches has to show for it.
use Rattle.std.specs.Prelude.{ℕ, zero, suc, ◌+◌, ◌<◌, ◌≤◌, ◌≡◌, refl, Bool, true, false, ◌||◌, ltb, Option, Some, None}
use Rattle.std.proofs.Common.{zero-le, suc-le-suc, not-suc-le-zero, le_of_suc-le-suc, le_of_eq, arith, below_more, sym, ap, ◌∙◌}
use Rattle.std.proofs.Common.{lt-ltb, le-ltb, ltb-true, ltb-false}
use Rattle.laws.specs.Test.{pick, pick_true, pick_false}

-- the lowest number below n at which the test passes, or n where it passes at none
unfoldable pub lowest : (ℕ → Bool) → ℕ → ℕ
lowest test zero = zero
lowest test (suc n) = let rest = suc (lowest (λ k. test (suc k)) n) in pick (test zero) zero rest

-- the test passes at some number below n
abbrev pub some : (ℕ → Bool) → ℕ → Bool
some test n = ltb (lowest test n) n

-- the lowest number below n at which the test passes, or None where it passes at none
abbrev pub lowest_if : (ℕ → Bool) → ℕ → Option ℕ
lowest_if test n = pick (some test n) (Some (lowest test n)) None

-- it passes at none below i
abbrev pub NoneBelow : (ℕ → Bool) → ℕ → Type 0
NoneBelow test i = (k : ℕ) → k < i → test k ≡ false

pub none : (test : ℕ → Bool) (n : ℕ) → NoneBelow test n → lowest test n ≡ n
unfolding lowest
none test zero h = refl
none test (suc n) h = simp (h zero (suc-le-suc zero-le), none (λ k. test (suc k)) n (λ k l. h (suc k) (suc-le-suc l)))

pub found : (test : ℕ → Bool) (n i : ℕ) → i < n → NoneBelow test i → test i ≡ true → lowest test n ≡ i
unfolding lowest
found test zero i l h e = absurd (not-suc-le-zero l)
found test (suc n) zero l h e = simp e
found test (suc n) (suc i) l h e =
    simp (h zero (suc-le-suc zero-le), found (λ k. test (suc k)) n i (le_of_suc-le-suc l) (λ k m. h (suc k) (suc-le-suc m)) e)

pub some_yes : (test : ℕ → Bool) (n i : ℕ) → i < n → NoneBelow test i → test i ≡ true → some test n ≡ true
some_yes test n i l h e = lt-ltb (lowest test n) n (rw (found test n i l h e) l)

pub some_no : (test : ℕ → Bool) (n : ℕ) → NoneBelow test n → some test n ≡ false
some_no test n h = le-ltb (lowest test n) n (le_of_eq (sym (none test n h)))

-- the other way: where the search finds nothing, the test passes at none
passed : (test : ℕ → Bool) (n : ℕ) → n ≤ lowest test n → NoneBelow test n
unfolding lowest
passed test zero h k l = absurd (not-suc-le-zero l)
passed test (suc n) h k l = at (test zero) refl (passed (λ j. test (suc j)) n) k l
  where
    at : (b : Bool) → test zero ≡ b → (n ≤ lowest (λ j. test (suc j)) n → NoneBelow (λ j. test (suc j)) n) → (k : ℕ) → k < suc n → test k ≡ false
    at true e r k l = absurd (not-suc-le-zero (rw e at h))
    at false e r zero l = e
    at false e r (suc k) l = r (le_of_suc-le-suc (rw e at h)) k (le_of_suc-le-suc l)

pub none_of : (test : ℕ → Bool) (n : ℕ) → some test n ≡ false → NoneBelow test n
none_of test n e = passed test n (ltb-false (lowest test n) n e)

-- where it finds something, the test passes there, and at none below it
pub record Found (test : ℕ → Bool) (n i : ℕ) : Type 0 where
  pub within : i < n
  pub passes : test i ≡ true
  pub lowest_one : NoneBelow test i

finds : (test : ℕ → Bool) (n : ℕ) → lowest test n < n → Found test n (lowest test n)
unfolding lowest
finds test zero h = absurd (not-suc-le-zero h)
finds test (suc n) h = at (test zero) refl (finds (λ j. test (suc j)) n) h
  where
    at : (b : Bool) → test zero ≡ b → (lowest (λ j. test (suc j)) n < n → Found (λ j. test (suc j)) n (lowest (λ j. test (suc j)) n))
        → pick b zero (suc (lowest (λ k. test (suc k)) n)) < suc n → Found test (suc n) (pick b zero (suc (lowest (λ k. test (suc k)) n)))
    at true e r l = record { within = suc-le-suc zero-le; passes = e; lowest_one = λ k m. absurd (not-suc-le-zero m) }
    at false e r l =
        let f = r (le_of_suc-le-suc l) in
        record { within = l; passes = f.passes; lowest_one = from e f.lowest_one }
      where
        from : test zero ≡ false → NoneBelow (λ j. test (suc j)) (lowest (λ j. test (suc j)) n) → NoneBelow test (suc (lowest (λ j. test (suc j)) n))
        from e f zero m = e
        from e f (suc k) m = f k (le_of_suc-le-suc m)

pub some_of : (test : ℕ → Bool) (n : ℕ) → some test n ≡ true → Found test n (lowest test n)
some_of test n e = finds test n (ltb-true (lowest test n) n e)

-- one number more: what a loop that looks at every number has to show
pub some_more : (test : ℕ → Bool) (n : ℕ) → some test (n + 1) ≡ some test n || test n
some_more test n = go (some test n) refl (test n) refl
  where
    go : (a : Bool) → some test n ≡ a → (b : Bool) → test n ≡ b → some test (n + 1) ≡ a || b
    go true e b f = let h = some_of test n e in some_yes test (n + 1) (lowest test n) (omega (arith, h.within)) h.lowest_one h.passes
    go false e true f = some_yes test (n + 1) n (omega arith) (none_of test n e) f
    go false e false f = some_no test (n + 1) (below_more (λ k. test k ≡ false) n (none_of test n e) f)

-- what a loop that answers the lowest, or None, has to show
pub found_if : (test : ℕ → Bool) (n i : ℕ) → i < n → NoneBelow test i → test i ≡ true → lowest_if test n ≡ Some i
found_if test n i l h e = pick_true _ _ (some_yes test n i l h e) ∙ ap (λ k. Some k) (found test n i l h e)

pub none_if : (test : ℕ → Bool) (n : ℕ) → NoneBelow test n → lowest_if test n ≡ None
none_if test n h = pick_false _ _ (some_no test n h)

-- the other way: what its answer tells
pub if_some : (test : ℕ → Bool) (n i : ℕ) → lowest_if test n ≡ Some i → (some test n ≡ true) × (lowest test n ≡ i)
if_some test n i e = at (some test n) refl e
  where
    at : (b : Bool) → some test n ≡ b → pick b (Some (lowest test n)) None ≡ Some i → (some test n ≡ true) × (lowest test n ≡ i)
    at true f e = (f, cc)
    at false f e = cc

pub if_none : (test : ℕ → Bool) (n : ℕ) → lowest_if test n ≡ None → some test n ≡ false
if_none test n e = at (some test n) refl e
  where
    at : (b : Bool) → some test n ≡ b → pick b (Some (lowest test n)) None ≡ None → some test n ≡ false
    at true f e = cc
    at false f e = f
