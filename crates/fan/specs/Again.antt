-- What tests of a list's entries tell, of one or of any two of them, they tell of the entries in any order.
use Rattle.std.specs.Prelude.{ℕ, ◌≤◌, ◌<◌, ◌≡◌, refl, Bool, true, false, List, length, get_or}
use Rattle.std.proofs.Common.{arith, sym, ap, ◌∙◌, subst}
use Rattle.std.proofs.Math.Decide.{dec_le}
use Rattle.laws.specs.Test.{true≢false}
use Rattle.laws.specs.Count.{count, count_two, count_single}
use Rattle.laws.specs.Lowest.{lowest, some, none, found, none_of, some_of}
use Rattle.laws.specs.Fails.{Fails, some_fails}
use Rattle.graph.specs.Checks.{some_two}
use Rattle.graph.specs.Tests.{two_fails}
use Rattle.fan.specs.Rearranged.{Rearranged, moved_back, place_before, each_before}

-- a test that fails wherever another does, and the other way round, is that test
pub same_test : (s t : Bool) → (s ≡ false → t ≡ false) → (t ≡ false → s ≡ false) → s ≡ t
same_test true true p q = refl
same_test true false p q = absurd (true≢false refl (q refl))
same_test false t p q = sym (p refl)

-- tests that are the same below n find the same
pub lowest_same : (s t : ℕ → Bool) (n : ℕ) → ((k : ℕ) → k < n → s k ≡ t k) → lowest s n ≡ lowest t n
lowest_same s t n h = go (some t n) refl
  where
    go : (b : Bool) → some t n ≡ b → lowest s n ≡ lowest t n
    go true e =
        let f = some_of t n e in
        found s n (lowest t n) f.within (λ k l. h k (omega (arith, l, f.within)) ∙ f.lowest_one k l) (h (lowest t n) f.within ∙ f.passes)
    go false e = none s n (λ k l. h k l ∙ none_of t n e k l) ∙ sym (none t n (none_of t n e))

itself : (b : Bool) → Fails b (b ≡ false)
itself b = record { to = λ e. e; from = λ e. e }

-- ---- of one entry
module _ (test : ℕ → Bool) where
  abbrev some_in : List ℕ → Bool
  some_in l = some (λ i. test (get_or l i 0)) (length l)

  none_again : {l m : List ℕ} → Rearranged l m → some_in l ≡ false → some_in m ≡ false
  none_again {l} {m} r e =
      (some_fails (length m) (λ i. itself (test (get_or m i 0)))).from
      (each_before r (λ (x : ℕ). test x ≡ false) ((some_fails (length l) (λ i. itself (test (get_or l i 0)))).to e))

  pub some_again : {l m : List ℕ} → Rearranged l m → some_in m ≡ some_in l
  some_again {l} {m} r = same_test (some_in m) (some_in l) (none_again (moved_back r)) (none_again r)

-- ---- of two, where none stands twice
abbrev pub Single : List ℕ → Type 0
Single l = (i j : ℕ) → i < j → j < length l → get_or l i 0 ≡ get_or l j 0 → ⊥

pub still_single : {l m : List ℕ} → Rearranged l m → Single l → Single m
still_single {l} {m} r single i j h k e =
    let x : ℕ = get_or m j 0 in
    let c : 2 ≤ count x m = count_two x m i j h k e refl in
    omega (arith, c, r.counts x, count_single x l single)

module _ (test : ℕ → ℕ → Bool) (either : (e f : ℕ) → test f e ≡ test e f) where
  abbrev two_in : List ℕ → Bool
  two_in l = some_two (λ i j. test (get_or l i 0) (get_or l j 0)) (length l)

  -- no two pass
  abbrev NoTwo : List ℕ → Type 0
  NoTwo l = (j : ℕ) → j < length l → (i : ℕ) → i < j → test (get_or l i 0) (get_or l j 0) ≡ false

  no_two : (l : List ℕ) → Fails (two_in l) (NoTwo l)
  no_two l = two_fails (length l) (λ i j. itself (test (get_or l i 0) (get_or l j 0)))

  -- then no two at different places do, whichever is first
  any_two : (l : List ℕ) → NoTwo l → (p q : ℕ) → p < length l → q < length l → (p ≡ q → ⊥) → test (get_or l p 0) (get_or l q 0) ≡ false
  any_two l h p q lp lq d = go (dec_le p q)
    where
      go : Dec (p ≤ q) → test (get_or l p 0) (get_or l q 0) ≡ false
      go (yes k) = h q lq p (below k d)
        where
          below : p ≤ q → (p ≡ q → ⊥) → p < q
          below k d = omega arith
      go (no k) = either (get_or l q 0) (get_or l p 0) ∙ h p lp q (above k)
        where
          above : (p ≤ q → ⊥) → q < p
          above k = omega arith

  none_two_again : {l m : List ℕ} → Rearranged l m → Single l → two_in l ≡ false → two_in m ≡ false
  none_two_again {l} {m} r single e = (no_two m).from λ j n i k.
      let p = place_before r i (omega (arith, k, n)) in
      let q = place_before r j n in
      let d : p.place ≡ q.place → ⊥ =
      λ s. still_single r single i j k n (sym p.here ∙ ap (λ (z : ℕ). get_or l z 0) s ∙ q.here) in
      subst (λ (x : ℕ). test x (get_or m j 0) ≡ false) p.here
      (subst (λ (y : ℕ). test (get_or l p.place 0) y ≡ false) q.here
      (any_two l ((no_two l).to e) p.place q.place p.within q.within d))

  pub two_again : {l m : List ℕ} → Rearranged l m → Single l → two_in m ≡ two_in l
  two_again {l} {m} r single =
      same_test (two_in m) (two_in l) (none_two_again (moved_back r) (still_single r single)) (none_two_again r single)
