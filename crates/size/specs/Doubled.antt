-- The size test by doubled numbers (request c) is rule 6's, for every minimum and every area.
use Rattle.std.specs.Prelude.{ℕ, ◌*◌, ◌/◌, ◌≤◌, ◌≡◌, refl, Bool, true, false, ◌&&◌, ◌||◌, leb, eqb, ℤ, nat_abs}
use Rattle.std.proofs.Common.{arith, ap, ◌∙◌, leb-true, leb-false, le-leb, ne_eqb, SFits}
use Rattle.std.proofs.Math.Bool.{and-false}
use Rattle.std.proofs.lemmas.Bool.{lt-leb}
use Rattle.std.specs.Int.Signed.{nat_abs-le}
use Rattle.std.specs.Int.{w64}
use Rattle.turn.specs.Size.{is_kept}

-- "Inside the size test, compare the absolute doubled area with twice the minimum"
abbrev pub kept_by_doubled : ℕ → ℤ → ℕ → Bool
kept_by_doubled points area minimum = leb 3 points && (eqb minimum 0 || leb (2 * minimum) (nat_abs area))

-- a half, rounded down, is at least m exactly where the whole is at least twice m
half_at_least : (m n : ℕ) → leb m (n / 2) ≡ leb (2 * m) n
half_at_least m n = by (leb (2 * m) n) refl
  where
    by : (b : Bool) → leb (2 * m) n ≡ b → leb m (n / 2) ≡ b
    by true e = le-leb m (n / 2) (omega (arith, leb-true (2 * m) n e))
    by false e = lt-leb m (n / 2) (omega (arith, leb-false (2 * m) n e))

-- "No answer .. changes": the numbers are of any width, so those of 64 bits are among them
pub by_doubled : (points : ℕ) (area : ℤ) (minimum : ℕ) → is_kept points area minimum ≡ kept_by_doubled points area minimum
by_doubled points area minimum = ap (λ b. leb 3 points && (eqb minimum 0 || b)) (half_at_least minimum (nat_abs area))

-- ---- "without the doubling of a huge minimum wrapping": from 2^63 on twice the minimum does not fit 64 bits, and no 64-bit area reaches it
abbrev pub huge : ℕ
huge = 9223372036854775808

pub huge_rejects : (points : ℕ) (area : ℤ) (minimum : ℕ) → SFits w64 area → huge ≤ minimum → is_kept points area minimum ≡ false
huge_rejects points area minimum a h =
    let large : eqb minimum 0 ≡ false = ne_eqb minimum 0 (λ e. omega (arith, e)) in
    let missed : leb (2 * minimum) (nat_abs area) ≡ false = lt-leb (2 * minimum) (nat_abs area) (omega (arith, nat_abs-le area a.sfits)) in
    by_doubled points area minimum ∙ rw (large, missed) (and-false (leb 3 points))
