-- The digits one by one, and the sign.
use Prim.Native.Nat.{ℕ, suc, ◌+◌, ◌/◌, ◌%◌, ◌^◌, ◌≤◌, ◌<◌}
use mathlib.Core.Path.{◌≡◌, ap, ◌∙◌}
use mathlib.Core.Bool.{true}
use mathlib.Core.List.{List, [], ◌∷◌}
use native.Mathlib.Omega.{arith}
use lib.IntN.{ℤ, pos, negsuc, nat_abs}
use lib.ListN.{length, set, length-append}
use lib.Signed.{lt_z}
use Rattle.print_text.specs.Decimal.{decimal, decimal_z, glyph, decimal_one, decimal_more}
use borrow.Author.Tests.{ltb-true}
use Rattle.writing.specs.Put.{put_at, put_cons}
use Rattle.writing.specs.Write.{Wrote, wrote_both, wrote_byte, wrote_long}

-- a number of one digit
module _ (n at : ℕ) (out : List ℕ) (d : n < 10) (room : at + length (decimal n) ≤ length out) where
  pub one_fits : at < length out
  one_fits = omega (arith, ap length (decimal_one n d))

  pub one_digit : Wrote out (set out at (48 + n)) at (at + 1) (decimal n)
  one_digit = rw (decimal_one n d) (wrote_byte out at (48 + n) one_fits)

-- and one of more
module _ (n at : ℕ) (out : List ℕ) (d : 10 ≤ n) (fits : n < 2 ^ 64) (room : at + length (decimal n) ≤ length out) where
  more_long : length (decimal n) ≡ length (decimal (n / 10)) + 1
  more_long = ap length (decimal_more n d fits) ∙ length-append (decimal (n / 10)) (glyph (n % 10) ∷ [])

  pub before_fit : at + length (decimal (n / 10)) ≤ length out
  before_fit = omega (arith, more_long)

  module _ (new : List ℕ) (last : ℕ) (w : Wrote out new at last (decimal (n / 10))) where
    pub last_digit_fits : last < length new
    last_digit_fits = omega (arith, more_long, w.next, wrote_long before_fit w)

    pub last_digit : Wrote out (set new last (48 + n % 10)) at (last + 1) (decimal n)
    last_digit =
        rw (decimal_more n d fits)
        (wrote_both out new (set new last (48 + n % 10)) at last (last + 1) (decimal (n / 10)) (glyph (n % 10) ∷ []) before_fit w
        (wrote_byte new last (48 + n % 10) last_digit_fits))

-- the sign, then the size
pub after_sign : (x : ℤ) (n : ℕ) {old new : List ℕ} {at after : ℕ} → lt_z x (pos 0) ≡ true → n ≡ nat_abs x → at + length (decimal_z x) ≤ length old
    → Wrote (set old at 45) new (at + 1) after (decimal n) → Wrote old new at after (decimal_z x)
after_sign (pos m) n below size room w = absurd (omega (arith, ltb-true m 0 below))
after_sign (negsuc m) n {old} {new} {at} below size room w = record {
  next = omega (arith, w.next, ap (λ k. length (decimal k)) size);
  bytes = w.bytes ∙ ap (λ k. put_at (set old at 45) (at + 1) (decimal k)) size ∙ put_cons old at 45 (decimal (suc m)) (omega arith);
}
