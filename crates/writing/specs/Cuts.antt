-- The front part of a list that is long enough.
use Rattle.std.specs.Prelude.{ℕ, ◌≤◌, ◌≡◌, List, length, take}
use Rattle.std.proofs.Common.{arith, length-take}

-- what a cut at n asks for
pub record Cut {A : Type 0} (n : ℕ) (l : List A) : Type 0 where
  pub fits : n ≤ length l
  pub long : n ≡ length (take n l)

pub cut_long : {A : Type 0} {n : ℕ} (l : List A) → n ≤ length l → n ≡ length (take n l)
cut_long {A} {n} l h = omega (arith, length-take n l)

pub cut : {A : Type 0} (n : ℕ) (l : List A) → n ≤ length l → Cut n l
cut n l h = record { fits = h; long = cut_long l h }
