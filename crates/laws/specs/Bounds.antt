-- Bounds of sums, differences and products of integers, by their absolute values, and what the code's signed operations ask.
use Rattle.std.specs.Prelude.{◌≡◌, refl, ℕ, zero, suc, ◌+◌, ◌*◌, ◌≤◌, ◌<◌, ℤ, pos, negsuc, neg_ℤ, nat_abs, ◌+ℤ◌, ◌-ℤ◌, ◌*ℤ◌}
use Rattle.std.proofs.Common.{ap, ap₂, ◌∙◌, arith, mul-le-mul, le_trans, le_of_eq, SFits, to_z, of_z}
use Rattle.std.specs.Int.Signed.{mag}
use Rattle.std.specs.Int.{w32, w64}
use Rattle.std.proofs.lemmas.Int.{to_z-of_z}
use Rattle.std.proofs.Math.Facts.{sfits_widen}
use Rattle.laws.specs.Int.{up, dn, +-parts}

pub abs_parts : (x : ℤ) → nat_abs x ≡ up x + dn x
abs_parts (pos n) = omega arith
abs_parts (negsuc n) = omega arith

pub abs_neg : (x : ℤ) → nat_abs (neg_ℤ x) ≡ nat_abs x
abs_neg (pos zero) = refl
abs_neg (pos (suc n)) = refl
abs_neg (negsuc n) = refl

abs_le : (z : ℤ) (p n : ℕ) → up z + n ≡ p + dn z → nat_abs z ≤ p + n
abs_le (pos a) p n h = omega arith
abs_le (negsuc a) p n h = omega arith

pub abs_add : (x y : ℤ) → nat_abs (x +ℤ y) ≤ nat_abs x + nat_abs y
abs_add x y = go (abs_le (x +ℤ y) (up x + up y) (dn x + dn y) (+-parts x y))
  where
    go : nat_abs (x +ℤ y) ≤ (up x + up y) + (dn x + dn y) → nat_abs (x +ℤ y) ≤ nat_abs x + nat_abs y
    go h = omega (arith, abs_parts x, abs_parts y)

pub abs_sub : (x y : ℤ) → nat_abs (x -ℤ y) ≤ nat_abs x + nat_abs y
abs_sub x y = omega (arith, abs_add x (neg_ℤ y), abs_neg y)

pub abs_mul : (x y : ℤ) → nat_abs (x *ℤ y) ≡ nat_abs x * nat_abs y
abs_mul (pos a) (pos b) = refl
abs_mul (pos a) (negsuc b) = abs_neg (pos (a * suc b))
abs_mul (negsuc a) (pos b) = abs_neg (pos (suc a * b))
abs_mul (negsuc a) (negsuc b) = refl

pub mul_below : (x y : ℤ) (m n : ℕ) → nat_abs x ≤ m → nat_abs y ≤ n → nat_abs (x *ℤ y) ≤ m * n
mul_below x y m n h k = le_trans (le_of_eq (abs_mul x y)) (mul-le-mul h k)

mag_abs : (z : ℤ) → mag z ≤ nat_abs z
mag_abs (pos n) = omega arith
mag_abs (negsuc n) = omega arith

pub fits64 : (z : ℤ) → nat_abs z < 9223372036854775808 → SFits w64 z
fits64 z h = record { sfits = omega (arith, mag_abs z) }

pub fits32 : (z : ℤ) → nat_abs z < 2147483648 → SFits w32 z
fits32 z h = record { sfits = omega (arith, mag_abs z) }

-- an i32 read as an i64 is itself
pub widen : (z : ℤ) → SFits w32 z → SFits w64 z
widen z h = sfits_widen tt h

pub same64 : (z : ℤ) → nat_abs z < 9223372036854775808 → to_z w64 (of_z w64 z) ≡ z
same64 z h = to_z-of_z w64 z (fits64 z h)

pub same32 : (z : ℤ) → nat_abs z < 2147483648 → to_z w32 (of_z w32 z) ≡ z
same32 z h = to_z-of_z w32 z (fits32 z h)

-- an i32 cast to an i64
pub cast64 : (z : ℤ) → SFits w32 z → to_z w64 (of_z w64 (to_z w32 (of_z w32 z))) ≡ z
cast64 z h = ap (λ t. to_z w64 (of_z w64 t)) (to_z-of_z w32 z h) ∙ to_z-of_z w64 z (widen z h)

pub cast_fits : (z : ℤ) → SFits w32 z → SFits w64 (to_z w32 (of_z w32 z))
cast_fits z h = rw (to_z-of_z w32 z h) (widen z h)

-- the value of an i64, as an operation reads it
abbrev pub Z : ℤ → ℤ
Z z = to_z w64 (of_z w64 z)

-- an operand as an operation reads it: A, which is a, within m
pub record Read (m : ℕ) (A a : ℤ) : Type 0 where
  pub is : A ≡ a
  pub within : nat_abs a ≤ m

-- an i64, and an i32 cast to an i64
pub read64 : {m : ℕ} (a : ℤ) → m < 9223372036854775808 → nat_abs a ≤ m → Read m (Z a) a
read64 a r h = record { is = same64 a (omega arith); within = h }

pub read32 : {m : ℕ} (a : ℤ) → m < 2147483648 → nat_abs a ≤ m → Read m (Z (to_z w32 (of_z w32 a))) a
read32 a r h = record { is = cast64 a (fits32 a (omega arith)); within = h }

-- the product of two such operands, as the code computes it
module _ (m : ℕ) (room : 2 * (m * m) < 9223372036854775808) {A B a b : ℤ} (ra : Read m A a) (rb : Read m B b) where
  mul_is : A *ℤ B ≡ a *ℤ b
  mul_is = ap₂ ◌*ℤ◌ ra.is rb.is

  mul_small : nat_abs (a *ℤ b) ≤ m * m
  mul_small = mul_below a b m m ra.within rb.within

  pub mul_fits : SFits w64 (A *ℤ B)
  mul_fits = rw mul_is (fits64 (a *ℤ b) (omega (arith, mul_small)))

  mul_value : Z (A *ℤ B) ≡ a *ℤ b
  mul_value = ap Z mul_is ∙ same64 (a *ℤ b) (omega (arith, mul_small))

-- the difference and the sum of two such products, as the code computes them
module _ (m : ℕ) (room : 2 * (m * m) < 9223372036854775808) {A B C D a b c d : ℤ} (ra : Read m A a) (rb : Read m B b) (rc : Read m C c) (rd : Read m D d) where
  pub sub_small : nat_abs (a *ℤ b -ℤ c *ℤ d) ≤ 2 * (m * m)
  sub_small = omega (arith, abs_sub (a *ℤ b) (c *ℤ d), mul_small m room ra rb, mul_small m room rc rd)

  pub add_small : nat_abs (a *ℤ b +ℤ c *ℤ d) ≤ 2 * (m * m)
  add_small = omega (arith, abs_add (a *ℤ b) (c *ℤ d), mul_small m room ra rb, mul_small m room rc rd)

  sub_is : Z (A *ℤ B) -ℤ Z (C *ℤ D) ≡ a *ℤ b -ℤ c *ℤ d
  sub_is = ap₂ ◌-ℤ◌ (mul_value m room ra rb) (mul_value m room rc rd)

  add_is : Z (A *ℤ B) +ℤ Z (C *ℤ D) ≡ a *ℤ b +ℤ c *ℤ d
  add_is = ap₂ ◌+ℤ◌ (mul_value m room ra rb) (mul_value m room rc rd)

  pub sub_fits : SFits w64 (Z (A *ℤ B) -ℤ Z (C *ℤ D))
  sub_fits = rw sub_is (fits64 (a *ℤ b -ℤ c *ℤ d) (omega (arith, sub_small)))

  pub add_fits : SFits w64 (Z (A *ℤ B) +ℤ Z (C *ℤ D))
  add_fits = rw add_is (fits64 (a *ℤ b +ℤ c *ℤ d) (omega (arith, add_small)))

  pub sub_value : Z (Z (A *ℤ B) -ℤ Z (C *ℤ D)) ≡ a *ℤ b -ℤ c *ℤ d
  sub_value = ap Z sub_is ∙ same64 (a *ℤ b -ℤ c *ℤ d) (omega (arith, sub_small))

  pub add_value : Z (Z (A *ℤ B) +ℤ Z (C *ℤ D)) ≡ a *ℤ b +ℤ c *ℤ d
  add_value = ap Z add_is ∙ same64 (a *ℤ b +ℤ c *ℤ d) (omega (arith, add_small))
