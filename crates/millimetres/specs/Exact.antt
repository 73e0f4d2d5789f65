-- Nothing is lost and one thing is rounded: up to 2^53 a whole number is a float, and its quotient is the float nearest to the exact one.
use Rattle.std.specs.Prelude.{ℕ, zero, suc, ◌+◌, ◌*◌, ◌^◌, ◌≤◌, ◌<◌, ◌≡◌, refl, Bool, true, false, cond, T, ltb, ℤ, pos, negsuc, nat_abs, Float}
use Rattle.std.proofs.Common.{arith, lt_irrefl, zero-mul, mul_comm, mul_assoc, mul-pos, ap, ◌∙◌, subst, le→leb, lt→ltb, ne_eqb}
use Rattle.std.specs.Float.{nan, inf, fin, binary64, Format}
use Rattle.std.specs.Float.Ieee.{prec, emax, up, down, unlike, low, odd, units, round, div, of_int, to_signed, in_float, is_nan}
use Rattle.std.specs.Float.Ieee.Exact.{HasValue}
use Rattle.std.specs.Float.Ieee.Back.{round_whole, positive_back, negative_back}
use Rattle.std.specs.Float.Ieee.Fits.{down_pos}
use Rattle.std.specs.Float.Ieee.Scale.{round_same}
use Rattle.millimetres.specs.Millimetres.{quotient}

-- the whole numbers that are floats, all of them: those up to this
abbrev pub exact_to : ℕ
exact_to = 2 ^ 53

abbrev pub negative : ℤ → Bool
negative (pos n) = false
negative (negsuc n) = true

-- ---- "made a float with nothing lost": the float is the number, and comes back as it
pub cast_asked : (z : ℤ) → nat_abs z ≤ exact_to → T (in_float binary64 z)
unfolding in_float
cast_asked (pos n) h = le→leb n exact_to h
cast_asked (negsuc n) h = lt→ltb n exact_to h

pub cast_value : (z : ℤ) → nat_abs z ≤ exact_to → HasValue (of_int binary64 z) (negative z) (nat_abs z) 1
unfolding of_int
cast_value (pos n) h = round_whole binary64 false n h
cast_value (negsuc n) h = round_whole binary64 true (suc n) h

pub cast_back : (z : ℤ) → nat_abs z ≤ exact_to → to_signed 63 (of_int binary64 z) ≡ z
cast_back (pos n) h = (positive_back binary64 63 n (cast_asked (pos n) h) (omega arith)).1
cast_back (negsuc n) h = (negative_back binary64 63 n (cast_asked (negsuc n) h) (omega arith)).1

-- ---- "and divided once": what is rounded is the exact quotient, and nothing else is rounded
like_plus : (s : Bool) → unlike s false ≡ s
like_plus true = refl
like_plus false = refl

-- x / u is a and y / v is b, so x v / (y u) is a / b
crossed : (x y u v a b : ℕ) → x * 1 ≡ a * u → y * 1 ≡ b * v → x * v * b ≡ a * (y * u)
crossed x y u v a b h k =
    let p : x ≡ a * u = omega arith in
    let q : y ≡ b * v = omega arith in
    rw (p, q)
    (mul_assoc (a * u) v b ∙ mul_assoc a u (v * b) ∙ ap (λ n. a * n) (mul_comm u (v * b) ∙ ap (λ n. n * u) (mul_comm v b)))

-- the quotient of a whole number and of one above 0
div_value : (x y : Float) (s : Bool) (a b : ℕ) → HasValue x s a 1 → HasValue y false b 1 → 0 < b → div binary64 x y ≡ round binary64 s a b
unfolding div
div_value nan y s a b h k l = absurd h
div_value (inf t) y s a b h k l = absurd h
div_value (fin t m e) nan s a b h k l = absurd k
div_value (fin t m e) (inf r) s a b h k l = absurd k
div_value (fin t m e) (fin r n d) s a b h k l =
    rw (ne_eqb n 0 some, k.0, like_plus t, h.0)
    (round_same binary64 s (m * up e * down d) (n * up d * down e) a b (mul-pos above (down_pos e)) l
    (crossed (m * up e) (n * up d) (down e) (down d) a b h.1 k.1))
  where
    above : 0 < n * up d
    above = let w = mul-pos l (down_pos d) in omega (arith, k.1)

    some : n ≡ 0 → ⊥
    some z = lt_irrefl 0 (rw (zero-mul (up d)) at (subst (λ (i : ℕ). 0 < i * up d) z above))

pub rounded_once : (z : ℤ) (d : ℕ) → nat_abs z ≤ exact_to → 0 < d → d ≤ exact_to → quotient z d ≡ round binary64 (negative z) (nat_abs z) d
rounded_once z d h l k = div_value (of_int binary64 z) (of_int binary64 (pos d)) (negative z) (nat_abs z) d (cast_value z h) (cast_value (pos d) k) l

-- ---- what is rounded is a number
odd_number : (d : ℕ) (s : Bool) (q k l : ℕ) → is_nan (odd d s q k l) ≡ false
unfolding odd is_nan
odd_number d s zero k l = refl
odd_number d s (suc q) k l = refl

units_number : (f : Format) (s : Bool) (q k : ℕ) → is_nan (units f s q k) ≡ false
unfolding units is_nan
units_number f s q k = go (ltb (q * 2 ^ k) (2 ^ (low f + suc (emax f))))
  where
    go : (b : Bool) → is_nan (cond b (odd (suc (prec f)) s q k (low f)) (inf s)) ≡ false
    go true = odd_number (suc (prec f)) s q k (low f)
    go false = refl

round_number : (f : Format) (s : Bool) (a b : ℕ) → is_nan (round f s a b) ≡ false
unfolding round
round_number f s a b = units_number f s _ _

pub quotient_number : (z : ℤ) (d : ℕ) → nat_abs z ≤ exact_to → 0 < d → d ≤ exact_to → is_nan (quotient z d) ≡ false
quotient_number z d h l k = ap is_nan (rounded_once z d h l k) ∙ round_number binary64 (negative z) (nat_abs z) d
