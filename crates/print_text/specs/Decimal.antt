-- Numbers in decimal, and what makes the digits right: they are digits, none leads with a zero, and their value is the number.
use Prim.Native.Nat.{ℕ, zero, suc, ◌+◌, ◌-◌, ◌*◌, ◌/◌, ◌%◌, ◌^◌, ◌≤◌, ◌<◌}
use Rattle.std.specs.Prelude.{◌≡◌, Bool, true, false, List, [], ◌∷◌, ◌++◌, ltb, ℤ, pos, negsuc, length, get_or}
use Rattle.std.proofs.Math.Path.{refl}
use Rattle.std.proofs.Common.{sym, ap, ◌∙◌, pow-suc, arith, lt-ltb, le-ltb, ltb-true, ltb-false, length-append}
use Rattle.std.proofs.Math.ListN.{get_or-append}
use Rattle.std.proofs.Math.Seq.{get_or-append_seam}
use Rattle.laws.specs.Test.{pick, pick_ind}

-- a digit as a character: '0' is 48
abbrev pub glyph : ℕ → ℕ
glyph d = 48 + d

-- the digits of n, the most significant first, in at most `more` digits and one
unfoldable pub digits : ℕ → ℕ → List ℕ
digits zero n = glyph n ∷ []
digits (suc more) n = pick (ltb n 10) (glyph n ∷ []) (digits more (n / 10) ++ (glyph (n % 10) ∷ []))

-- twenty digits hold every number of 64 bits
abbrev pub decimal : ℕ → List ℕ
decimal n = digits 19 n

abbrev pub decimal_z : ℤ → List ℕ
decimal_z (pos n) = decimal n
decimal_z (negsuc n) = 45 ∷ decimal (suc n)

-- a text and a number after it
abbrev pub said : List ℕ → ℕ → List ℕ
said word n = word ++ decimal n

-- ---- more room than is needed changes nothing

tenth : (f n : ℕ) → n < 10 ^ suc (suc f) → n / 10 < 10 ^ suc f
tenth f n h = by (10 ^ suc f) (rw pow-suc at h)
  where
    by : (m : ℕ) → n < m * 10 → n / 10 < m
    by m h = omega arith

module _ (n : ℕ) where
  digits_one : (f : ℕ) → n < 10 → digits f n ≡ glyph n ∷ []
  unfolding digits
  digits_one zero h = refl
  digits_one (suc f) h = rw (lt-ltb n 10 h)

  digits_more : (f : ℕ) → 10 ≤ n → digits (suc f) n ≡ digits f (n / 10) ++ (glyph (n % 10) ∷ [])
  unfolding digits
  digits_more f h = rw (le-ltb n 10 h)

below_ten : (n : ℕ) → n < 10 ^ suc zero → n < 10
below_ten n h = omega arith

by_test : (f g n : ℕ) (b : Bool) → ltb n 10 ≡ b → (10 ≤ n → digits f (n / 10) ≡ digits g (n / 10)) → digits (suc f) n ≡ digits (suc g) n
by_test f g n true e same = digits_one n (suc f) (ltb-true n 10 e) ∙ sym (digits_one n (suc g) (ltb-true n 10 e))
by_test f g n false e same =
    let h = ltb-false n 10 e in
    digits_more n f h ∙ ap (λ (l : List ℕ). l ++ (glyph (n % 10) ∷ [])) (same h) ∙ sym (digits_more n g h)

pub digits_enough : (f g n : ℕ) → n < 10 ^ suc f → n < 10 ^ suc g → digits f n ≡ digits g n
digits_enough zero g n h k = digits_one n zero (below_ten n h) ∙ sym (digits_one n g (below_ten n h))
digits_enough (suc f) zero n h k = digits_one n (suc f) (below_ten n k) ∙ sym (digits_one n zero (below_ten n k))
digits_enough (suc f) (suc g) n h k = by_test f g n (ltb n 10) refl (λ t. digits_enough f g (n / 10) (tenth f n h) (tenth g n k))

-- the two ways in which a number of 64 bits is written
pub decimal_one : (n : ℕ) → n < 10 → decimal n ≡ glyph n ∷ []
decimal_one n h = digits_one n 19 h

pub decimal_more : (n : ℕ) → 10 ≤ n → n < 2 ^ 64 → decimal n ≡ decimal (n / 10) ++ (glyph (n % 10) ∷ [])
decimal_more n h k =
    digits_more n 18 h
    ∙ ap (λ (l : List ℕ). l ++ (glyph (n % 10) ∷ [])) (digits_enough 18 19 (n / 10) (omega arith) (omega arith))

-- ---- the digits are right

unfoldable pub value_from : ℕ → List ℕ → ℕ
value_from v [] = v
value_from v (d ∷ ds) = value_from (v * 10 + (d - 48)) ds

-- what a reader of decimal numbers makes of them
abbrev pub value : List ℕ → ℕ
value = value_from 0

value_last : (v : ℕ) (l : List ℕ) (d : ℕ) → value_from v (l ++ (d ∷ [])) ≡ value_from v l * 10 + (d - 48)
unfolding value_from
value_last v [] d = refl
value_last v (x ∷ xs) d = value_last (v * 10 + (x - 48)) xs d

value_one : (d : ℕ) → value (glyph d ∷ []) ≡ d
unfolding value_from
value_one d = omega arith

-- a fact of every number, from the two ways in which it is written
module _ (P : ℕ → List ℕ → Type 0) (one : (n : ℕ) → n < 10 → P n (glyph n ∷ [])) (more : (n : ℕ) (l : List ℕ) → 10 ≤ n → P (n / 10) l
    → P n (l ++ (glyph (n % 10) ∷ []))) where
  by_digits : (f n : ℕ) → n < 10 ^ suc f → P n (digits f n)
  unfolding digits
  by_digits zero n h = one n (below_ten n h)
  by_digits (suc f) n h =
      pick_ind (ltb n 10) (glyph n ∷ []) (digits f (n / 10) ++ (glyph (n % 10) ∷ [])) (P n)
      (λ t. one n (ltb-true n 10 t))
      (λ t. more n (digits f (n / 10)) (ltb-false n 10 t) (by_digits f (n / 10) (tenth f n h)))

-- their value is the number
pub value_decimal : (n : ℕ) → n < 2 ^ 64 → value (decimal n) ≡ n
value_decimal n h =
    by_digits (λ n l. value l ≡ n) (λ n k. value_one n)
    (λ n l k e. value_last 0 l (glyph (n % 10)) ∙ last_digit n (value l) e)
    19 n (omega arith)
  where
    last_digit : (n v : ℕ) → v ≡ n / 10 → v * 10 + (48 + n % 10 - 48) ≡ n
    last_digit n v e = omega arith

-- none is missing, each is a digit, and the first is '0' only for 0 itself
pub record DigitsRight (n : ℕ) (l : List ℕ) : Type 0 where
  pub some : 0 < length l
  pub each : (i : ℕ) → i < length l → (48 ≤ get_or l i 0) × (get_or l i 0 < 58)
  pub leading : 0 < n → 48 < get_or l 0 0

one_right : (n : ℕ) → n < 10 → DigitsRight n (glyph n ∷ [])
one_right n h = record { some = omega arith; each = each; leading = λ z. omega arith }
  where
    each : (i : ℕ) → i < 1 → (48 ≤ get_or (glyph n ∷ []) i 0) × (get_or (glyph n ∷ []) i 0 < 58)
    each zero k = (omega arith, omega arith)
    each (suc i) k = absurd (never i k)
      where
        never : (i : ℕ) → suc i < 1 → ⊥
        never i k = omega arith

more_right : (n d : ℕ) (l : List ℕ) → 10 ≤ n → d < 10 → DigitsRight (n / 10) l → DigitsRight n (l ++ (glyph d ∷ []))
more_right n d l h k e = record {
  some = omega (arith, length-append l (glyph d ∷ []));
  each = λ i b. by i (ltb i (length l)) refl (omega (arith, length-append l (glyph d ∷ [])));
  leading = λ z. rw (get_or-append l (glyph d ∷ []) 0 0 e.some) (e.leading (omega arith));
}
  where
    by : (i : ℕ) (t : Bool) → ltb i (length l) ≡ t → i ≤ length l → (48 ≤ get_or (l ++ (glyph d ∷ [])) i 0) × (get_or (l ++ (glyph d ∷ [])) i 0 < 58)
    by i true t b = let q = ltb-true i (length l) t in rw (get_or-append l (glyph d ∷ []) 0 i q) (e.each i q)
    by i false t b =
        let q : i ≡ length l = omega (arith, ltb-false i (length l) t) in
        rw (q, get_or-append_seam l (glyph d) [] 0) (omega arith, omega arith)

pub right_decimal : (n : ℕ) → n < 2 ^ 64 → DigitsRight n (decimal n)
right_decimal n h = by_digits DigitsRight one_right (λ n l k e. more_right n (n % 10) l k (omega arith) e) 19 n (omega arith)

-- a number below 10 ^ k has at most k digits
pub length_digits : (f k n : ℕ) → n < 10 ^ suc f → n < 10 ^ suc k → length (digits f n) ≤ suc k
unfolding digits
length_digits f k n h g = rw (digits_enough f k n h g) (short k n)
  where
    short : (k n : ℕ) → length (digits k n) ≤ suc k
    short zero n = omega arith
    short (suc k) n =
        pick_ind (ltb n 10) (glyph n ∷ []) (digits k (n / 10) ++ (glyph (n % 10) ∷ [])) (λ (l : List ℕ). length l ≤ suc (suc k))
        (λ t. omega arith)
        (λ t. omega (arith, length-append (digits k (n / 10)) (glyph (n % 10) ∷ []), short k (n / 10)))
