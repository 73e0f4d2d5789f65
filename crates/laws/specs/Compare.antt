-- Comparisons that decide level by level (`lower`, `lower_n`), by the sign of a difference: a comparison that is strict,
-- transitive and total at every level is so as a whole.
use Rattle.std.specs.Prelude.{ℕ, suc, ◌<◌, Bool, not, ◌&&◌, ◌||◌, true, false, ltb, T, ℤ, pos, neg_ℤ, ◌-ℤ◌, ◌<ℤ◌, ◌≤ℤ◌, ◌≡◌, refl, [], ◌∷◌, ◌⊎◌}
use Rattle.std.specs.Int.Signed.{lt_z, le_z, ≤ℤ_refl, lt_z_no}
use Rattle.std.proofs.Common.{sym, ap, ◌∙◌, inl, inr, arith, le_refl, lt-ltb, le-ltb}
use Rattle.std.proofs.Math.Decide.{dec_le}
use Rattle.laws.specs.Test.{Is, is_true, not_true, true≢false, true_is}
use Rattle.laws.specs.Ring.{ring, var, con, ◌:-◌, neg}
use Rattle.laws.specs.Sign.{Sgn, mns, zer, pls, sgn, flip, plus_ok, sgn_neg}
use Rattle.laws.specs.Order.{lin, tricho, sub_pos, <-sgn}

-- x before y, and the rest where they are equal
abbrev pub lower : ℤ → ℤ → Bool → Bool
lower x y rest = lt_z x y || (not (lt_z y x) && rest)

abbrev pub lower_n : ℕ → ℕ → Bool → Bool
lower_n m n rest = ltb m n || (not (ltb n m) && rest)

-- ---- a test of two integers and the fact that it tells
pub yes_lt : {x y : ℤ} → x <ℤ y → lt_z x y ≡ true
yes_lt h = is_true (record { is = h.lt })

pub no_lt : {x y : ℤ} → y ≤ℤ x → lt_z x y ≡ false
no_lt {x} {y} h = not_true (lt_z x y) (λ e. absurd (clash (record { lt = (true_is e).is })))
  where
    clash : x <ℤ y → ⊥
    clash k = omega lin

pub yes_le : {x y : ℤ} → x ≤ℤ y → le_z x y ≡ true
yes_le h = is_true (record { is = h.le })

pub no_le : {x y : ℤ} → y <ℤ x → le_z x y ≡ false
no_le {x} {y} h = not_true (le_z x y) (λ e. absurd (clash (record { le = (true_is e).is })))
  where
    clash : x ≤ℤ y → ⊥
    clash k = omega lin

pub lt_yes : (x y : ℤ) → lt_z x y ≡ true → x <ℤ y
lt_yes x y e = record { lt = (true_is e).is }

pub lt_no : (x y : ℤ) → lt_z x y ≡ false → y ≤ℤ x
lt_no x y e = lt_z_no (rw e tt)

pub le_yes : (x y : ℤ) → le_z x y ≡ true → x ≤ℤ y
le_yes x y e = record { le = (true_is e).is }

pub le_no : (x y : ℤ) → le_z x y ≡ false → y <ℤ x
le_no x y e = go (tricho x y)
  where
    no : x ≤ℤ y → ⊥
    no l = true≢false (yes_le l) e

    go : (x <ℤ y) ⊎ ((x ≡ y) ⊎ (y <ℤ x)) → y <ℤ x
    go (inl l) = absurd (no (omega lin))
    go (inr (inl q)) = absurd (no (rw q (≤ℤ_refl y)))
    go (inr (inr l)) = l

-- ---- by the sign of the difference
abbrev pub by_sign : Sgn → Bool → Bool
by_sign mns r = true
by_sign zer r = r
by_sign pls r = false

minus : (x y : ℤ) → x -ℤ y ≡ neg_ℤ (y -ℤ x)
minus x y = ring (x ∷ y ∷ []) (var 0 :- var 1) (neg (var 1 :- var 0)) tt

sgn_lt : (x y : ℤ) → x <ℤ y → sgn (x -ℤ y) ≡ mns
sgn_lt x y h = ap sgn (minus x y) ∙ sgn_neg (y -ℤ x) ∙ ap flip (<-sgn (y -ℤ x) (sub_pos x y h))

sgn_eq : (x : ℤ) → sgn (x -ℤ x) ≡ zer
sgn_eq x = ap sgn (ring (x ∷ []) (var 0 :- var 0) (con (pos 0)) tt)

pub lower_sign : (x y : ℤ) (r : Bool) → lower x y r ≡ by_sign (sgn (x -ℤ y)) r
lower_sign x y r = go (tricho x y)
  where
    go : (x <ℤ y) ⊎ ((x ≡ y) ⊎ (y <ℤ x)) → lower x y r ≡ by_sign (sgn (x -ℤ y)) r
    go (inl h) = rw (yes_lt h, sgn_lt x y h)
    go (inr (inl e)) = rw (e, no_lt (≤ℤ_refl y), sgn_eq y)
    go (inr (inr h)) =
        let l : y ≤ℤ x = omega lin in
        rw (no_lt l, yes_lt h, <-sgn (x -ℤ y) (sub_pos y x h))

sign_trans : (a b c : Sgn) (r s t : Bool) → T (plus_ok a b c) → (T r → T s → T t) → T (by_sign a r) → T (by_sign b s) → T (by_sign c t)
sign_trans mns b mns r s t o f p q = tt
sign_trans mns mns zer r s t o f p q = absurd o
sign_trans mns mns pls r s t o f p q = absurd o
sign_trans mns zer zer r s t o f p q = absurd o
sign_trans mns zer pls r s t o f p q = absurd o
sign_trans mns pls zer r s t o f p q = absurd q
sign_trans mns pls pls r s t o f p q = absurd q
sign_trans zer mns mns r s t o f p q = tt
sign_trans zer mns zer r s t o f p q = absurd o
sign_trans zer mns pls r s t o f p q = absurd o
sign_trans zer zer mns r s t o f p q = absurd o
sign_trans zer zer zer r s t o f p q = f p q
sign_trans zer zer pls r s t o f p q = absurd o
sign_trans zer pls c r s t o f p q = absurd q
sign_trans pls b c r s t o f p q = absurd p

-- ---- transitive, where the differences' signs add up
pub lower_trans : (x y x' y' x'' y'' : ℤ) (r s t : Bool) → Is (plus_ok (sgn (x -ℤ y)) (sgn (x' -ℤ y')) (sgn (x'' -ℤ y'')))
    → (T r → T s → T t) → T (lower x y r) → T (lower x' y' s) → T (lower x'' y'' t)
lower_trans x y x' y' x'' y'' r s t o f p q =
    rw (lower_sign x'' y'' t)
    (sign_trans (sgn (x -ℤ y)) (sgn (x' -ℤ y')) (sgn (x'' -ℤ y'')) r s t o.is f (rw (lower_sign x y r) at p) (rw (lower_sign x' y' s) at q))

lower_n_out : (m n : ℕ) (r : Bool) → T (lower_n m n r) → (m < n) ⊎ ((m ≡ n) × T r)
lower_n_out m n r p = go (dec_le (suc m) n) (dec_le (suc n) m)
  where
    go : Dec (m < n) → Dec (n < m) → (m < n) ⊎ ((m ≡ n) × T r)
    go (yes h) d = inl h
    go (no h) (yes k) = absurd (rw (le-ltb m n (omega arith), lt-ltb n m k) at p)
    go (no h) (no k) = inr (omega arith, rw (le-ltb m n (omega arith), le-ltb n m (omega arith)) at p)

pub lower_n_trans : (m n l : ℕ) (r s t : Bool) → (T r → T s → T t) → T (lower_n m n r) → T (lower_n n l s) → T (lower_n m l t)
lower_n_trans m n l r s t f p q = go (lower_n_out m n r p) (lower_n_out n l s q)
  where
    go : (m < n) ⊎ ((m ≡ n) × T r) → (n < l) ⊎ ((n ≡ l) × T s) → T (lower_n m l t)
    go (inl h) (inl k) = rw (lt-ltb m l (omega arith)) tt
    go (inl h) (inr (k, v)) = rw (lt-ltb m l (omega arith)) tt
    go (inr (h, u)) (inl k) = rw (lt-ltb m l (omega arith)) tt
    go (inr (h, u)) (inr (k, v)) = rw (le-ltb m l (omega arith), le-ltb l m (omega arith)) (f u v)

-- ---- equal at a level: the rest decides
pub lower_same : (x : ℤ) (r : Bool) → lower x x r ≡ r
lower_same x r = rw (no_lt (≤ℤ_refl x))

pub lower_n_same : (m : ℕ) (r : Bool) → lower_n m m r ≡ r
lower_n_same m r = rw (le-ltb m m (le_refl m))

-- ---- neither way: equal at that level, and so by the rest
pub lower_neither : (x y : ℤ) (r s : Bool) → lower x y r ≡ false → lower y x s ≡ false → (x ≡ y) × (r ≡ false) × (s ≡ false)
lower_neither x y r s p q = go (tricho x y)
  where
    go : (x <ℤ y) ⊎ ((x ≡ y) ⊎ (y <ℤ x)) → (x ≡ y) × (r ≡ false) × (s ≡ false)
    go (inl h) = absurd (true≢false refl (rw (yes_lt h) at p))
    go (inr (inl e)) = (e, sym (lower_same y r) ∙ rw e at p, sym (lower_same y s) ∙ rw e at q)
    go (inr (inr h)) = absurd (true≢false refl (rw (yes_lt h) at q))

pub lower_n_neither : (m n : ℕ) (r s : Bool) → lower_n m n r ≡ false → lower_n n m s ≡ false → (m ≡ n) × (r ≡ false) × (s ≡ false)
lower_n_neither m n r s p q = go (dec_le (suc m) n) (dec_le (suc n) m)
  where
    go : Dec (m < n) → Dec (n < m) → (m ≡ n) × (r ≡ false) × (s ≡ false)
    go (yes h) d = absurd (true≢false refl (rw (lt-ltb m n h) at p))
    go (no h) (yes k) = absurd (true≢false refl (rw (lt-ltb n m k) at q))
    go (no h) (no k) =
        let e : m ≡ n = omega arith in
        (e, sym (lower_n_same n r) ∙ rw e at p, sym (lower_n_same n s) ∙ rw e at q)
