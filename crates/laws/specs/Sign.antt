-- Signs. `sgn` of a product is the signs' product, and of a sum it is one of those that `plus_ok` allows. A statement
-- about finitely many signs is proved by trying all of them (`all3`, `all6`): `tt`.
use Rattle.std.specs.Prelude.{◌≡◌, refl, Bool, true, false, ◌&&◌, ℕ, zero, suc, ◌+◌, ◌*◌, ◌<◌, T, eqb, ℤ, pos, negsuc, neg_ℤ, ◌+ℤ◌, ◌*ℤ◌}
use Rattle.std.proofs.Common.{sym, ap, ◌∙◌, subst, arith, SFits, of_z, lt-ltb, ne_eqb}
use Rattle.std.proofs.Math.Path.{subst⁻¹}
use Rattle.std.proofs.Math.Dec.{leb-suc-zero}
use Rattle.std.proofs.Math.IntN.{+ℤ_idl, +ℤ_idr, zero-*ℤ, *ℤ-zero}
use Rattle.std.specs.Int.Signed.{lt_z}
use Rattle.std.specs.Int.{w64}
use Rattle.laws.specs.Test.{Is, and_l, and_r}

pub data Sgn : Type 0 where
  mns zer pls : Sgn

abbrev pub sgn : ℤ → Sgn
sgn (pos zero) = zer
sgn (pos (suc n)) = pls
sgn (negsuc n) = mns

abbrev pub flip : Sgn → Sgn
flip mns = pls
flip zer = zer
flip pls = mns

infixl 7 ◌⊗◌
abbrev pub ◌⊗◌ : Sgn → Sgn → Sgn
mns ⊗ t = flip t
zer ⊗ t = zer
pls ⊗ t = t

abbrev pub is_mns : Sgn → Bool
is_mns mns = true
is_mns zer = false
is_mns pls = false

abbrev pub eq_s : Sgn → Sgn → Bool
eq_s mns mns = true
eq_s mns zer = false
eq_s mns pls = false
eq_s zer mns = false
eq_s zer zer = true
eq_s zer pls = false
eq_s pls mns = false
eq_s pls zer = false
eq_s pls pls = true

-- which signs a sum of numbers with the first two may have
abbrev pub plus_ok : Sgn → Sgn → Sgn → Bool
plus_ok zer t u = eq_s t u
plus_ok mns mns u = eq_s mns u
plus_ok mns zer u = eq_s mns u
plus_ok mns pls u = true
plus_ok pls mns u = true
plus_ok pls zer u = eq_s pls u
plus_ok pls pls u = eq_s pls u

-- ---- every sign
abbrev pub all : (Sgn → Bool) → Bool
all p = p mns && (p zer && p pls)

all_at : (p : Sgn → Bool) → T (all p) → (s : Sgn) → T (p s)
all_at p t mns = and_l (p mns) (p zer && p pls) t
all_at p t zer = and_l (p zer) (p pls) (and_r (p mns) (p zer && p pls) t)
all_at p t pls = and_r (p zer) (p pls) (and_r (p mns) (p zer && p pls) t)

all2 : (p : Sgn → Sgn → Bool) → T (all (λ a. all (p a))) → (a b : Sgn) → T (p a b)
all2 p t a b = all_at (p a) (all_at (λ a. all (p a)) t a) b

all3' : (p : Sgn → Sgn → Sgn → Bool) → T (all (λ a. all (λ b. all (p a b)))) → (a b c : Sgn) → T (p a b c)
all3' p t a b c = all2 (p a) (all_at (λ a. all (λ b. all (p a b))) t a) b c

all4 : (p : Sgn → Sgn → Sgn → Sgn → Bool) → T (all (λ a. all (λ b. all (λ c. all (p a b c))))) → (a b c d : Sgn) → T (p a b c d)
all4 p t a b c d = all3' (p a) (all_at (λ a. all (λ b. all (λ c. all (p a b c)))) t a) b c d

pub all3 : (p : Sgn → Sgn → Sgn → Bool) → T (all (λ a. all (λ b. all (p a b)))) → (a b c : Sgn) → Is (p a b c)
all3 p t a b c = record { is = all3' p t a b c }

pub all6 : (p : Sgn → Sgn → Sgn → Sgn → Sgn → Sgn → Bool) → T (all (λ a. all (λ b. all (λ c. all (λ d. all (λ e. all (p a b c d e)))))))
    → (a b c d e f : Sgn) → Is (p a b c d e f)
all6 p t a b c d e f = record { is = all4 (p a b) (all2 (λ a b. all (λ c. all (λ d. all (λ e. all (p a b c d e))))) t a b) c d e f }

-- ---- the laws
eq_s_refl : (s : Sgn) → T (eq_s s s)
eq_s_refl mns = tt
eq_s_refl zer = tt
eq_s_refl pls = tt

eq_s_eq' : (s t : Sgn) → T (eq_s s t) → s ≡ t
eq_s_eq' mns mns h = refl
eq_s_eq' mns zer h = absurd h
eq_s_eq' mns pls h = absurd h
eq_s_eq' zer mns h = absurd h
eq_s_eq' zer zer h = refl
eq_s_eq' zer pls h = absurd h
eq_s_eq' pls mns h = absurd h
eq_s_eq' pls zer h = absurd h
eq_s_eq' pls pls h = refl

pub eq_s_eq : {s t : Sgn} → Is (eq_s s t) → s ≡ t
eq_s_eq {s} {t} h = eq_s_eq' s t h.is

up_pls : (n : ℕ) → 0 < n → sgn (pos n) ≡ pls
up_pls zero h = absurd (l h)
  where
    l : 0 < 0 → ⊥
    l h = omega arith
up_pls (suc n) h = refl

dn_mns : (n : ℕ) → 0 < n → sgn (neg_ℤ (pos n)) ≡ mns
dn_mns zero h = absurd (l h)
  where
    l : 0 < 0 → ⊥
    l h = omega arith
dn_mns (suc n) h = refl

pub sgn_zer : (x : ℤ) → sgn x ≡ zer → x ≡ pos 0
sgn_zer (pos zero) e = refl
sgn_zer (pos (suc n)) e = absurd (subst (λ s. T (eq_s s pls)) e tt)
sgn_zer (negsuc n) e = absurd (subst (λ s. T (eq_s s mns)) e tt)

prod_pos : (a b : ℕ) → 0 < suc a * suc b
prod_pos a b = omega arith

pub sgn_neg : (x : ℤ) → sgn (neg_ℤ x) ≡ flip (sgn x)
sgn_neg (pos zero) = refl
sgn_neg (pos (suc n)) = refl
sgn_neg (negsuc n) = refl

pub sgn_mul : (x y : ℤ) → sgn (x *ℤ y) ≡ sgn x ⊗ sgn y
sgn_mul (pos zero) y = ap sgn (zero-*ℤ y)
sgn_mul (pos (suc a)) (pos zero) = ap sgn (*ℤ-zero (pos (suc a)))
sgn_mul (pos (suc a)) (pos (suc b)) = up_pls (suc a * suc b) (prod_pos a b)
sgn_mul (pos (suc a)) (negsuc b) = dn_mns (suc a * suc b) (prod_pos a b)
sgn_mul (negsuc a) (pos zero) = ap sgn (*ℤ-zero (negsuc a))
sgn_mul (negsuc a) (pos (suc b)) = dn_mns (suc a * suc b) (prod_pos a b)
sgn_mul (negsuc a) (negsuc b) = up_pls (suc a * suc b) (prod_pos a b)

sum_pos : (a b : ℕ) → 0 < suc a + suc b
sum_pos a b = omega arith

sgn_add' : (x y : ℤ) → T (plus_ok (sgn x) (sgn y) (sgn (x +ℤ y)))
sgn_add' (pos zero) y = subst⁻¹ (λ z. T (eq_s (sgn y) (sgn z))) (+ℤ_idl y) (eq_s_refl (sgn y))
sgn_add' (pos (suc a)) (pos zero) = subst⁻¹ (λ z. T (eq_s pls (sgn z))) (+ℤ_idr (pos (suc a))) tt
sgn_add' (pos (suc a)) (pos (suc b)) = subst⁻¹ (λ s. T (eq_s pls s)) (up_pls (suc a + suc b) (sum_pos a b)) tt
sgn_add' (pos (suc a)) (negsuc b) = tt
sgn_add' (negsuc a) (pos zero) = subst⁻¹ (λ z. T (eq_s mns (sgn z))) (+ℤ_idr (negsuc a)) tt
sgn_add' (negsuc a) (pos (suc b)) = tt
sgn_add' (negsuc a) (negsuc b) = tt

pub sgn_add : (x y : ℤ) → Is (plus_ok (sgn x) (sgn y) (sgn (x +ℤ y)))
sgn_add x y = record { is = sgn_add' x y }

-- the shape of every use: an identity of three products
pub three : (a b c d e f : ℤ) → a *ℤ b ≡ c *ℤ d +ℤ e *ℤ f → Is (plus_ok (sgn c ⊗ sgn d) (sgn e ⊗ sgn f) (sgn a ⊗ sgn b))
three a b c d e f h =
    subst (λ s. Is (plus_ok s (sgn e ⊗ sgn f) (sgn a ⊗ sgn b))) (sgn_mul c d)
    (subst (λ s. Is (plus_ok (sgn (c *ℤ d)) s (sgn a ⊗ sgn b))) (sgn_mul e f)
    (subst (λ s. Is (plus_ok (sgn (c *ℤ d)) (sgn (e *ℤ f)) s)) (ap sgn (sym h) ∙ sgn_mul a b) (sgn_add (c *ℤ d) (e *ℤ f))))

-- ---- the code's tests of an i64 against 0
pub lt_z_sgn : (x : ℤ) → lt_z x (pos 0) ≡ is_mns (sgn x)
lt_z_sgn (pos zero) = refl
lt_z_sgn (pos (suc n)) = leb-suc-zero (suc n)
lt_z_sgn (negsuc n) = refl

pub gt_z_sgn : (x : ℤ) → lt_z (pos 0) x ≡ eq_s (sgn x) pls
gt_z_sgn (pos zero) = refl
gt_z_sgn (pos (suc n)) = lt-ltb 0 (suc n) (omega arith)
gt_z_sgn (negsuc n) = refl

pub eq0_sgn : (x : ℤ) → SFits w64 x → eqb (of_z w64 x) 0 ≡ eq_s (sgn x) zer
eq0_sgn (pos zero) h = refl
eq0_sgn (pos (suc n)) h = ne_eqb (suc n) 0 (λ e. omega arith)
eq0_sgn (negsuc n) h = ne_eqb (of_z w64 (negsuc n)) 0 (λ e. omega (arith, h.sfits))
