-- Polynomial identities over ℤ by computation: `ring ρ a b tt` proves that two expressions have equal values at the
-- integers ρ, where their difference multiplied out has only coefficients 0.
use Rattle.std.specs.Prelude.{◌≡◌, refl, List, [], ◌∷◌, Bool, true, false, ◌&&◌, ℕ, zero, suc, T, leb, eqb, ℤ, pos, negsuc, neg_ℤ, ◌+ℤ◌, ◌-ℤ◌, ◌*ℤ◌}
use Rattle.std.proofs.Common.{sym, ap, ap₂, ◌∙◌, eqb→eq}
use Rattle.std.proofs.Math.IntN.{*ℤ_comm, +ℤ_assoc, +ℤ_idl, +ℤ_idr, zero-*ℤ, *ℤ-zero}
use Rattle.laws.specs.Test.{pick, pick_ind, true_is, and_l, and_r}
use Rattle.laws.specs.Int.{*ℤ-assoc, +*ℤ-dist, *ℤ-+-dist, +ℤ-left, *ℤ-left, one-*ℤ, neg-*ℤ, sub_zero_eq}

infixl 6 ◌:+◌ ◌:-◌
infixl 7 ◌:*◌
pub data Ex : Type 0 where
  var : ℕ → Ex
  con : ℤ → Ex
  ◌:+◌ : Ex → Ex → Ex
  ◌:-◌ : Ex → Ex → Ex
  ◌:*◌ : Ex → Ex → Ex
  neg : Ex → Ex

abbrev pub nth : List ℤ → ℕ → ℤ
nth [] i = pos 0
nth (x ∷ ρ) zero = x
nth (x ∷ ρ) (suc i) = nth ρ i

abbrev pub eval : Ex → List ℤ → ℤ
eval (var i) ρ = nth ρ i
eval (con c) ρ = c
eval (a :+ b) ρ = eval a ρ +ℤ eval b ρ
eval (a :- b) ρ = eval a ρ -ℤ eval b ρ
eval (a :* b) ρ = eval a ρ *ℤ eval b ρ
eval (neg a) ρ = neg_ℤ (eval a ρ)

-- a polynomial: a list of a coefficient with a monomial, which is the sorted list of its variables
pub data Poly : Type 0 where
  nil : Poly
  term : ℤ → List ℕ → Poly → Poly

abbrev pub ins : ℕ → List ℕ → List ℕ
ins i [] = i ∷ []
ins i (j ∷ m) = pick (leb i j) (i ∷ j ∷ m) (j ∷ ins i m)

abbrev pub mul_m : List ℕ → List ℕ → List ℕ
mul_m [] m = m
mul_m (i ∷ n) m = ins i (mul_m n m)

abbrev pub eq_m : List ℕ → List ℕ → Bool
eq_m [] [] = true
eq_m [] (j ∷ n) = false
eq_m (i ∷ m) [] = false
eq_m (i ∷ m) (j ∷ n) = eqb i j && eq_m m n

abbrev pub add_t : ℤ → List ℕ → Poly → Poly
add_t c m nil = term c m nil
add_t c m (term d n p) = pick (eq_m m n) (term (c +ℤ d) n p) (term d n (add_t c m p))

abbrev pub add_p : Poly → Poly → Poly
add_p nil q = q
add_p (term c m p) q = add_t c m (add_p p q)

abbrev pub scale : ℤ → List ℕ → Poly → Poly
scale c m nil = nil
scale c m (term d n q) = term (c *ℤ d) (mul_m m n) (scale c m q)

abbrev pub mul_p : Poly → Poly → Poly
mul_p nil q = nil
mul_p (term c m p) q = add_p (scale c m q) (mul_p p q)

abbrev pub norm : Ex → Poly
norm (var i) = term (pos 1) (i ∷ []) nil
norm (con c) = term c [] nil
norm (a :+ b) = add_p (norm a) (norm b)
norm (a :- b) = add_p (norm a) (scale (negsuc 0) [] (norm b))
norm (a :* b) = mul_p (norm a) (norm b)
norm (neg a) = scale (negsuc 0) [] (norm a)

abbrev pub is_z : ℤ → Bool
is_z (pos zero) = true
is_z (pos (suc n)) = false
is_z (negsuc n) = false

abbrev pub zero_p : Poly → Bool
zero_p nil = true
zero_p (term c m p) = is_z c && zero_p p

-- ---- it is right

abbrev eval_m : List ℕ → List ℤ → ℤ
eval_m [] ρ = pos 1
eval_m (i ∷ m) ρ = nth ρ i *ℤ eval_m m ρ

abbrev eval_p : Poly → List ℤ → ℤ
eval_p nil ρ = pos 0
eval_p (term c m p) ρ = c *ℤ eval_m m ρ +ℤ eval_p p ρ

eq_m_eq : (m n : List ℕ) → T (eq_m m n) → m ≡ n
eq_m_eq [] [] t = refl
eq_m_eq [] (j ∷ n) t = absurd t
eq_m_eq (i ∷ m) [] t = absurd t
eq_m_eq (i ∷ m) (j ∷ n) t = ap₂ ◌∷◌ (eqb→eq i j (and_l (eqb i j) (eq_m m n) t)) (eq_m_eq m n (and_r (eqb i j) (eq_m m n) t))

module _ (ρ : List ℤ) where
  ins_is : (i : ℕ) (m : List ℕ) → eval_m (ins i m) ρ ≡ nth ρ i *ℤ eval_m m ρ
  ins_is i [] = refl
  ins_is i (j ∷ m) = pick_ind (leb i j) (i ∷ j ∷ m) (j ∷ ins i m) (λ l. eval_m l ρ ≡ nth ρ i *ℤ (nth ρ j *ℤ eval_m m ρ))
      (λ _. refl) (λ _. ap (λ t. nth ρ j *ℤ t) (ins_is i m) ∙ *ℤ-left (nth ρ j) (nth ρ i) (eval_m m ρ))

  mul_m_is : (m n : List ℕ) → eval_m (mul_m m n) ρ ≡ eval_m m ρ *ℤ eval_m n ρ
  mul_m_is [] n = sym (one-*ℤ (eval_m n ρ))
  mul_m_is (i ∷ m) n = ins_is i (mul_m m n) ∙ ap (λ t. nth ρ i *ℤ t) (mul_m_is m n) ∙ sym (*ℤ-assoc (nth ρ i) (eval_m m ρ) (eval_m n ρ))

  add_t_is : (c : ℤ) (m : List ℕ) (p : Poly) → eval_p (add_t c m p) ρ ≡ c *ℤ eval_m m ρ +ℤ eval_p p ρ
  add_t_is c m nil = refl
  add_t_is c m (term d n p) = pick_ind (eq_m m n) (term (c +ℤ d) n p) (term d n (add_t c m p))
      (λ q. eval_p q ρ ≡ c *ℤ eval_m m ρ +ℤ (d *ℤ eval_m n ρ +ℤ eval_p p ρ))
      (λ t. ap (λ u. u +ℤ eval_p p ρ) (+*ℤ-dist c d (eval_m n ρ)) ∙ +ℤ_assoc (c *ℤ eval_m n ρ) (d *ℤ eval_m n ρ) (eval_p p ρ)
      ∙ ap (λ k. c *ℤ eval_m k ρ +ℤ (d *ℤ eval_m n ρ +ℤ eval_p p ρ)) (sym (eq_m_eq m n (true_is t).is)))
      (λ _. ap (λ u. d *ℤ eval_m n ρ +ℤ u) (add_t_is c m p) ∙ +ℤ-left (d *ℤ eval_m n ρ) (c *ℤ eval_m m ρ) (eval_p p ρ))

  add_p_is : (p q : Poly) → eval_p (add_p p q) ρ ≡ eval_p p ρ +ℤ eval_p q ρ
  add_p_is nil q = sym (+ℤ_idl (eval_p q ρ))
  add_p_is (term c m p) q = add_t_is c m (add_p p q) ∙ ap (λ u. c *ℤ eval_m m ρ +ℤ u) (add_p_is p q) ∙ sym
      (+ℤ_assoc (c *ℤ eval_m m ρ) (eval_p p ρ) (eval_p q ρ))

  swap4 : (c d x y : ℤ) → c *ℤ d *ℤ (x *ℤ y) ≡ c *ℤ x *ℤ (d *ℤ y)
  swap4 c d x y = *ℤ-assoc c d (x *ℤ y) ∙ ap (λ t. c *ℤ t) (*ℤ-left d x y) ∙ sym (*ℤ-assoc c x (d *ℤ y))

  scale_is : (c : ℤ) (m : List ℕ) (p : Poly) → eval_p (scale c m p) ρ ≡ c *ℤ eval_m m ρ *ℤ eval_p p ρ
  scale_is c m nil = sym (*ℤ-zero (c *ℤ eval_m m ρ))
  scale_is c m (term d n p) =
      ap₂ ◌+ℤ◌ (ap (λ t. c *ℤ d *ℤ t) (mul_m_is m n) ∙ swap4 c d (eval_m m ρ) (eval_m n ρ)) (scale_is c m p)
      ∙ sym (*ℤ-+-dist (c *ℤ eval_m m ρ) (d *ℤ eval_m n ρ) (eval_p p ρ))

  mul_p_is : (p q : Poly) → eval_p (mul_p p q) ρ ≡ eval_p p ρ *ℤ eval_p q ρ
  mul_p_is nil q = sym (zero-*ℤ (eval_p q ρ))
  mul_p_is (term c m p) q = add_p_is (scale c m q) (mul_p p q) ∙ ap₂ ◌+ℤ◌ (scale_is c m q) (mul_p_is p q) ∙ sym
      (+*ℤ-dist (c *ℤ eval_m m ρ) (eval_p p ρ) (eval_p q ρ))

  minus_is : (p : Poly) → eval_p (scale (negsuc 0) [] p) ρ ≡ neg_ℤ (eval_p p ρ)
  minus_is p = scale_is (negsuc 0) [] p ∙ neg-*ℤ (eval_p p ρ)

  one_term : (x : ℤ) → x ≡ x *ℤ pos 1 +ℤ pos 0
  one_term x = sym (+ℤ_idr (x *ℤ pos 1) ∙ *ℤ_comm x (pos 1) ∙ one-*ℤ x)

  norm_is : (e : Ex) → eval e ρ ≡ eval_p (norm e) ρ
  norm_is (var i) = one_term (nth ρ i) ∙ ap (λ t. t +ℤ pos 0) (sym (one-*ℤ (nth ρ i *ℤ pos 1)))
  norm_is (con c) = one_term c
  norm_is (a :+ b) = ap₂ ◌+ℤ◌ (norm_is a) (norm_is b) ∙ sym (add_p_is (norm a) (norm b))
  norm_is (a :- b) =
      ap₂ ◌-ℤ◌ (norm_is a) (norm_is b) ∙ ap (λ t. eval_p (norm a) ρ +ℤ t) (sym (minus_is (norm b))) ∙ sym (add_p_is (norm a) (scale (negsuc 0) [] (norm b)))
  norm_is (a :* b) = ap₂ ◌*ℤ◌ (norm_is a) (norm_is b) ∙ sym (mul_p_is (norm a) (norm b))
  norm_is (neg a) = ap neg_ℤ (norm_is a) ∙ sym (minus_is (norm a))

  is_z_is : (c : ℤ) → T (is_z c) → c ≡ pos 0
  is_z_is (pos zero) t = refl
  is_z_is (pos (suc n)) t = absurd t
  is_z_is (negsuc n) t = absurd t

  zero_p_is : (p : Poly) → T (zero_p p) → eval_p p ρ ≡ pos 0
  zero_p_is nil t = refl
  zero_p_is (term c m p) t =
      ap₂ ◌+ℤ◌ (ap (λ k. k *ℤ eval_m m ρ) (is_z_is c (and_l (is_z c) (zero_p p) t)) ∙ zero-*ℤ (eval_m m ρ)) (zero_p_is p (and_r (is_z c) (zero_p p) t))

pub ring : (ρ : List ℤ) (a b : Ex) → T (zero_p (norm (a :- b))) → eval a ρ ≡ eval b ρ
ring ρ a b t = sub_zero_eq (eval a ρ) (eval b ρ) (norm_is ρ (a :- b) ∙ zero_p_is ρ (norm (a :- b)) t)
