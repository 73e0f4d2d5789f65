-- The integers as differences of naturals: a ⊖ b. Each operation on ℤ is one on the pairs, and an equation or an order
-- of two differences is one of ℕ, which `omega arith` proves.
use Rattle.std.specs.Prelude.{◌≡◌, refl, ℕ, zero, suc, ◌+◌, ◌*◌, ◌-◌, ◌≤◌, ◌<◌, Bool, true, false, not, cond, T, ltb, ℤ, pos, negsuc, neg_ℤ, ◌+ℤ◌, ◌-ℤ◌, ◌*ℤ◌}
use Rattle.std.proofs.Common.{sym, ap, ap₂, ◌∙◌, subst, arith, ltb→lt, nltb→le, one-mul}
use Rattle.std.proofs.Math.IntN.{sub_ℕ, one, *ℤ_comm, +ℤ_comm, +ℤ_assoc, *ℤ-one, -ℤ-+ℤ_cancel, +ℤ_idl}

infix 50 ◌⊖◌
pub ◌⊖◌ : ℕ → ℕ → ℤ
a ⊖ b = sub_ℕ a b

-- the parts of an integer above and below 0
abbrev pub up : ℤ → ℕ
up (pos n) = n
up (negsuc n) = 0

abbrev pub dn : ℤ → ℕ
dn (pos n) = 0
dn (negsuc n) = suc n

cond_ind : (c : Bool) (x y : ℤ) (P : ℤ → Type 0) → (T c → P x) → (T (not c) → P y) → P (cond c x y)
cond_ind true x y P f g = f tt
cond_ind false x y P f g = g tt

-- what a difference is, by the sign
pub ⊖-char : (a b : ℕ) → up (a ⊖ b) + b ≡ a + dn (a ⊖ b)
unfolding ◌⊖◌
⊖-char a b = cond_ind (ltb a b) (negsuc (b - suc a)) (pos (a - b)) (λ z. up z + b ≡ a + dn z)
    (λ t. lt a b (ltb→lt a b t)) (λ t. ge a b (nltb→le a b t))
  where
    lt : (a b : ℕ) → a < b → 0 + b ≡ a + suc (b - suc a)
    lt a b h = omega arith

    ge : (a b : ℕ) → b ≤ a → (a - b) + b ≡ a + 0
    ge a b h = omega arith

-- two integers whose parts differ alike are equal
pub same : (x y : ℤ) → up x + dn y ≡ up y + dn x → x ≡ y
same (pos a) (pos b) h = ap pos (l a b h)
  where
    l : (a b : ℕ) → a + 0 ≡ b + 0 → a ≡ b
    l a b h = omega arith
same (pos a) (negsuc b) h = absurd (l a b h)
  where
    l : (a b : ℕ) → a + suc b ≡ 0 + 0 → ⊥
    l a b h = omega arith
same (negsuc a) (pos b) h = absurd (l a b h)
  where
    l : (a b : ℕ) → 0 + 0 ≡ b + suc a → ⊥
    l a b h = omega arith
same (negsuc a) (negsuc b) h = ap negsuc (l a b h)
  where
    l : (a b : ℕ) → 0 + suc b ≡ 0 + suc a → a ≡ b
    l a b h = omega arith

pub ⊖-eq : (a b c d : ℕ) → a + d ≡ c + b → a ⊖ b ≡ c ⊖ d
⊖-eq a b c d h = same (a ⊖ b) (c ⊖ d) (omega (arith, ⊖-char a b, ⊖-char c d))

pub is⊖ : (z : ℤ) (a b : ℕ) → up z + b ≡ a + dn z → z ≡ a ⊖ b
is⊖ z a b h = same z (a ⊖ b) (omega (arith, ⊖-char a b))

-- every integer is one
pub ⊖-ind : (P : ℤ → Type 0) → ((a b : ℕ) → P (a ⊖ b)) → (z : ℤ) → P z
⊖-ind P f z = subst P (sym (is⊖ z (up z) (dn z) refl)) (f (up z) (dn z))

-- the operations, by parts
pub negℤ_parts : (x : ℤ) → up (neg_ℤ x) + up x ≡ dn x + dn (neg_ℤ x)
negℤ_parts (pos zero) = refl
negℤ_parts (pos (suc n)) = omega arith
negℤ_parts (negsuc n) = omega arith

pub +-parts : (x y : ℤ) → up (x +ℤ y) + (dn x + dn y) ≡ (up x + up y) + dn (x +ℤ y)
unfolding ◌⊖◌
+-parts (pos a) (pos b) = omega arith
+-parts (pos a) (negsuc b) = omega (arith, ⊖-char a (suc b))
+-parts (negsuc a) (pos b) = omega (arith, ⊖-char b (suc a))
+-parts (negsuc a) (negsuc b) = omega arith

pub *-parts : (x y : ℤ) → up (x *ℤ y) + (up x * dn y + dn x * up y) ≡ (up x * up y + dn x * dn y) + dn (x *ℤ y)
*-parts (pos a) (pos b) = omega arith
*-parts (pos a) (negsuc b) = omega (arith, negℤ_parts (pos (a * suc b)))
*-parts (negsuc a) (pos b) = omega (arith, negℤ_parts (pos (suc a * b)))
*-parts (negsuc a) (negsuc b) = omega arith

-- the operations on differences
pub ⊖-neg : (a b : ℕ) → neg_ℤ (a ⊖ b) ≡ b ⊖ a
⊖-neg a b = is⊖ (neg_ℤ (a ⊖ b)) b a (omega (arith, negℤ_parts (a ⊖ b), ⊖-char a b))

pub ⊖-add : (a b c d : ℕ) → (a ⊖ b) +ℤ (c ⊖ d) ≡ (a + c) ⊖ (b + d)
⊖-add a b c d = is⊖ ((a ⊖ b) +ℤ (c ⊖ d)) (a + c) (b + d) (omega (arith, +-parts (a ⊖ b) (c ⊖ d), ⊖-char a b, ⊖-char c d))

mul_lemma : (p n q m a b c d u v : ℕ) → p + b ≡ a + n → q + d ≡ c + m → u + (p * m + n * q) ≡ (p * q + n * m) + v → u + (a * d + b * c) ≡ (a * c + b * d) + v
mul_lemma p n q m a b c d u v h k e =
    omega (arith, ap (λ (t : ℕ). t * c) h, ap (λ (t : ℕ). t * d) h, ap (λ (t : ℕ). p * t) k, ap (λ (t : ℕ). n * t) k)

pub ⊖-mul : (a b c d : ℕ) → (a ⊖ b) *ℤ (c ⊖ d) ≡ (a * c + b * d) ⊖ (a * d + b * c)
⊖-mul a b c d = is⊖ ((a ⊖ b) *ℤ (c ⊖ d)) (a * c + b * d) (a * d + b * c)
    (mul_lemma (up (a ⊖ b)) (dn (a ⊖ b)) (up (c ⊖ d)) (dn (c ⊖ d)) a b c d (up ((a ⊖ b) *ℤ (c ⊖ d))) (dn ((a ⊖ b) *ℤ (c ⊖ d)))
    (⊖-char a b) (⊖-char c d) (*-parts (a ⊖ b) (c ⊖ d)))

pub ruleset ⊖-ops = (⊖-neg, ⊖-add, ⊖-mul)

-- every three integers are three differences
pub ⊖-ind3 : (P : ℤ → ℤ → ℤ → Type 0) → ((a b c d e f : ℕ) → P (a ⊖ b) (c ⊖ d) (e ⊖ f)) → (x y z : ℤ) → P x y z
⊖-ind3 P g x y z = ⊖-ind (λ x. P x y z) (λ a b. ⊖-ind (λ y. P (a ⊖ b) y z) (λ c d. ⊖-ind (λ z. P (a ⊖ b) (c ⊖ d) z) (λ e f. g a b c d e f) z) y) x

-- the ring laws that lib.IntN lacks
assoc⊖ : (a b c d e f : ℕ) → (a ⊖ b) *ℤ (c ⊖ d) *ℤ (e ⊖ f) ≡ (a ⊖ b) *ℤ ((c ⊖ d) *ℤ (e ⊖ f))
assoc⊖ a b c d e f = simp ⊖-ops (⊖-eq _ _ _ _ (omega arith))

pub *ℤ-assoc : (x y z : ℤ) → x *ℤ y *ℤ z ≡ x *ℤ (y *ℤ z)
*ℤ-assoc = ⊖-ind3 (λ x y z. x *ℤ y *ℤ z ≡ x *ℤ (y *ℤ z)) assoc⊖

dist⊖ : (a b c d e f : ℕ) → ((a ⊖ b) +ℤ (c ⊖ d)) *ℤ (e ⊖ f) ≡ (a ⊖ b) *ℤ (e ⊖ f) +ℤ (c ⊖ d) *ℤ (e ⊖ f)
dist⊖ a b c d e f = simp ⊖-ops (⊖-eq _ _ _ _ (omega arith))

pub +*ℤ-dist : (x y z : ℤ) → (x +ℤ y) *ℤ z ≡ x *ℤ z +ℤ y *ℤ z
+*ℤ-dist = ⊖-ind3 (λ x y z. (x +ℤ y) *ℤ z ≡ x *ℤ z +ℤ y *ℤ z) dist⊖

pub *ℤ-+-dist : (x y z : ℤ) → x *ℤ (y +ℤ z) ≡ x *ℤ y +ℤ x *ℤ z
*ℤ-+-dist x y z = *ℤ_comm x (y +ℤ z) ∙ +*ℤ-dist y z x ∙ ap₂ ◌+ℤ◌ (*ℤ_comm y x) (*ℤ_comm z x)

pub +ℤ-left : (x y z : ℤ) → x +ℤ (y +ℤ z) ≡ y +ℤ (x +ℤ z)
+ℤ-left x y z = sym (+ℤ_assoc x y z) ∙ ap (λ t. t +ℤ z) (+ℤ_comm x y) ∙ +ℤ_assoc y x z

pub *ℤ-left : (x y z : ℤ) → x *ℤ (y *ℤ z) ≡ y *ℤ (x *ℤ z)
*ℤ-left x y z = sym (*ℤ-assoc x y z) ∙ ap (λ t. t *ℤ z) (*ℤ_comm x y) ∙ *ℤ-assoc y x z

pub one-*ℤ : (x : ℤ) → pos 1 *ℤ x ≡ x
unfolding one
one-*ℤ x = *ℤ_comm (pos 1) x ∙ *ℤ-one x

pub neg-*ℤ : (x : ℤ) → negsuc 0 *ℤ x ≡ neg_ℤ x
neg-*ℤ (pos zero) = refl
neg-*ℤ (pos (suc n)) = ap (λ k. neg_ℤ (pos k)) (one-mul (suc n))
neg-*ℤ (negsuc n) = ap pos (one-mul (suc n))

pub sub_zero_eq : (x y : ℤ) → x -ℤ y ≡ pos 0 → x ≡ y
sub_zero_eq x y h = sym (-ℤ-+ℤ_cancel x y) ∙ ap (λ t. t +ℤ y) h ∙ +ℤ_idl y
