-- The order of ℤ, read by `omega`: `≤in` and `<in` turn a hypothesis into one of ℕ, `≤out` and `<out` turn a goal, and
-- `+-parts x y`, `negℤ_parts x` (or `sub_parts x y`) tell what a sum and a difference are.
use Rattle.std.specs.Prelude.{◌≡◌, refl, ◌⊎◌, true, false, ℕ, zero, suc, ◌+◌, ◌≤◌, ◌<◌, T, ℤ, pos, negsuc, neg_ℤ, ◌-ℤ◌, ◌*ℤ◌, ◌≤ℤ◌, ◌<ℤ◌}
use Rattle.std.proofs.Common.{sym, ap₂, ◌∙◌, subst, inl, inr, arith, leb→le, le→leb, ltb→lt, lt→ltb, ltb-false}
use Rattle.std.proofs.Math.Decide.{dec_le}
use Rattle.std.specs.Int.Signed.{le_z, lt_z}
use Rattle.laws.specs.Test.{yes!, is_true, not_true}
use Rattle.laws.specs.Sign.{Sgn, mns, zer, pls, sgn, ◌⊗◌, sgn_mul}
use Rattle.laws.specs.Int.{up, dn, same, +-parts, negℤ_parts}

le_in : (a b : ℤ) → T (le_z a b) → up a + dn b ≤ up b + dn a
le_in (pos a) (pos b) t = omega (arith, leb→le a b t)
le_in (pos a) (negsuc b) t = absurd t
le_in (negsuc a) (pos b) t = omega arith
le_in (negsuc a) (negsuc b) t = omega (arith, leb→le b a t)

pub ≤in : {a b : ℤ} → a ≤ℤ b → up a + dn b ≤ up b + dn a
≤in {a} {b} h = le_in a b h.le

lt_in : (a b : ℤ) → T (lt_z a b) → up a + dn b < up b + dn a
lt_in (pos a) (pos b) t = omega (arith, ltb→lt a b t)
lt_in (pos a) (negsuc b) t = absurd t
lt_in (negsuc a) (pos b) t = omega arith
lt_in (negsuc a) (negsuc b) t = omega (arith, ltb→lt b a t)

pub <in : {a b : ℤ} → a <ℤ b → up a + dn b < up b + dn a
<in {a} {b} h = lt_in a b h.lt

le_out : (a b : ℤ) → up a + dn b ≤ up b + dn a → T (le_z a b)
le_out (pos a) (pos b) h = le→leb a b (omega arith)
le_out (pos a) (negsuc b) h = absurd (l a b h)
  where
    l : (a b : ℕ) → a + suc b ≤ 0 + 0 → ⊥
    l a b h = omega arith
le_out (negsuc a) (pos b) h = tt
le_out (negsuc a) (negsuc b) h = le→leb b a (omega arith)

pub ≤out : {a b : ℤ} → up a + dn b ≤ up b + dn a → a ≤ℤ b
≤out {a} {b} h = record { le = le_out a b h }

lt_out : (a b : ℤ) → up a + dn b < up b + dn a → T (lt_z a b)
lt_out (pos a) (pos b) h = lt→ltb a b (omega arith)
lt_out (pos a) (negsuc b) h = absurd (l a b h)
  where
    l : (a b : ℕ) → a + suc b < 0 + 0 → ⊥
    l a b h = omega arith
lt_out (negsuc a) (pos b) h = tt
lt_out (negsuc a) (negsuc b) h = lt→ltb b a (omega arith)

pub <out : {a b : ℤ} → up a + dn b < up b + dn a → a <ℤ b
<out {a} {b} h = record { lt = lt_out a b h }

pub ≡in : {a b : ℤ} → a ≡ b → up a + dn b ≡ up b + dn a
≡in {a} {b} e = subst (λ c. up a + dn c ≡ up c + dn a) e refl

pub ≡out : {a b : ℤ} → up a + dn b ≡ up b + dn a → a ≡ b
≡out {a} {b} h = same a b h

pub sub_parts : (x y : ℤ) → up (x -ℤ y) + (dn x + up y) ≡ (up x + dn y) + dn (x -ℤ y)
sub_parts x y = omega (arith, +-parts x (neg_ℤ y), negℤ_parts y)

-- the code's test, both ways
pub lt_z_true : (a b : ℤ) → lt_z a b ≡ true → up a + dn b < up b + dn a
lt_z_true a b e = lt_in a b (subst T (sym e) tt)

pub lt_z_false : (a b : ℤ) → lt_z a b ≡ false → up b + dn a ≤ up a + dn b
lt_z_false (pos a) (pos b) e = omega (arith, ltb-false a b e)
lt_z_false (pos a) (negsuc b) e = omega arith
lt_z_false (negsuc a) (pos b) e = absurd (subst T e tt)
lt_z_false (negsuc a) (negsuc b) e = omega (arith, ltb-false b a e)

pub true_lt_z : (a b : ℤ) → up a + dn b < up b + dn a → lt_z a b ≡ true
true_lt_z a b h = is_true (yes! (lt_out a b h))

pub false_lt_z : (a b : ℤ) → up b + dn a ≤ up a + dn b → lt_z a b ≡ false
false_lt_z a b h = not_true (lt_z a b) (λ e. go (lt_z_true a b e))
  where
    go : up a + dn b < up b + dn a → ⊥
    go k = omega arith

pub ruleset lin = (arith, ≤in, <in, ≤out, <out)

abbrev IsPls : Sgn → Type 0
IsPls mns = ⊥
IsPls zer = ⊥
IsPls pls = Unit {0}

-- ---- what follows
pub ≤_trans : {a b c : ℤ} → a ≤ℤ b → b ≤ℤ c → a ≤ℤ c
≤_trans h k = omega lin

pub sub_pos : (a b : ℤ) → a <ℤ b → pos 0 <ℤ (b -ℤ a)
sub_pos a b h = omega (lin, sub_parts b a)

pub antisym : {a b : ℤ} → a ≤ℤ b → b ≤ℤ a → a ≡ b
antisym h k = ≡out (omega lin)

pub tricho : (a b : ℤ) → (a <ℤ b) ⊎ ((a ≡ b) ⊎ (b <ℤ a))
tricho a b = go (dec_le (up b + dn a) (up a + dn b)) (dec_le (up a + dn b) (up b + dn a))
  where
    go : Dec (up b + dn a ≤ up a + dn b) → Dec (up a + dn b ≤ up b + dn a) → (a <ℤ b) ⊎ ((a ≡ b) ⊎ (b <ℤ a))
    go (no n) d = inl (omega lin)
    go (yes p) (yes q) = inr (inl (≡out (omega arith)))
    go (yes p) (no n) = inr (inr (omega lin))

pub <-sgn : (x : ℤ) → pos 0 <ℤ x → sgn x ≡ pls
<-sgn (pos zero) h = absurd h.lt
<-sgn (pos (suc n)) h = refl
<-sgn (negsuc n) h = absurd h.lt

pub sgn-< : (x : ℤ) → sgn x ≡ pls → pos 0 <ℤ x
sgn-< (pos zero) e = absurd (subst IsPls (sym e) tt)
sgn-< (pos (suc n)) e = omega lin
sgn-< (negsuc n) e = absurd (subst IsPls (sym e) tt)

pub mul_pos : {x y : ℤ} → pos 0 <ℤ x → pos 0 <ℤ y → pos 0 <ℤ (x *ℤ y)
mul_pos {x} {y} h k = sgn-< (x *ℤ y) (sgn_mul x y ∙ ap₂ ◌⊗◌ (<-sgn x h) (<-sgn y k))
