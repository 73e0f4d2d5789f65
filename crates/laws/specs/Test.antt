-- Tests: the choice by a test, a test that passed as a fact, and what `&&`, `||` and `not` of tests tell.
use Rattle.std.specs.Prelude.{◌≡◌, refl, ◌⊎◌, Bool, true, false, not, ◌&&◌, ◌||◌, T}
use Rattle.std.proofs.Common.{sym, subst, inl, inr}

-- ---- the choice
abbrev pub pick {ℓ} : {A : Type ℓ} → Bool → A → A → A
pick true a b = a
pick false a b = b

pub pick_true : {A : Type 0} {b : Bool} (x y : A) → b ≡ true → pick b x y ≡ x
pick_true x y e = rw e

pub pick_false : {A : Type 0} {b : Bool} (x y : A) → b ≡ false → pick b x y ≡ y
pick_false x y e = rw e

pub pick_ind : {A : Type 0} (b : Bool) (x y : A) (P : A → Type 0) → (b ≡ true → P x) → (b ≡ false → P y) → P (pick b x y)
pick_ind true x y P f g = f refl
pick_ind false x y P f g = g refl

-- ---- a test that passed, as a record, so that antt can tell the test from the fact
pub record Is (b : Bool) : Type 0 where
  pub is : T b

abbrev pub yes! : {b : Bool} → T b → Is b
yes! t = record { is = t }

pub is_true : {b : Bool} → Is b → b ≡ true
is_true {b} h = go b h.is
  where
    go : (b : Bool) → T b → b ≡ true
    go true t = refl
    go false t = absurd t

pub true_is : {b : Bool} → b ≡ true → Is b
true_is e = record { is = subst T (sym e) tt }

pub true≢false : {b : Bool} → b ≡ true → b ≡ false → ⊥
true≢false {b} p q = subst T q (true_is p).is

pub not_true : (b : Bool) → (b ≡ true → ⊥) → b ≡ false
not_true true n = absurd (n refl)
not_true false n = refl

pub not_is : (b : Bool) → not b ≡ true → b ≡ false
not_is true e = absurd (true≢false e refl)
not_is false e = refl

-- ---- and, or, then
and_i' : (a b : Bool) → T a → T b → T (a && b)
and_i' true b s t = t
and_i' false b s t = absurd s

infixl 4 ◌&◌
pub ◌&◌ : {a b : Bool} → Is a → Is b → Is (a && b)
◌&◌ {a} {b} s t = record { is = and_i' a b s.is t.is }

pub and_l : (a b : Bool) → T (a && b) → T a
and_l true b t = tt
and_l false b t = t

pub and_r : (a b : Bool) → T (a && b) → T b
and_r true b t = t
and_r false b t = absurd t

pub fst& : (a b : Bool) → Is (a && b) → Is a
fst& a b t = record { is = and_l a b t.is }

pub snd& : (a b : Bool) → Is (a && b) → Is b
snd& a b t = record { is = and_r a b t.is }

or_e' : (a b : Bool) → T (a || b) → Is a ⊎ Is b
or_e' true b t = inl (record { is = tt })
or_e' false b t = inr (record { is = t })

pub or_e : (a b : Bool) → Is (a || b) → Is a ⊎ Is b
or_e a b t = or_e' a b t.is

infixr 20 ◌⇒◌
abbrev pub ◌⇒◌ : Bool → Bool → Bool
true ⇒ b = b
false ⇒ b = true

mp' : (a b : Bool) → T (a ⇒ b) → T a → T b
mp' true b t s = t
mp' false b t s = absurd s

pub mp : {a b : Bool} → Is (a ⇒ b) → Is a → Is b
mp {a} {b} t s = record { is = mp' a b t.is s.is }

infix 20 ◌⇔◌
abbrev pub ◌⇔◌ : Bool → Bool → Bool
true ⇔ b = b
false ⇔ b = not b

⇔-eq' : (a b : Bool) → T (a ⇔ b) → a ≡ b
⇔-eq' true true t = refl
⇔-eq' true false t = absurd t
⇔-eq' false true t = absurd t
⇔-eq' false false t = refl

pub ⇔-eq : {a b : Bool} → Is (a ⇔ b) → a ≡ b
⇔-eq {a} {b} t = ⇔-eq' a b t.is

-- two tests that pass together are equal
pub both_ways : (a b : Bool) → (Is a → Is b) → (Is b → Is a) → a ≡ b
both_ways true true f g = refl
both_ways true false f g = absurd (f (yes! tt)).is
both_ways false true f g = absurd (g (yes! tt)).is
both_ways false false f g = refl

-- what a test joined of two says of each, by equations, as a code's tests give them
pub or_false : (a b : Bool) → a || b ≡ false → (a ≡ false) × (b ≡ false)
or_false true b e = absurd (true≢false refl e)
or_false false b e = (refl, e)

pub false_or : (a b : Bool) → a ≡ false → b ≡ false → a || b ≡ false
false_or a b p q = rw (p, q)

pub or_true : (a b : Bool) → a || b ≡ true → (a ≡ true) ⊎ (b ≡ true)
or_true true b e = inl refl
or_true false b e = inr e

pub and_true : (a b : Bool) → a && b ≡ true → (a ≡ true) × (b ≡ true)
and_true true b e = (refl, e)
and_true false b e = absurd (true≢false e refl)

pub true_and : (a b : Bool) → a ≡ true → b ≡ true → a && b ≡ true
true_and a b p q = rw (p, q)

pub and_false : (a b : Bool) → a && b ≡ false → (a ≡ false) ⊎ (b ≡ false)
and_false true b e = inr e
and_false false b e = inl refl
