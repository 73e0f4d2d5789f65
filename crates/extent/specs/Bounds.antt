-- What an extent means: each of its numbers is a coordinate of one of the points, and no point lies beyond it.
use Rattle.std.specs.Prelude.{◌≡◌, refl, Bool, true, false, ◌⊎◌, ℤ, ◌≤ℤ◌}
use Rattle.std.proofs.Common.{sym, ◌∙◌, subst, inl, inr, ⊎_elim}
use mathlib.Core.List.Memᴰ
use mathlib.Core.List.{List, [], ◌∷◌, Memᴰ}
use Rattle.std.specs.Int.Signed.{lt_z, ≤ℤ_refl}
use Rattle.laws.specs.Test.{pick}
use Rattle.laws.specs.Order.{lin, ≤_trans}
use Rattle.laws.specs.Compare.{lt_yes, lt_no}
use Rattle.turn.specs.declared.Point.{Point}
use Rattle.extent.specs.declared.Extent.{Extent}
use Rattle.extent.specs.Extent.{lesser, greater, spread, spread_over, extent_of}

-- z is a coordinate of one of the points, and lies before that of every one
pub record Foremost (Before : ℤ → ℤ → Type 0) (coordinate : Point → ℤ) (l : List Point) (z : ℤ) : Type 0 where
  pub one : Point
  pub its : coordinate one ≡ z
  pub here : Memᴰ one l
  pub all : (p : Point) → Memᴰ p l → Before z (coordinate p)

-- the rule by which one of two numbers is chosen: the one that lies before the other
pub record Chooses (Before : ℤ → ℤ → Type 0) (choose : ℤ → ℤ → ℤ) : Type 0 where
  pub itself : (a : ℤ) → Before a a
  pub onward : {a b c : ℤ} → Before a b → Before b c → Before a c
  pub either : (a b : ℤ) → (choose a b ≡ a) ⊎ (choose a b ≡ b)
  pub left : (a b : ℤ) → Before (choose a b) a
  pub right : (a b : ℤ) → Before (choose a b) b

module _ (Before : ℤ → ℤ → Type 0) (choose : ℤ → ℤ → ℤ) (c : Chooses Before choose) (coordinate : Point → ℤ) where
  -- the chosen of a number and of the coordinates of points
  abbrev over : ℤ → List Point → ℤ
  over z [] = z
  over z (p ∷ l) = over (choose z (coordinate p)) l

  ahead : (z : ℤ) (l : List Point) → Before (over z l) z
  ahead z [] = c.itself z
  ahead z (p ∷ l) = c.onward (ahead (choose z (coordinate p)) l) (c.left z (coordinate p))

  ahead_of : (z : ℤ) (l : List Point) (p : Point) → Memᴰ p l → Before (over z l) (coordinate p)
  ahead_of z [] p m = absurd (Memᴰ.not-nil m)
  ahead_of z (q ∷ l) p m =
      ⊎_elim (λ (e : p ≡ q). subst (λ (x : Point). Before (over z (q ∷ l)) (coordinate x)) (sym e)
      (c.onward (ahead (choose z (coordinate q)) l) (c.right z (coordinate q))))
      (λ n. ahead_of (choose z (coordinate q)) l p n) (Memᴰ.cases_cons m)

  -- the number itself, or the coordinate of a point
  abbrev From : ℤ → List Point → ℤ → Type 0
  From z l r = (r ≡ z) ⊎ ((p : Point) × ((coordinate p ≡ r) × Memᴰ p l))

  from_later : (z r : ℤ) (q : Point) (l : List Point) → From (choose z (coordinate q)) l r → From z (q ∷ l) r
  from_later z r q l (inr (p, (e, m))) = inr (p, (e, Memᴰ.tail m))
  from_later z r q l (inl e) =
      ⊎_elim (λ (k : choose z (coordinate q) ≡ z). inl (e ∙ k))
      (λ (k : choose z (coordinate q) ≡ coordinate q). inr (q, (sym (e ∙ k), Memᴰ.head refl))) (c.either z (coordinate q))

  from : (z : ℤ) (l : List Point) → From z l (over z l)
  from z [] = inl refl
  from z (q ∷ l) = from_later z (over z (q ∷ l)) q l (from (choose z (coordinate q)) l)

  foremost : (p : Point) (l : List Point) → Foremost Before coordinate (p ∷ l) (over (coordinate p) l)
  foremost p l = go (from (coordinate p) l)
    where
      every : (q : Point) → Memᴰ q (p ∷ l) → Before (over (coordinate p) l) (coordinate q)
      every q m =
          ⊎_elim (λ (e : q ≡ p). subst (λ (x : Point). Before (over (coordinate p) l) (coordinate x)) (sym e) (ahead (coordinate p) l))
          (λ n. ahead_of (coordinate p) l q n) (Memᴰ.cases_cons m)

      go : From (coordinate p) l (over (coordinate p) l) → Foremost Before coordinate (p ∷ l) (over (coordinate p) l)
      go (inl e) = record { one = p; its = sym e; here = Memᴰ.head refl; all = every }
      go (inr (q, (e, m))) = record { one = q; its = e; here = Memᴰ.tail m; all = every }

-- ---- the lesser and the greater of two numbers
abbrev NotAbove : ℤ → ℤ → Type 0
NotAbove a b = a ≤ℤ b

abbrev NotBelow : ℤ → ℤ → Type 0
NotBelow a b = b ≤ℤ a

-- a choice by a test, whichever way it goes
chosen : (b : Bool) (x y : ℤ) → (pick b x y ≡ y) ⊎ (pick b x y ≡ x)
chosen true x y = inr refl
chosen false x y = inl refl

lesser_chooses : Chooses NotAbove lesser
lesser_chooses = record {
  itself = ≤ℤ_refl;
  onward = λ h k. ≤_trans h k;
  either = λ a b. chosen (lt_z b a) b a;
  left = λ a b. first a b (lt_z b a) refl;
  right = λ a b. second a b (lt_z b a) refl;
}
  where
    first : (a b : ℤ) (t : Bool) → lt_z b a ≡ t → pick t b a ≤ℤ a
    first a b true e = let l = lt_yes b a e in omega lin
    first a b false e = ≤ℤ_refl a

    second : (a b : ℤ) (t : Bool) → lt_z b a ≡ t → pick t b a ≤ℤ b
    second a b true e = ≤ℤ_refl b
    second a b false e = lt_no b a e

greater_chooses : Chooses NotBelow greater
greater_chooses = record {
  itself = ≤ℤ_refl;
  onward = λ h k. ≤_trans k h;
  either = λ a b. chosen (lt_z a b) b a;
  left = λ a b. first a b (lt_z a b) refl;
  right = λ a b. second a b (lt_z a b) refl;
}
  where
    first : (a b : ℤ) (t : Bool) → lt_z a b ≡ t → a ≤ℤ pick t b a
    first a b true e = let l = lt_yes a b e in omega lin
    first a b false e = ≤ℤ_refl a

    second : (a b : ℤ) (t : Bool) → lt_z a b ≡ t → b ≤ℤ pick t b a
    second a b true e = ≤ℤ_refl b
    second a b false e = lt_no a b e

-- ---- the theorem
abbrev pub Least : (Point → ℤ) → List Point → ℤ → Type 0
Least coordinate l z = Foremost NotAbove coordinate l z

abbrev pub Greatest : (Point → ℤ) → List Point → ℤ → Type 0
Greatest coordinate l z = Foremost NotBelow coordinate l z

-- the extent's numbers are the least and the greatest of the points' coordinates
pub record Encloses (l : List Point) (e : Extent) : Type 0 where
  pub left : Least (λ p. p.x) l e.left
  pub bottom : Least (λ p. p.y) l e.bottom
  pub right : Greatest (λ p. p.x) l e.right
  pub top : Greatest (λ p. p.y) l e.top

-- each number by itself
left_over : (e : Extent) (l : List Point) → (spread_over e l).left ≡ over NotAbove lesser lesser_chooses (λ p. p.x) e.left l
left_over e [] = refl
left_over e (p ∷ l) = left_over (spread e p) l

bottom_over : (e : Extent) (l : List Point) → (spread_over e l).bottom ≡ over NotAbove lesser lesser_chooses (λ p. p.y) e.bottom l
bottom_over e [] = refl
bottom_over e (p ∷ l) = bottom_over (spread e p) l

right_over : (e : Extent) (l : List Point) → (spread_over e l).right ≡ over NotBelow greater greater_chooses (λ p. p.x) e.right l
right_over e [] = refl
right_over e (p ∷ l) = right_over (spread e p) l

top_over : (e : Extent) (l : List Point) → (spread_over e l).top ≡ over NotBelow greater greater_chooses (λ p. p.y) e.top l
top_over e [] = refl
top_over e (p ∷ l) = top_over (spread e p) l

pub extent_encloses : (p : Point) (l : List Point) → Encloses (p ∷ l) (extent_of (p ∷ l))
extent_encloses p l = record {
  left = rw (left_over _ l) (foremost NotAbove lesser lesser_chooses (λ p. p.x) p l);
  bottom = rw (bottom_over _ l) (foremost NotAbove lesser lesser_chooses (λ p. p.y) p l);
  right = rw (right_over _ l) (foremost NotBelow greater greater_chooses (λ p. p.x) p l);
  top = rw (top_over _ l) (foremost NotBelow greater greater_chooses (λ p. p.y) p l);
}
