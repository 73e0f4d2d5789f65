-- Laws of the signed doubled area: that of a triangle is its turn, it does not depend on the starting point, and what it stays within.
use Rattle.std.specs.Prelude.{◌≡◌, refl, ℕ, ◌*◌, ◌≤◌, length, nat_abs, ◌+ℤ◌, ◌*ℤ◌}
use Rattle.std.proofs.Common.{sym, ap, ◌∙◌, arith}
use mathlib.Core.List.{List, [], ◌∷◌, ◌++◌, Memᴰ}
use Rattle.std.proofs.Math.IntN.{+ℤ_comm, +ℤ_assoc}
use Rattle.laws.specs.Ring.{ring, var, ◌:+◌, ◌:-◌, ◌:*◌}
use Rattle.laws.specs.Bounds.{abs_add, abs_sub, mul_below}
use Rattle.turn.specs.declared.Point.{Point}
use Rattle.turn.specs.Limits.{max_coordinate}
use Rattle.turn.specs.Points.{OnGrid, turn}
use Rattle.turn.specs.Area.{wedge, wedge_bound, area_to, area}

-- ---- positive when counterclockwise: the area of three points is their turn
pub area_triangle : (a b c : Point) → area (a ∷ b ∷ c ∷ []) ≡ turn a b c
area_triangle a b c =
    let ax = var 0 in let ay = var 1 in let bx = var 2 in let by = var 3 in let cx = var 4 in let cy = var 5 in
    ring (a.x ∷ a.y ∷ b.x ∷ b.y ∷ c.x ∷ c.y ∷ [])
    ((ax :* by :- ay :* bx) :+ ((bx :* cy :- by :* cx) :+ (cx :* ay :- cy :* ax)))
    ((bx :- ax) :* (cy :- ay) :- (by :- ay) :* (cx :- ax)) tt

-- ---- the starting point
area_last : (h x p : Point) (l : List Point) → area_to h (x ∷ (l ++ (p ∷ []))) ≡ area_to p (x ∷ l) +ℤ wedge p h
area_last h x p [] = refl
area_last h x p (y ∷ l) = ap (λ r. wedge x y +ℤ r) (area_last h y p l) ∙ sym (+ℤ_assoc (wedge x y) (area_to p (y ∷ l)) (wedge p h))

pub area_rotate : (p : Point) (l : List Point) → area (l ++ (p ∷ [])) ≡ area (p ∷ l)
area_rotate p [] = refl
area_rotate p (q ∷ l) = area_last q q p l ∙ +ℤ_comm (area_to p (q ∷ l)) (wedge p q)

-- ---- what it stays within, for coordinates within m
abbrev pub Within : ℕ → Point → Type 0
Within m p = (nat_abs p.x ≤ m) × (nat_abs p.y ≤ m)

pub wedge_within : (m : ℕ) (p q : Point) → Within m p → Within m q → nat_abs (wedge p q) ≤ 2 * (m * m)
wedge_within m p q h k =
    omega (arith, abs_sub (p.x *ℤ q.y) (p.y *ℤ q.x), mul_below p.x q.y m m h.0 k.1, mul_below p.y q.x m m h.1 k.0)

abbrev pub AllWithin : ℕ → List Point → Type 0
AllWithin m l = (p : Point) → Memᴰ p l → Within m p

module _ (m : ℕ) where
  within_to : (h : Point) (l : List Point) → Within m h → AllWithin m l → nat_abs (area_to h l) ≤ length l * (2 * (m * m))
  within_to h [] a b = omega arith
  within_to h (p ∷ []) a b = omega (arith, wedge_within m p h (b p (Memᴰ.head refl)) a)
  within_to h (p ∷ (q ∷ l)) a b =
      let w = wedge_within m p q (b p (Memᴰ.head refl)) (b q (Memᴰ.tail (Memᴰ.head refl))) in
      let r = within_to h (q ∷ l) a (λ x k. b x (Memᴰ.tail k)) in
      omega (arith, abs_add (wedge p q) (area_to h (q ∷ l)), w, r)

  pub area_within : (l : List Point) → AllWithin m l → nat_abs (area l) ≤ length l * (2 * (m * m))
  area_within [] h = omega arith
  area_within (p ∷ l) h = within_to p (p ∷ l) (h p (Memᴰ.head refl)) h

-- on the grid
pub area_bound : (l : List Point) → ((p : Point) → Memᴰ p l → OnGrid p) → nat_abs (area l) ≤ length l * wedge_bound
area_bound l h = area_within max_coordinate l h
