-- Points that are lent as x and y in turn: parts of the list are parts of the points, and what stands at a place.
use Rattle.std.specs.Prelude.{ℕ, zero, suc, ◌+◌, ◌*◌, ◌/◌, ◌<◌, ◌≡◌, refl, List, [], ◌∷◌, ℤ, pos, length, get_or, take, drop}
use Rattle.std.proofs.Common.{arith, sym, ap, ap₂, ◌∙◌, get_or-drop}
use Rattle.turn.specs.declared.Point.{Point}
use Rattle.turn.specs.Area.{points_of}
use Rattle.table.specs.Table.{point_in}

twice : (n : ℕ) → suc n * 2 ≡ suc (suc (n * 2))
twice n = omega arith

pub points_drop : (l : List ℤ) (n : ℕ) → points_of (drop (n * 2) l) ≡ drop n (points_of l)
points_drop l zero = refl
points_drop [] (suc n) = rw (twice n)
points_drop (x ∷ []) (suc n) = rw (twice n) (none (n * 2))
  where
    none : (k : ℕ) → points_of (drop (suc k) []) ≡ []
    none k = refl
points_drop (x ∷ (y ∷ l)) (suc n) = rw (twice n) (points_drop l n)

pub points_take : (l : List ℤ) (n : ℕ) → points_of (take (n * 2) l) ≡ take n (points_of l)
points_take l zero = refl
points_take [] (suc n) = rw (twice n)
points_take (x ∷ []) (suc n) = rw (twice n)
points_take (x ∷ (y ∷ l)) (suc n) = rw (twice n) (ap (λ (r : List Point). record { x = x; y = y } ∷ r) (points_take l n))

-- the points from a position on, so many
pub points_part : (l : List ℤ) (from n : ℕ) → points_of (take (n * 2) (drop (from * 2) l)) ≡ take n (drop from (points_of l))
points_part l from n = points_take (drop (from * 2) l) n ∙ ap (take n) (points_drop l from)

-- the point at a position, and those after it
pub points_on : (l : List ℤ) (n : ℕ) → n < length l / 2 → drop n (points_of l) ≡ point_in l n ∷ drop (suc n) (points_of l)
points_on [] n h = absurd (omega arith)
points_on (x ∷ []) n h = absurd (omega arith)
points_on (x ∷ (y ∷ l)) zero h = refl
points_on (x ∷ (y ∷ l)) (suc n) h =
    let e : suc n * 2 ≡ suc (suc (n * 2)) = omega arith in
    let f : suc n * 2 + 1 ≡ suc (suc (n * 2 + 1)) = omega arith in
    points_on l n (omega arith) ∙
    ap (λ (p : Point). p ∷ drop (suc n) (points_of l))
    (sym (ap₂ (λ i j. record { x = get_or (x ∷ (y ∷ l)) i (pos 0); y = get_or (x ∷ (y ∷ l)) j (pos 0) }) e f))

pub points_end : (l : List ℤ) (n : ℕ) → length l / 2 < n + 1 → drop n (points_of l) ≡ []
points_end [] zero h = refl
points_end [] (suc n) h = refl
points_end (x ∷ []) zero h = refl
points_end (x ∷ []) (suc n) h = refl
points_end (x ∷ (y ∷ l)) zero h = absurd (omega arith)
points_end (x ∷ (y ∷ l)) (suc n) h = points_end l n (omega arith)

pub points_at : (d : Point) (l : List ℤ) (n : ℕ) → n < length l / 2 → get_or (points_of l) n d ≡ point_in l n
points_at d l n h =
    let e : n ≡ n + 0 = omega arith in
    ap (λ i. get_or (points_of l) i d) e ∙ sym (get_or-drop n (points_of l) 0 d) ∙ ap (λ (r : List Point). get_or r 0 d) (points_on l n h)

pub points_many : (l : List ℤ) → length (points_of l) ≡ length l / 2
points_many [] = refl
points_many (x ∷ []) = refl
points_many (x ∷ (y ∷ l)) = let h = points_many l in omega arith
