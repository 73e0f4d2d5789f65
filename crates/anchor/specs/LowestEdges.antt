-- The lowest of all edges at a point of a contour: it is one of them, none of them is lower, and where the contour passes
-- the point once it is the lower of the two there. What stands between one visit to the point and the next does not count.
use Prim.Native.Nat.{ℕ, zero, suc, ◌+◌, ◌≤◌, ◌<◌}
use native.Mathlib.Omega.{arith}
use Rattle.std.proofs.Common.{not-suc-le-zero, sym, ap, ◌∙◌}
use Rattle.std.proofs.Math.Decide.{ℕ_discrete}
use Rattle.std.specs.Prelude.{◌≡◌, Bool, List, ℤ, pos}
use Rattle.std.proofs.Math.Path.{refl}
use Rattle.std.proofs.Math.Bool.{true, false}
use Rattle.std.specs.Int.Signed.{lt_z}
use Rattle.laws.specs.Test.{pick_ind, true≢false}
use Rattle.laws.specs.Sign.{Sgn, mns, zer, pls, sgn, flip, is_mns, sgn_neg, lt_z_sgn}
use Rattle.turn.specs.declared.Point.{Point}
use Rattle.turn.specs.declared.Vector.{Vector}
use Rattle.turn.specs.Points.{before, differ, from_to, cross, clockwise}
use Rattle.turn.specs.Directions.{cross_anti, cross_self}
use Rattle.table.specs.Table.{point_in, next_in, previous_in}
use Rattle.anchor.specs.Anchor.{lower_end, lowest_with, lowest_end}
use Rattle.anchor.specs.Onward.{onward, onward_trans}

-- ---- clockwise, seen from a point
not_self : (at p : Point) → clockwise at p p ≡ false
not_self at p = ap (λ (z : ℤ). lt_z z (pos 0)) (cross_self (from_to at p))

not_back : (at p q : Point) → clockwise at p q ≡ true → clockwise at q p ≡ false
not_back at p q e =
    lt_z_sgn (cross v u) ∙ ap (λ (z : ℤ). is_mns (sgn z)) (cross_anti u v) ∙ ap is_mns (sgn_neg (cross u v))
    ∙ go (sgn (cross u v)) (sym (lt_z_sgn (cross u v)) ∙ e)
  where
    u : Vector
    u = from_to at p

    v : Vector
    v = from_to at q

    go : (s : Sgn) → is_mns s ≡ true → is_mns (flip s) ≡ false
    go mns h = refl
    go zer h = refl
    go pls h = absurd (true≢false h refl)

-- neither p nor q is strictly clockwise of the lower one's end
pub record Lower (at p q to : Point) : Type 0 where
  pub first : clockwise at to p ≡ false
  pub second : clockwise at to q ≡ false

pub lower_end_lem : (at p q : Point) → Lower at p q (lower_end at p q)
lower_end_lem at p q = pick_ind (clockwise at p q) q p (Lower at p q)
    (λ e. record { first = not_back at p q e; second = not_self at q }) (λ e. record { first = not_self at p; second = e })

-- and it is one of the two
pub one_of : (P : Point → Type 0) (at p q : Point) → P p → P q → P (lower_end at p q)
one_of P at p q h k = pick_ind (clockwise at p q) q p P (λ e. k) (λ e. h)

-- what is not lower than the first is not lower than the lower of the first and another
pub still_lower : (at b q x : Point) → before at b ≡ true → before at q ≡ true → before at x ≡ true → clockwise at b x ≡ false
    → clockwise at (lower_end at b q) x ≡ false
still_lower at b q x hb hq hx e =
    pick_ind (clockwise at b q) q b (λ (p : Point). clockwise at p x ≡ false)
    (λ f. onward_trans (from_to at q) (from_to at b) (from_to at x) (onward at q hq) (onward at b hb) (onward at x hx) (not_back at b q f) e) (λ f. e)

-- ---- visits to a point
-- none from position p on, up to q, which is not past `to`
pub record Searched (points : List ℤ) (at : Point) (p to q : ℕ) : Type 0 where
  pub low : p ≤ q
  pub high : q ≤ to
  pub none : (i : ℕ) → p ≤ i → i < q → differ (point_in points i) at ≡ true

-- the first from position p on, and before `to`; `to` where there is none
pub record NextVisit (points : List ℤ) (at : Point) (p to r : ℕ) : Type 0 where
  pub searched : Searched points at p to r
  pub here : r < to → differ (point_in points r) at ≡ false

-- ---- all edges at a point, of a contour that stands from a position up to another
module _ (points : List ℤ) (from to : ℕ) (at : Point) where
  -- the contour passes the point at its position k
  abbrev pub Passes : ℕ → Type 0
  Passes k = differ (point_in points (from + k)) at ≡ false

  -- the other ends of the two edges there
  abbrev pub after_it : ℕ → Point
  after_it k = point_in points (next_in from to (from + k))

  abbrev pub before_it : ℕ → Point
  before_it k = point_in points (previous_in from to (from + k))

  -- what holds of the ends of all edges at the point, in the first n positions
  abbrev pub Ends : (Point → Type 0) → ℕ → Type 0
  Ends P n = (k : ℕ) → k < n → Passes k → (P (after_it k)) × (P (before_it k))

  fewer : (P : Point → Type 0) (n : ℕ) → Ends P (suc n) → Ends P n
  fewer P n h k l = h k (omega arith)

  -- the lowest is one of them
  pub lowest_is : (P : Point → Type 0) (b : Point) (n : ℕ) → P b → Ends P n → P (lowest_end points from to at b n)
  unfolding lowest_end
  lowest_is P b zero h e = h
  lowest_is P b (suc n) h e =
      let r = lowest_is P b n h (fewer P n e) in
      pick_ind (differ (point_in points (from + n)) at) (lowest_end points from to at b n) _ P (λ _. r)
      (λ q. let w = e n (omega arith) q in one_of P at _ (before_it n) (one_of P at _ (after_it n) r w.0) w.1)

  -- ---- none of them is lower
  abbrev Ahead : Point → Type 0
  Ahead p = before at p ≡ true

  module _ (b : Point) (hb : Ahead b) where
    ahead : (n : ℕ) → Ends Ahead n → Ahead (lowest_end points from to at b n)
    ahead n e = lowest_is Ahead b n hb e

    -- one position more
    module _ (n : ℕ) (e : Ends Ahead (suc n)) where
      abbrev r : Point
      r = lowest_end points from to at b n

      r_ahead : Ahead r
      r_ahead = ahead n (fewer Ahead n e)

      stays : (x : Point) → Ahead x → clockwise at r x ≡ false → clockwise at (lowest_with points from to at (from + n) r) x ≡ false
      stays x hx f = pick_ind (differ (point_in points (from + n)) at) r _ (λ (p : Point). clockwise at p x ≡ false) (λ _. f)
          (λ q. let w = e n (omega arith) q in
          still_lower at (lower_end at r (after_it n)) (before_it n) x (one_of Ahead at r (after_it n) r_ahead w.0) w.1 hx
          (still_lower at r (after_it n) x r_ahead w.0 hx f))

      here : Passes n → (clockwise at (lowest_with points from to at (from + n) r) (after_it n) ≡ false)
          × (clockwise at (lowest_with points from to at (from + n) r) (before_it n) ≡ false)
      here q =
          let w = e n (omega arith) q in
          rw q (
            still_lower at (lower_end at r (after_it n)) (before_it n) (after_it n) (one_of Ahead at r (after_it n) r_ahead w.0) w.1 w.0
                (lower_end_lem at r (after_it n)).second,
            (lower_end_lem at (lower_end at r (after_it n)) (before_it n)).second,
          )

    -- the start is not lower either
    pub lowest_start : (n : ℕ) → Ends Ahead n → clockwise at (lowest_end points from to at b n) b ≡ false
    unfolding lowest_end
    lowest_start zero e = not_self at b
    lowest_start (suc n) e = stays n e b hb (lowest_start n (fewer Ahead n e))

    pub lowest_lower : (n : ℕ) → Ends Ahead n → Ends (λ (p : Point). clockwise at (lowest_end points from to at b n) p ≡ false) n
    unfolding lowest_end
    lowest_lower zero e k l q = absurd (not-suc-le-zero l)
    lowest_lower (suc n) e k l q = go (ℕ_discrete k n) (λ m. lowest_lower n (fewer Ahead n e) k m q)
      where
        z : Point
        z = lowest_with points from to at (from + n) (lowest_end points from to at b n)

        go : Dec (k ≡ n) → (k < n → (clockwise at (lowest_end points from to at b n) (after_it k) ≡ false)
            × (clockwise at (lowest_end points from to at b n) (before_it k) ≡ false))
            → (clockwise at z (after_it k) ≡ false) × (clockwise at z (before_it k) ≡ false)
        go (yes m) f = rw m (here n e (rw m at q))
        go (no m) f =
            let g = f (omega arith) in let w = e k l q in
            (stays n e (after_it k) w.0 g.0, stays n e (before_it k) w.1 g.1)

  -- ---- a contour that passes the point once
  same_twice : (q : Point) → lower_end at q q ≡ q
  same_twice q = rw (not_self at q)

  lowest_none : (b : Point) (n : ℕ) → ((k : ℕ) → k < n → Passes k → ⊥) → lowest_end points from to at b n ≡ b
  unfolding lowest_end
  lowest_none b zero h = refl
  lowest_none b (suc n) h = go (differ (point_in points (from + n)) at) refl (lowest_none b n (λ k l. h k (omega arith)))
    where
      go : (d : Bool) → differ (point_in points (from + n)) at ≡ d → lowest_end points from to at b n ≡ b
          → lowest_with points from to at (from + n) (lowest_end points from to at b n) ≡ b
      go true q r = rw q r
      go false q r = absurd (h n (omega arith) q)

  pub lowest_once : (i n : ℕ) → i < n → Passes i → ((k : ℕ) → k < n → Passes k → k ≡ i)
      → lowest_end points from to at (after_it i) n ≡ lower_end at (after_it i) (before_it i)
  unfolding lowest_end
  lowest_once i zero l p h = absurd (not-suc-le-zero l)
  lowest_once i (suc n) l p h = go (ℕ_discrete n i) (λ m. lowest_once i n m p (λ k j. h k (omega arith)))
    where
      b : Point
      b = after_it i

      other : (n ≡ i → ⊥) → (d : Bool) → differ (point_in points (from + n)) at ≡ d
          → lowest_with points from to at (from + n) (lowest_end points from to at b n) ≡ lowest_end points from to at b n
      other m true q = rw q
      other m false q = absurd (m (h n (omega arith) q))

      go : Dec (n ≡ i) → (i < n → lowest_end points from to at b n ≡ lower_end at b (before_it i))
          → lowest_with points from to at (from + n) (lowest_end points from to at b n) ≡ lower_end at b (before_it i)
      go (yes m) f =
          rw (m, lowest_none b i (λ k j q. before_it_lem k j (h k (omega arith) q)), p, same_twice b)
        where
          before_it_lem : (k : ℕ) → k < i → k ≡ i → ⊥
          before_it_lem k j e = omega arith
      go (no m) f = other m _ refl ∙ f (omega arith)

  -- ---- from one visit to the next
  -- positions at which it does not pass the point change nothing
  pub lowest_skip : (b : Point) (n m : ℕ) → n ≤ m → ((k : ℕ) → n ≤ k → k < m → differ (point_in points (from + k)) at ≡ true)
      → lowest_end points from to at b n ≡ lowest_end points from to at b m
  unfolding lowest_end
  lowest_skip b n zero h e = let z : n ≡ 0 = omega arith in rw z
  lowest_skip b n (suc m) h e = go (ℕ_discrete n (suc m)) (λ k. lowest_skip b n m k (λ i l j. e i l (omega arith)))
    where
      go : Dec (n ≡ suc m) → (n ≤ m → lowest_end points from to at b n ≡ lowest_end points from to at b m)
          → lowest_end points from to at b n ≡ lowest_end points from to at b (suc m)
      go (yes q) f = rw q
      go (no q) f = f (omega arith) ∙ rw (e m (omega arith) (omega arith))
