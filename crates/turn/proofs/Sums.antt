-- The loop of `doubled_area`: the sum so far, what it still lacks, and that it fits.
use mathlib.Core.Path.{◌≡◌, refl, sym, ap, ap₂, ◌∙◌, subst}
use mathlib.Core.List.{List, [], ◌∷◌}
use Prim.Native.Nat.{ℕ, suc, ◌+◌, ◌*◌, ◌≤◌, ◌<◌}
use native.Mathlib.Omega.{arith}
use native.Mathlib.Numerals.{add-one}
use lib.ListN.{length, get_or, drop, length-drop}
use lib.Seq.{drop-cons}
use lib.IntN.{ℤ, pos, nat_abs, ◌+ℤ◌, +ℤ_idl, +ℤ_assoc}
use mir.Syntax.{w32}
use mir.Val.{to_z, of_z}
use Rattle.laws.specs.Bounds.{same32, abs_add}
use Rattle.turn.specs.declared.Point.{Point}
use Rattle.turn.specs.Limits.{max_links}
use Rattle.turn.specs.Points.{OnGrid, Grid}
use Rattle.turn.specs.Area.{wedge, wedge_bound, area_to, area, points_of}

-- the point that the numbers at i and i + 1 are
abbrev pub point_at : List ℤ → ℕ → Point
point_at l i = record { x = get_or l i (pos 0); y = get_or l (i + 1) (pos 0) }

pub on_grid : (l : List ℤ) (i : ℕ) → Grid l → i + 1 < length l → OnGrid (point_at l i)
on_grid l i g h = (g i (omega arith), g (i + 1) h)

-- as the code reads it
abbrev pub read_at : List ℤ → ℕ → Point
read_at l i = record { x = to_z w32 (of_z w32 (get_or l i (pos 0))); y = to_z w32 (of_z w32 (get_or l (i + 1) (pos 0))) }

pub read_is : (l : List ℤ) (i : ℕ) → Grid l → i + 1 < length l → read_at l i ≡ point_at l i
read_is l i g h =
    λ k. record { x = same32 (get_or l i (pos 0)) (omega (arith, g i (omega arith))) k; y = same32 (get_or l (i + 1) (pos 0)) (omega (arith, g (i + 1) h)) k }

pub read_on : (l : List ℤ) (i : ℕ) → Grid l → i + 1 < length l → OnGrid (read_at l i)
read_on l i g h = subst OnGrid (sym (read_is l i g h)) (on_grid l i g h)

-- before the number at i is read
pub record Summed (l : List ℤ) (home p : Point) (sum : ℤ) (i : ℕ) : Type 0 where
  pub within : i ≤ length l
  pub on : OnGrid p
  pub size : nat_abs sum + wedge_bound ≤ i * wedge_bound
  pub value : sum +ℤ area_to home (p ∷ points_of (drop i l)) ≡ area (points_of l)

first_value : (l : List ℤ) → 2 ≤ length l → pos 0 +ℤ area_to (point_at l 0) (point_at l 0 ∷ points_of (drop 2 l)) ≡ area (points_of l)
first_value [] h = absurd (omega arith)
first_value (x ∷ []) h = absurd (omega arith)
first_value (x ∷ (y ∷ l)) h = +ℤ_idl (area_to (record { x = x; y = y }) (record { x = x; y = y } ∷ points_of l))

pub starts : (l : List ℤ) → 2 ≤ length l → Grid l → Summed l (read_at l 0) (read_at l 0) (pos 0) 2
starts l h g = subst (λ home. Summed l home home (pos 0) 2) (sym (read_is l 0 g h))
    (record { within = h; on = on_grid l 0 g h; size = omega arith; value = first_value l h })

-- one more point q, at i
rest_is : (l : List ℤ) (i : ℕ) → i + 1 < length l → points_of (drop i l) ≡ point_at l i ∷ points_of (drop (i + 2) l)
rest_is l i h =
    ap points_of (drop-cons l i (pos 0) (omega arith) ∙ ap (λ r. get_or l i (pos 0) ∷ r) (drop-cons l (suc i) (pos 0) (omega arith)))
    ∙ ap₂ (λ (j k : ℕ). record { x = get_or l i (pos 0); y = get_or l j (pos 0) } ∷ points_of (drop k l)) (sym (add-one i)) (two i)
  where
    two : (i : ℕ) → suc (suc i) ≡ i + 2
    two i = omega arith

next_size : (s w : ℤ) (i : ℕ) → nat_abs s + wedge_bound ≤ i * wedge_bound → nat_abs w ≤ wedge_bound → nat_abs (s +ℤ w) ≤ i * wedge_bound
next_size s w i h k = omega (arith, abs_add s w)

module _ {l : List ℤ} {home p : Point} {sum : ℤ} {i : ℕ} (s : Summed l home p sum i) where
  pub adds : (w : ℤ) → w ≡ wedge p (read_at l i) → nat_abs w ≤ wedge_bound → Grid l → i + 1 < length l → Summed l home (read_at l i) (sum +ℤ w) (i + 2)
  adds w e k g h = let rest = points_of (drop (i + 2) l) in record {
    within = omega arith;
    on = read_on l i g h;
    size = omega (arith, next_size sum w i s.size k);
    value =
        ap (λ w. sum +ℤ w +ℤ area_to home (read_at l i ∷ rest)) e ∙ +ℤ_assoc sum (wedge p (read_at l i)) (area_to home (read_at l i ∷ rest))
        ∙ ap (λ r. sum +ℤ area_to home (p ∷ r)) (ap (λ q. q ∷ rest) (read_is l i g h) ∙ sym (rest_is l i h)) ∙ s.value;
  }

  -- the sum with one more term, and that it fits
  pub size_with : (w : ℤ) → nat_abs w ≤ wedge_bound → nat_abs (sum +ℤ w) ≤ length l * wedge_bound
  size_with w h = omega (arith, next_size sum w i s.size h, s.within)

  pub fits : (w : ℤ) → nat_abs w ≤ wedge_bound → length l ≤ 2 * max_links → nat_abs (sum +ℤ w) < 9223372036854775808
  fits w h m = omega (arith, size_with w h)

  pub ends : length l ≤ i + 1 → sum +ℤ wedge p home ≡ area (points_of l)
  ends h = ap (λ r. sum +ℤ area_to home (p ∷ r)) (sym (none (drop i l) (omega (arith, length-drop i l)))) ∙ s.value
    where
      none : (r : List ℤ) → length r ≤ 1 → points_of r ≡ []
      none [] k = refl
      none (x ∷ []) k = refl
      none (x ∷ (y ∷ r)) k = absurd (omega arith)
