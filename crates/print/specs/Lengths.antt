-- How long the texts are.
use Prim.Native.Nat.{ℕ, zero, suc, ◌+◌, ◌*◌, ◌^◌, ◌≤◌, ◌<◌}
use Rattle.std.specs.Prelude.{◌≡◌, refl, List, ◌++◌, eqb, ℤ, pos, negsuc, nat_abs, length}
use native.Mathlib.Omega.{arith}
use Rattle.std.proofs.Math.ListN.{get_or}
use Rattle.std.proofs.Common.{length-append, Fits}
use Rattle.std.specs.Int.{w16}
use Rattle.laws.specs.Test.{pick, pick_ind}
use Rattle.turn.specs.Limits.{max_links, max_coordinate}
use Rattle.turn.specs.Points.{Grid}
use Rattle.table.specs.Table.{max_contours, dropped_owner}
use Rattle.print_text.specs.Text.{text}
use Rattle.print_text.specs.Decimal.{decimal, decimal_z, length_digits, said}
use Rattle.print.specs.Answer.{OwnedTable, point_lines, contour_lines, contours_from, printed, printed_refusal}
use Rattle.print_lines.specs.Lines.{header, role_text, contour_line, point_line}
use Rattle.print.specs.Room.{answer_bytes, refusal_bytes, Printable}
use Rattle.print_lines.specs.declared.Totals.{Totals}

-- four digits, five, ten and twenty
short : (k n : ℕ) → n < 10 ^ 20 → n < 10 ^ suc k → length (decimal n) ≤ suc k
short k n h g = length_digits 19 k n h g

said_short : (word : List ℕ) (k n : ℕ) → n < 10 ^ 20 → n < 10 ^ suc k → length (said word n) ≤ length word + suc k
said_short word k n h g = omega (arith, length-append word (decimal n), short k n h g)

-- a piece and what follows it
both : (a b : List ℕ) (m n : ℕ) → length a ≤ m → length b ≤ n → length (a ++ b) ≤ m + n
both a b m n h k = omega (arith, length-append a b)

pub refusal_short : (number place : ℕ) → number < 2 ^ 32 → place < 2 ^ 64 → length (printed_refusal number place) ≤ refusal_bytes
unfolding printed_refusal
refusal_short number place h k =
    both (said (text "refused ") number) (said (text " at ") place ++ text "\n") 18 25 (said_short (text "refused ") 9 number (omega arith) (omega arith))
    (both (said (text " at ") place) (text "\n") 24 1 (said_short (text " at ") 19 place (omega arith) (omega arith)) (omega arith))

header_short : (t : Totals) → t.contours < 10000 → t.shapes < 10000 → t.points < 10000 → t.dropped < 10000 → length (header t) ≤ 51
unfolding header
header_short t a b c d =
    both (said (text "contours ") t.contours) _ 13 38 (said_short (text "contours ") 3 t.contours (omega arith) (omega arith))
    (both (said (text " shapes ") t.shapes) _ 12 26 (said_short (text " shapes ") 3 t.shapes (omega arith) (omega arith))
    (both (said (text " points ") t.points) _ 12 14 (said_short (text " points ") 3 t.points (omega arith) (omega arith))
    (both (said (text " dropped ") t.dropped) (text "\n") 13 1 (said_short (text " dropped ") 3 t.dropped (omega arith) (omega arith)) (omega arith))))

role_short : (kind owner : ℕ) → length (role_text kind owner) ≤ 9
role_short kind owner =
    pick_ind (eqb kind 0) (text " hull ") (pick (eqb owner dropped_owner) (text " dropped ") (text " hole ")) (λ (l : List ℕ). length l ≤ 9)
    (λ t. omega arith)
    (λ t. pick_ind (eqb owner dropped_owner) (text " dropped ") (text " hole ") (λ (l : List ℕ). length l ≤ 9) (λ u. omega arith) (λ u. omega arith))

line_short : (number kind owner len : ℕ) → number < 10000 → owner < 65536 → len < 10000 → length (contour_line number kind owner len) ≤ 24
unfolding contour_line
line_short number kind owner len a b c =
    both (decimal number) _ 4 20 (short 3 number (omega arith) (omega arith))
    (both (said (role_text kind owner) owner) _ 14 6 (omega (
      arith,
      said_short (role_text kind owner) 4 owner (omega arith) (omega arith),
      role_short kind
          owner,
    ))
    (both (said (text " ") len) (text "\n") 5 1 (said_short (text " ") 3 len (omega arith) (omega arith)) (omega arith)))

signed_short : (x : ℤ) → nat_abs x ≤ max_coordinate → length (decimal_z x) ≤ 7
signed_short (pos n) h = omega (arith, short 5 n (omega arith) (omega arith))
signed_short (negsuc n) h = omega (arith, short 5 (suc n) (omega arith) (omega arith))

point_short : (x y : ℤ) → nat_abs x ≤ max_coordinate → nat_abs y ≤ max_coordinate → length (point_line x y) ≤ 16
unfolding point_line
point_short x y f g =
    both (decimal_z x) _ 7 9 (signed_short x f)
    (both (text " ") (decimal_z y ++ text "\n") 1 8 (omega arith) (both (decimal_z y) (text "\n") 7 1 (signed_short y g) (omega arith)))

points_short : (points : List ℤ) → Grid points → (count p : ℕ) → 2 * (p + count) ≤ length points → length (point_lines points p count) ≤ 16 * count
unfolding point_lines
points_short points f zero p h = omega arith
points_short points f (suc count) p h =
    omega (
      arith,
      both (point_line (get_or points (2 * p) (pos 0)) (get_or points (2 * p + 1) (pos 0))) (point_lines points (p + 1) count) 16 (16 * count)
          (point_short (get_or points (2 * p) (pos 0)) (get_or points (2 * p + 1) (pos 0)) (f (2 * p) (omega arith)) (f (2 * p + 1) (omega arith)))
          (points_short points f count (p + 1) (omega arith)),
    )

-- the points of so many contours from number i on
unfoldable points_from : List ℕ → ℕ → ℕ → ℕ
points_from len i zero = 0
points_from len i (suc count) = get_or len i 0 + points_from len (i + 1) count

module _ (t : OwnedTable) (totals : Totals) (p : Printable t totals) where
  -- as the ranges follow each other, the contours have no more points than there are
  count_within : (n i : ℕ) → i + suc n ≡ totals.contours → get_or t.first i 0 + points_from t.len i (suc n) ≤ totals.points
  unfolding points_from
  count_within zero i h = omega (arith, p.within i (omega arith))
  count_within (suc n) i h = omega (arith, count_within n (i + 1) (omega arith), p.follows i (omega arith))

  count_few : (n : ℕ) → n ≡ totals.contours → points_from t.len 0 n ≤ max_links
  unfolding points_from
  count_few zero h = omega arith
  count_few (suc n) h = omega (arith, count_within n 0 (omega arith), p.few)

  three_each : (n i : ℕ) → i + n ≤ totals.contours → 3 * n ≤ points_from t.len i n
  unfolding points_from
  three_each zero i h = omega arith
  three_each (suc n) i h = omega (arith, p.long i (omega arith), three_each n (i + 1) (omega arith))

  contours_few : totals.contours ≤ max_contours
  contours_few = omega (arith, three_each totals.contours 0 (omega arith), count_few totals.contours refl)

  contours_short : ((j : ℕ) → Fits w16 (get_or t.owner j 0)) → (n i : ℕ) → i + n ≡ totals.contours → points_from t.len i n ≤ max_links
      → length (contours_from t i n) ≤ 24 * n + 16 * points_from t.len i n
  unfolding contours_from points_from
  contours_short owners zero i h k = omega arith
  contours_short owners (suc n) i h k =
      let len = get_or t.len i 0 in
      omega (
        arith,
        both (contour_lines t i) (contours_from t (i + 1) n) (24 + 16 * len) (24 * n + 16 * points_from t.len (i + 1) n)
            (both (contour_line i (get_or t.kind i 0) (get_or t.owner i 0) len) (point_lines t.points (get_or t.first i 0) len) 24 (16 * len)
            (line_short i (get_or t.kind i 0) (get_or t.owner i 0) len (omega (arith, contours_few)) (omega (arith, (owners i).fits)) (omega arith))
            (points_short t.points p.grid len (get_or t.first i 0) (p.ranges.points i (omega arith))))
            (contours_short owners n (i + 1) (omega arith) (omega arith)),
      )

  -- an answer has room in `answer_bytes`
  pub answer_short : ((j : ℕ) → Fits w16 (get_or t.owner j 0)) → length (printed t totals) ≤ answer_bytes
  answer_short owners =
      let few = contours_few in
      let points = count_few totals.contours refl in
      omega (
        arith,
        both (header totals) (contours_from t 0 totals.contours) 51 (24 * totals.contours + 16 * points_from t.len 0 totals.contours)
            (header_short totals (omega arith) (omega (arith, p.shapes)) (omega (arith, p.few)) (omega (arith, p.dropped)))
            (contours_short owners totals.contours 0 (omega arith) points),
      )
