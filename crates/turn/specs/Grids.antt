-- Lists of coordinates within the bounds: so is every part of one, and so are the points that it holds.
use Rattle.std.specs.Prelude.{ℕ, suc, ◌+◌, ◌≡◌, ℤ, pos, take, drop}
use Rattle.std.proofs.Common.{arith, sym, ◌∙◌, subst, ⊎_elim, length-take, length-drop, get_or-take, get_or-drop}
use mathlib.Core.List.Memᴰ
use mathlib.Core.List.{List, [], ◌∷◌, Memᴰ}
use Rattle.turn.specs.declared.Point.{Point}
use Rattle.turn.specs.Points.{OnGrid, Grid}
use Rattle.turn.specs.Area.{points_of}

pub grid_part : (l : List ℤ) (from n : ℕ) → Grid l → Grid (take n (drop from l))
grid_part l from n g i h =
    let s = length-take n (drop from l) in let r = length-drop from l in
    let e = get_or-take n (drop from l) i (pos 0) (omega (arith, s)) ∙ get_or-drop from l i (pos 0) in
    rw e (g (from + i) (omega (arith, s, r)))

pub grid_points : (l : List ℤ) → Grid l → (p : Point) → Memᴰ p (points_of l) → OnGrid p
grid_points [] g p m = absurd (Memᴰ.not-nil m)
grid_points (x ∷ []) g p m = absurd (Memᴰ.not-nil m)
grid_points (x ∷ (y ∷ l)) g p m =
    ⊎_elim (λ (e : p ≡ record { x = x; y = y }). subst OnGrid (sym e) (g 0 (omega arith), g 1 (omega arith)))
    (λ k. grid_points l (λ i h. g (suc (suc i)) (omega arith)) p k) (Memᴰ.cases_cons m)
