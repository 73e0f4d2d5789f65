-- The code's comparisons of products, on numbers as it reads them, are those of the definitions.
use Prim.Native.Nat.{ℕ, ◌≤◌, ◌<◌}
use mathlib.Core.Path.{◌≡◌, refl, ap, ◌∙◌}
use mathlib.Core.Bool.{Bool, true, false}
use native.Mathlib.Omega.{arith}
use lib.IntN.{ℤ, pos, nat_abs, ◌*ℤ◌}
use lib.Signed.{lt_z}
use lib.Dec.{ltb}
use Rattle.laws.specs.Bounds.{Z, same64}
use Rattle.laws.specs.Compare.{lower, lower_n}
use Rattle.turn.specs.declared.Vector.{Vector}
use Rattle.turn.specs.Points.{Short, cross, product_bound, span}
use Rattle.anchor.specs.declared.Anchor.{Anchor}
use Rattle.anchor.specs.Anchor.{anchor_way}
use Rattle.edges.specs.declared.Edge.{Edge}
use Rattle.edges.specs.Edges.{along, run, height, lies_under, wins_tie, nearer, gap_bound}

-- a number within a bound, as a call hands it on
pub within64 : (z : ℤ) (n : ℕ) → nat_abs z ≤ n → n < 9223372036854775808 → nat_abs (Z z) ≤ n
within64 z n h k = rw (same64 z (omega arith)) h

-- the three ways of a comparison that decides, x against y where the definition has x' and y'
module _ (x y x' y' : ℤ) (r : Bool) (p : x ≡ x') (q : y ≡ y') (h : nat_abs x ≤ gap_bound) (k : nat_abs y ≤ gap_bound) where
  xy : (b : Bool) → lt_z (Z x) (Z y) ≡ b → lt_z x' y' ≡ b
  xy b t = rw (same64 x (omega arith), same64 y (omega arith), p, q) at t

  yx : (b : Bool) → lt_z (Z y) (Z x) ≡ b → lt_z y' x' ≡ b
  yx b t = rw (same64 x (omega arith), same64 y (omega arith), p, q) at t

  pub way_yes : lt_z (Z x) (Z y) ≡ true → true ≡ lower x' y' r
  way_yes t = rw (xy true t)

  pub way_no : lt_z (Z x) (Z y) ≡ false → lt_z (Z y) (Z x) ≡ true → false ≡ lower x' y' r
  way_no t u = rw (xy false t, yx true u)

  pub way_rest : lt_z (Z x) (Z y) ≡ false → lt_z (Z y) (Z x) ≡ false → r ≡ lower x' y' r
  way_rest t u = rw (xy false t, yx false u)

-- ---- the ways out of `lies_under`, at the height h that the code has found
module _ (a : Anchor) (e : Edge) (h : ℤ) (q : h ≡ height a e) (n : nat_abs h ≤ product_bound) where
  pub under_yes : lt_z (pos 0) (Z h) ≡ true → true ≡ lies_under a e
  unfolding lies_under
  under_yes t = way_yes (pos 0) h (pos 0) (height a e) _ refl q (omega arith) (omega arith) t

  pub under_no : lt_z (pos 0) (Z h) ≡ false → lt_z (Z h) (pos 0) ≡ true → false ≡ lies_under a e
  unfolding lies_under
  under_no t u = way_no (pos 0) h (pos 0) (height a e) _ refl q (omega arith) (omega arith) t u

  pub under_on : (x : ℤ) → x ≡ cross (along e) (anchor_way a) → nat_abs x ≤ product_bound
      → lt_z (pos 0) (Z h) ≡ false → lt_z (Z h) (pos 0) ≡ false → lt_z (pos 0) (Z x) ≡ lies_under a e
  unfolding lies_under
  under_on x p m t u =
      ap (λ z. lt_z (pos 0) z) (same64 x (omega arith) ∙ p)
      ∙ way_rest (pos 0) h (pos 0) (height a e) _ refl q (omega arith) (omega arith) t u

-- a product as the code hands its factors on
factors : (a b a' b' : ℤ) → a ≡ a' → b ≡ b' → nat_abs a ≤ product_bound → nat_abs b ≤ span → Z a *ℤ Z b ≡ a' *ℤ b'
factors a b a' b' p q h k = rw (same64 a (omega arith), same64 b (omega arith), p, q)

-- ---- the ways out of `wins_tie`: x is the other edge's slope times both runs, y the edge's own
module _ (u v : Vector) (ke kf ce cf : ℕ) (x y : ℤ) (hu : Short u) (hv : Short v)
    (p : x ≡ Z v.y *ℤ Z u.x) (q : y ≡ Z u.y *ℤ Z v.x) (h : nat_abs x ≤ gap_bound) (k : nat_abs y ≤ gap_bound) where
  px : x ≡ v.y *ℤ u.x
  px = p ∙ factors v.y u.x v.y u.x refl refl (omega arith) (omega arith)

  qy : y ≡ u.y *ℤ v.x
  qy = q ∙ factors u.y v.x u.y v.x refl refl (omega arith) (omega arith)

  pub tie_yes : lt_z (Z x) (Z y) ≡ true → true ≡ wins_tie u v ke kf ce cf
  unfolding wins_tie
  tie_yes t = way_yes x y (v.y *ℤ u.x) (u.y *ℤ v.x) _ px qy h k t

  pub tie_no : lt_z (Z x) (Z y) ≡ false → lt_z (Z y) (Z x) ≡ true → false ≡ wins_tie u v ke kf ce cf
  unfolding wins_tie
  tie_no t s = way_no x y (v.y *ℤ u.x) (u.y *ℤ v.x) _ px qy h k t s

  pub tie_rest : lt_z (Z x) (Z y) ≡ false → lt_z (Z y) (Z x) ≡ false → lower_n ke kf (ltb ce cf) ≡ wins_tie u v ke kf ce cf
  unfolding wins_tie
  tie_rest t s = way_rest x y (v.y *ℤ u.x) (u.y *ℤ v.x) _ px qy h k t s

-- ---- the ways out of `is_nearer`: x and y are the gaps times both runs
module _ (a : Anchor) (e f : Edge) (i j : ℤ) (u v : Vector) (x y : ℤ) (hi : nat_abs i ≤ product_bound) (hj : nat_abs j ≤ product_bound) (hu : Short u)
    (hv : Short v)
    (ei : i ≡ height a e) (ej : j ≡ height a f) (eu : u ≡ along e) (ev : v ≡ along f)
    (p : x ≡ Z i *ℤ Z v.x) (q : y ≡ Z j *ℤ Z u.x) (h : nat_abs x ≤ gap_bound) (k : nat_abs y ≤ gap_bound) where
  gx : x ≡ height a e *ℤ run f
  gx = p ∙ factors i v.x (height a e) (run f) ei (ap (λ (w : Vector). w.x) ev) hi (omega arith)

  gy : y ≡ height a f *ℤ run e
  gy = q ∙ factors j u.x (height a f) (run e) ej (ap (λ (w : Vector). w.x) eu) hj (omega arith)

  pub nearer_yes : lt_z (Z x) (Z y) ≡ true → true ≡ nearer a e f
  unfolding nearer
  nearer_yes t = way_yes x y (height a e *ℤ run f) (height a f *ℤ run e) _ gx gy h k t

  pub nearer_no : lt_z (Z x) (Z y) ≡ false → lt_z (Z y) (Z x) ≡ true → false ≡ nearer a e f
  unfolding nearer
  nearer_no t s = way_no x y (height a e *ℤ run f) (height a f *ℤ run e) _ gx gy h k t s

  pub nearer_rest : (b : Bool) → b ≡ wins_tie u v e.kind f.kind e.contour f.contour → lt_z (Z x) (Z y) ≡ false → lt_z (Z y) (Z x) ≡ false → b
      ≡ nearer a e f
  unfolding nearer
  nearer_rest b c t s = rw (eu, ev) at c ∙ way_rest x y (height a e *ℤ run f) (height a f *ℤ run e) _ gx gy h k t s
