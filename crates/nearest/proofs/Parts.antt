-- The search for the first anchor that is not left of an edge.
use Prim.Native.Nat.{ℕ, ◌-◌, ◌^◌, ◌≤◌, ◌<◌}
use mathlib.Core.Path.{◌≡◌, sym, ap, ◌∙◌}
use mathlib.Core.Bool.{true, false}
use mathlib.Core.List.{List}
use native.Mathlib.Omega.{arith}
use lib.ListN.{length, get_or, take}
use lib.Seq.{length-take-le, get_or-take}
use Rattle.std.specs.List.Sorted.{IsPartitionedBy, IsPartitionPoint}
use Rattle.std.proofs.lemmas.List.{get_or_default}
use lib.IntN.{ℤ, pos}
use lib.Signed.{mag, lt_z, ◌<ℤ◌}
use mir.Syntax.{w32}
use mir.Val.{to_z, of_z}
use mir.ValLaws.{to_z-of_z}
use Rattle.laws.specs.Order.{lin}
use Rattle.laws.specs.Compare.{lt_yes, lt_no, yes_lt}
use Rattle.laws.specs.Bounds.{same32}
use Rattle.turn.specs.Points.{Coord}
use Rattle.anchor.specs.declared.Anchor.{Anchor}
use Rattle.anchor.specs.Anchors.{blank, anchors_of, anchor_at}
use Rattle.nearest.specs.SearchLists.{Sorted, Parted}

-- an anchor's x, as the code reads it
pub x_at : (l : List Anchor) (j : ℕ) → get_or (anchors_of l).x j (pos 0) ≡ (get_or l j blank).at.x
x_at l j = ap (λ (a : Anchor). a.at.x) (anchor_at l j)

-- ---- the slice's search among the first m: what it asks of them, and what it answers
module _ (l : List Anchor) (m : ℕ) (x : ℤ) (h : m ≤ length l) where
  abbrev front : List Anchor
  front = take m l

  abbrev xs : List ℤ
  xs = (anchors_of l).x

  long : length front ≡ m
  long = length-take-le m l h

  at : (i : ℕ) (d : Anchor) → i < m → (get_or front i d).at.x ≡ get_or xs i (pos 0)
  at i d k = ap (λ (a : Anchor). a.at.x) (get_or-take m l i d k ∙ get_or_default l i d blank (omega arith)) ∙ sym (x_at l i)

  pub sorted_parted : Sorted (anchors_of l).x m → IsPartitionedBy (λ (a : Anchor). lt_z a.at.x x) front
  sorted_parted s i j d k n t =
      let n' : j < m = rw long at n in
      let o = s i j k n' in
      let u = lt_yes (get_or xs j (pos 0)) x (rw (at j d n') at t) in
      let v : get_or xs i (pos 0) <ℤ x = omega lin in
      rw (at i d (omega arith)) (yes_lt v)

  pub point_parted : (r : ℕ) → r ≤ length front
      → IsPartitionPoint (λ (a : Anchor). lt_z a.at.x x ≡ true) (λ (a : Anchor). lt_z a.at.x x ≡ false) front r → Parted (anchors_of l).x m x r
  point_parted r b p = record {
    within = rw long at b;
    below = λ k i. lt_yes (get_or xs k (pos 0)) x (rw (at k blank (omega (arith, b, long))) at (p.0 k blank (omega arith) i));
    above = λ k i j. lt_no (get_or xs k (pos 0)) x (rw (at k blank j) at (p.1 k blank i (omega (arith, long))));
  }

-- ---- the look at the last one
-- of no numbers none is below x
pub none_below : (l : List ℤ) (m : ℕ) (x : ℤ) → m ≡ 0 → Parted l m x m
none_below l m x e = record { within = omega arith; below = λ k h. absurd (none k h); above = λ k h j. absurd (none k j) }
  where
    none : (k : ℕ) → k < m → ⊥
    none k h = omega arith

-- where the last is below x, all are
pub last_below : (l : List ℤ) (m : ℕ) (x : ℤ) → Sorted l m → (m ≡ 0 → ⊥) → get_or l (m - 1) (pos 0) <ℤ x → Parted l m x m
last_below l m x s n t = record {
  within = omega arith;
  below = λ k h. let o = s k (m - 1) (omega arith) (omega arith) in omega lin;
  above = λ k h j. absurd (past k h j);
}
  where
    past : (k : ℕ) → m ≤ k → k < m → ⊥
    past k h j = omega arith

-- an element as the code reads it, and its test against y
pub num : (z : ℤ) → mag z < 2 ^ 31 → to_z w32 (of_z w32 z) ≡ z
num z l = to_z-of_z w32 z (record { sfits = l })

pub seen_lt : (z y : ℤ) → mag z < 2 ^ 31 → lt_z (to_z w32 (of_z w32 z)) y ≡ true → z <ℤ y
seen_lt z y h t = lt_yes z y (rw (num z h) at t)

pub coord32 : (z : ℤ) → Coord z → to_z w32 (of_z w32 z) ≡ z
coord32 z h = same32 z (omega arith)
