-- The order of the ends of a node, all at the point `home`, is the ring order of their links.
use Prim.Native.Nat.{ℕ}
use native.Mathlib.Omega.{arith}
use mathlib.Core.Path.{◌≡◌, refl, sym, ap, ap₂, ◌∙◌}
use mathlib.Core.Bool.{Bool, true, false}
use lib.IntN.{ℤ, pos, ◌-ℤ◌, ◌*ℤ◌}
use lib.Signed.{lt_z}
use Rattle.laws.specs.Test.{pick}
use Rattle.laws.specs.Order.{sub_parts, ≡out}
use Rattle.turn.specs.declared.Point.{Point}
use Rattle.turn.specs.Points.{from_to, cross}
use Rattle.turn.specs.Angle.{same_direction}
use Rattle.graph.specs.Graph.{Graph}
use Rattle.graph.specs.Checks.{end_at, away_from}
use Rattle.rings.specs.Ends.{end_of, starts_at, end_link, end_sort}
use Rattle.rings.specs.RingOrder.{in_turn, Forward}
use Rattle.rings.specs.Rings.{InOrder}
use Rattle.rings.proofs.Making.{like_alike}
use Rattle.hoop.specs.Hoops.{way_of, Before, Parallel}

module _ (g : Graph) (v : ℕ) (home : Point) where
  -- link k's end at node v has that point
  abbrev pub AtHome : ℕ → Type 0
  AtHome k = home ≡ end_at g.a g.b g.a_node v k

  pub way_is : (k : ℕ) → AtHome k → way_of g.a g.b home (end_of g v k) ≡ away_from g v k
  way_is k p =
      ap₂ from_to p (ap₂ (λ s i. pick s (g.b i) (g.a i)) (end_sort g v k) (end_link g v k)) ∙ by (starts_at g v k)
    where
      by : (s : Bool) → from_to (pick s (g.a k) (g.b k)) (pick s (g.b k) (g.a k))
          ≡ pick s (from_to (g.a k) (g.b k)) (from_to (g.b k) (g.a k))
      by true = refl
      by false = refl

  module _ (e f : ℕ) (p : AtHome e) (q : AtHome f) where
    turn_is : cross (way_of g.a g.b home (end_of g v e)) (way_of g.a g.b home (end_of g v f)) ≡ cross (away_from g v e) (away_from g v f)
    turn_is = ap₂ cross (way_is e p) (way_is f q)

    pub in_order : Before g.a g.b home (end_of g v e) (end_of g v f) → InOrder g v e f
    in_order t =
        sym (ap₂ (λ i j. in_turn i j (lt_z (pos 0) (cross (way_of g.a g.b home (end_of g v e)) (way_of g.a g.b home (end_of g v f)))))
        (end_sort g v e) (end_sort g v f) ∙ ap (λ z. in_turn (starts_at g v e) (starts_at g v f) (lt_z (pos 0) z)) turn_is)
        ∙ t.turns

    pub run_alike : Forward g e → Forward g f → Parallel g.a g.b home (end_of g v e) (end_of g v f)
        → same_direction (away_from g v e) (away_from g v f) ≡ true
    run_alike se sf t =
        like_alike g v e f (sym (end_sort g v e) ∙ t.sort ∙ end_sort g v f) se sf
        (equal ((away_from g v e).x *ℤ (away_from g v f).y) ((away_from g v e).y *ℤ (away_from g v f).x) (sym turn_is ∙ t.flat))
      where
        equal : (x y : ℤ) → x -ℤ y ≡ pos 0 → x ≡ y
        equal x y z = ≡out (omega (arith, sub_parts x y, rw z at (sub_parts x y)))
