-- What the tests of `stands_later` tell: f starts at the node or not, and e does or not.
use Prim.Native.Nat.{ℕ, ◌≤◌}
use native.Mathlib.Omega.{arith}
use mathlib.Core.Path.{◌≡◌, refl, ap, ◌∙◌}
use mathlib.Core.Bool.{Bool, true, false, not, ◌&&◌}
use mathlib.Core.List.{List}
use lib.Dec.{eqb}
use lib.IntN.{ℤ, pos, nat_abs}
use lib.ListN.{get_or}
use lib.Signed.{lt_z}
use Rattle.laws.specs.Test.{true≢false}
use Rattle.laws.specs.Bounds.{Z, same64}
use Rattle.turn.specs.Points.{cross, product_bound}
use Rattle.graph.specs.Checks.{away_from}
use Rattle.rings.specs.RingOrder.{in_turn}
use Rattle.fan.specs.Orders.{links_alone, stands_later}

alone_later : (s t x : Bool) → s && not t ≡ true → true ≡ in_turn t s x
alone_later true false x h = refl
alone_later true true x h = absurd (true≢false h refl)
alone_later false t x h = absurd (true≢false h refl)

alone_earlier : (s t x : Bool) → t && not s ≡ true → false ≡ in_turn t s x
alone_earlier false true x h = refl
alone_earlier true true x h = absurd (true≢false h refl)
alone_earlier s false x h = absurd (true≢false h refl)

by_turn : (s t x : Bool) → s && not t ≡ false → t && not s ≡ false → x ≡ in_turn t s x
by_turn true true x h k = refl
by_turn true false x h k = absurd (true≢false refl h)
by_turn false true x h k = absurd (true≢false refl k)
by_turn false false x h k = refl

-- as the code asks them: p and q are the nodes that e and f start at
module _ (ax ay bx by : List ℤ) (aid : List ℕ) (v e f p q : ℕ) (at_p : p ≡ get_or aid e 0) (at_q : q ≡ get_or aid f 0) where
  abbrev turn : ℤ
  turn = cross (away_from (links_alone ax ay bx by aid) v f) (away_from (links_alone ax ay bx by aid) v e)

  pub starts_later : eqb p v && not (eqb q v) ≡ true → true ≡ stands_later ax ay bx by aid v e f
  starts_later h = alone_later (eqb (get_or aid e 0) v) (eqb (get_or aid f 0) v) (lt_z (pos 0) turn) (rw (at_p, at_q) at h)

  pub starts_earlier : eqb q v && not (eqb p v) ≡ true → false ≡ stands_later ax ay bx by aid v e f
  starts_earlier h = alone_earlier (eqb (get_or aid e 0) v) (eqb (get_or aid f 0) v) (lt_z (pos 0) turn) (rw (at_p, at_q) at h)

  pub turns_later : (z : ℤ) → z ≡ turn → nat_abs z ≤ product_bound → eqb p v && not (eqb q v) ≡ false → eqb q v && not (eqb p v) ≡ false
      → lt_z (pos 0) (Z z) ≡ stands_later ax ay bx by aid v e f
  turns_later z is small h k =
      ap (lt_z (pos 0)) (same64 z (omega (arith, small)) ∙ is)
      ∙ by_turn (eqb (get_or aid e 0) v) (eqb (get_or aid f 0) v) (lt_z (pos 0) turn) (rw (at_p, at_q) at h) (rw (at_p, at_q) at k)
