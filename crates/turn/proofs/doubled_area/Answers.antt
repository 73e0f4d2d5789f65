-- `turn::doubled_area` meets its contract; the invariant: the sum so far and what is left make the area.
use Prim.Native.Nat.{◌+◌, ◌*◌}
use mathlib.Core.Path.{◌≡◌, ap, ◌∙◌}
use native.Mathlib.Omega.{arith}
use lib.IntN.{◌+ℤ◌}
use mir.Syntax.{w64}
use mir.Val.{to_z}
use Rattle.laws.specs.Bounds.{fits64, same64}
use Rattle.turn.proofs.Sums.{starts, adds, size_with, fits, ends}
use Rattle.turn.proofs.doubled_area.Goals as goal

pub loop-k-init : goal.loop-k-init
loop-k-init c = starts c.args.points.now c.if-points-lt2.false c.requires.1

pub overflow_add-sum : goal.overflow_add-sum
overflow_add-sum c =
    let w = c.wedge-sum in
    rw (same64 w.result (omega arith))
    (fits64 (to_z w64 c.loop-k.sum-bits +ℤ w.result)
    (fits c.loop-k.invariant w.result w.ensures.1
    c.requires.0))

pub loop-k-preserved : goal.loop-k-preserved
loop-k-preserved c =
    let w = c.wedge-sum in
    let l = c.loop-k in
    let n : (l.k + 1) * 2 ≡ l.k * 2 + 2 = omega arith in
    rw (n, same64 w.result (omega arith), same64 (to_z w64 l.sum-bits +ℤ w.result) (fits l.invariant w.result w.ensures.1 c.requires.0))
    (adds l.invariant w.result w.ensures.0 w.ensures.1 c.requires.1 (omega arith))

pub overflow_add-result : goal.overflow_add-result
overflow_add-result c =
    let w = c.wedge in
    rw (same64 w.result (omega arith))
    (fits64 (to_z w64 c.loop-k.sum-bits +ℤ w.result)
    (fits c.loop-k.invariant w.result w.ensures.1 c.requires.0))

pub returns : goal.returns
returns c =
    let w = c.wedge in
    let l = c.loop-k in
    rw (same64 w.result (omega arith), same64 (to_z w64 l.sum-bits +ℤ w.result) (fits l.invariant w.result w.ensures.1 c.requires.0))
    (ap (λ z. to_z w64 l.sum-bits +ℤ z) w.ensures.0 ∙ ends l.invariant (omega arith), size_with l.invariant w.result w.ensures.1)
