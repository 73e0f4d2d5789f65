-- `size::is_kept` meets its contract: a huge minimum rejects, and any other can be doubled.
use Prim.Native.Nat.{◌*◌}
use native.Mathlib.Omega.{arith}
use mathlib.Core.Path.{ap, sym, ◌∙◌}
use mathlib.Core.Bool.{◌&&◌, ◌||◌}
use mir.Syntax.{w64}
use mir.ValLaws.{to_z-of_z}
use lib.Dec.{leb, eqb}
use Rattle.size.specs.Doubled.{by_doubled, huge_rejects}
use Rattle.size.proofs.is_kept.Goals as goal

pub returns-then-minimum-ge-HUGE : goal.returns-then-minimum-ge-HUGE
returns-then-minimum-ge-HUGE c = let a = c.args in sym (huge_rejects a.points a.area a.minimum c.ranges.area (omega (arith, c.if-minimum-ge-HUGE.true)))

pub overflow_mul-result : goal.overflow_mul-result
overflow_mul-result c = record { fits = omega (arith, c.if-minimum-ge-HUGE.false) }

pub returns : goal.returns
returns c =
    let a = c.args in
    ap (λ n. leb 3 a.points && (eqb a.minimum 0 || leb (2 * a.minimum) n)) (rw (to_z-of_z w64 _ c.ranges.area) at c.absolute.ensures)
    ∙ sym (by_doubled a.points a.area a.minimum)
