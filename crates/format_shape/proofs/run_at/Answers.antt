-- `format_shape::run_at` meets its contract.
use mathlib.Core.Path.{sym}
use Rattle.std.proofs.lemmas.Result.{err_from_is_err_and}
use Rattle.format_shape.specs.Runs.{running_next, running_less, running_other, running_fault}
use Rattle.format_shape.proofs.run_at.Goals as goal

pub loop-next-smaller : goal.loop-next-smaller
loop-next-smaller c =
    running_less _ _ _ _ c.loop-next.invariant _ (rw c.in-Some.is at (sym c.in_ok-next.ensures))

pub loop-next-preserved : goal.loop-next-preserved
loop-next-preserved c =
    running_next _ _ _ _ c.loop-next.invariant _ (rw c.in-Some.is at (sym c.in_ok-next.ensures))

pub returns-in_err-next : goal.returns-in_err-next
returns-in_err-next c =
    let p = err_from_is_err_and c.from_residual.result c.from_residual.ensures.1 in
    rw (p.1, p.2) (running_fault _ _ _ _ c.loop-next.invariant _ (sym c.in_err-next.ensures))

pub returns : goal.returns
returns c =
    running_other _ _ _ _ c.loop-next.invariant (rw c.in_default.is at (sym c.in_ok-next.ensures))
