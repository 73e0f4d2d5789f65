-- `outline::read_input` meets its contract; the invariant: what is read so far stands at the buffer's front.
use Rattle.std.proofs.Common.{◌≤◌, ◌-◌, length}
use Rattle.outline.proofs.read_input.Given as goal

abbrev pub invariant-loop-done : goal.invariant-loop-done
invariant-loop-done l = l.done ≤ length l.buf

abbrev pub decreases-loop-done : goal.decreases-loop-done
decreases-loop-done l = length l.buf - l.done
