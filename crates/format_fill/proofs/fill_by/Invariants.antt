-- `format_fill::fill_by` meets its contract: so far each place has what was read for it.
use Rattle.std.proofs.Common.{ℕ, ◌+◌, ◌*◌, ◌<◌, slice_index_or}
use Rattle.format_fill.proofs.fill_by.Given as goal

abbrev pub invariant-loop-k : goal.invariant-loop-k
invariant-loop-k g l = (j : ℕ) (d : _) → j < l.k → goal.F-post g l.read (l.from + l.step * j) (slice_index_or l.out j d)
