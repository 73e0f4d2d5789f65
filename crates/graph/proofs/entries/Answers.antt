-- `graph::entries` meets its contract: the part of the list lies within it, since the starts rise.
use Prim.Native.Nat.{◌≤◌, ◌+◌}
use native.Mathlib.Omega.{arith}
use lib.ListN.{length}
use Rattle.graph.specs.Total.{starts_within}
use Rattle.graph.proofs.entries.Goals as goal

-- the starts of the node and of the next one
bounds : (c : goal.After-wide-to) → (c.wide-from.result ≤ c.wide-to.result)
    × (c.wide-to.result ≤ length c.args.list.now)
bounds c =
    let s = c in
    let h = s.requires.rising.step s.args.v s.requires.v_in_bounds in
    let k = starts_within s.requires.rising (s.args.v + 1) (omega arith) in
    (omega arith, omega arith)

pub offset_bounds-list-from : goal.offset_bounds-list-from
offset_bounds-list-from c = let h = bounds c in omega arith

pub slice_bounds-result-count : goal.slice_bounds-result-count
slice_bounds-result-count c = (bounds c).0

pub slice_bounds-result-start : goal.slice_bounds-result-start
slice_bounds-result-start c = (bounds c).0

pub slice_bounds-result-end : goal.slice_bounds-result-end
slice_bounds-result-end c = (bounds c).1

pub returns : goal.returns
returns c = simp (c.wide-to.ensures, c.wide-from.ensures)
