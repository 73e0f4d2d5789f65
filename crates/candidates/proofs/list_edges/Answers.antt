-- `list_edges`: contour by contour, as `RoundInto` says.
use native.Mathlib.Omega.{arith}
use mathlib.Core.Path.{◌≡◌}
use lib.ListN.{length}
use Rattle.candidates.proofs.Listing.{rounds_start, rounds_more}
use Rattle.candidates.proofs.list_edges.Goals as goal

pub loop-c-init : goal.loop-c-init
loop-c-init c = rounds_start _ _ c.requires.0 _ _

pub list_contour-requires : goal.list_contour-requires
list_contour-requires c =
    let s = c in
    let l = c.loop-c in
    let w = s.requires.0.within l.c c.loop-c-test.true in
    (omega arith, w, omega (arith, s.requires.1, l.invariant.next_kept.len), omega (arith, s.requires.2, l.invariant.of_kept.len))

pub loop-c-preserved : goal.loop-c-preserved
loop-c-preserved c =
    let l = c.loop-c in
    rounds_more _ _ c.requires.0 l.c _ _ l.next l.of _ _ c.loop-c-test.true l.invariant c.list_contour.ensures

pub returns : goal.returns
returns c =
    let l = c.loop-c in let e : l.c ≡ length c.args.first.now = omega arith in
    rw e at l.invariant
