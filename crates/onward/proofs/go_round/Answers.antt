-- `onward::go_round` meets its contract. The invariant: a step led to this end, and what was left of the ring before it
-- holds the answer (`Round`). The measure is how many ends are left.
use Prim.Native.Nat.{◌*◌, ◌<◌}
use native.Mathlib.Omega.{arith}
use lib.ListN.{length}
use Rattle.next.specs.States.{read_unvisited, read_shut}
use Rattle.onward.proofs.Rounds.{round_starts, round_below, round_none, round_to, round_unvisited}
use Rattle.onward.proofs.Rounds.{round_again, round_less}
use Rattle.onward.proofs.go_round.Goals as goal

pub step_from-at-requires : goal.step_from-at-requires
step_from-at-requires c =
    let s = c in let d = s.requires.0.steers in
    (omega (arith, d.nxt_long, d.size, s.requires.1.0), omega (arith, d.prv_long, d.size, s.requires.1.0))

pub loop-at-init : goal.loop-at-init
loop-at-init c =
    let s = c in let a = s.args in
    round_starts a.nxt.now a.prv.now a.state.now a.sense a.home s.requires.1 s.requires.2 _
    c.step_from-at.ensures

pub bounds-state-at : goal.bounds-state-at
bounds-state-at c =
    let below : c.loop-at.at < 2 * length c.args.state.now = let s = c in let a = s.args in
    round_below a.nxt.now a.prv.now a.state.now a.sense a.home s.requires.1 c.loop-at.at c.loop-at.invariant
    s.requires.0 in
    omega (arith, below)

pub far-requires : goal.far-requires
far-requires c =
    let below : c.loop-at.at < 2 * length c.args.state.now = let s = c in let a = s.args in
    round_below a.nxt.now a.prv.now a.state.now a.sense a.home s.requires.1 c.loop-at.at c.loop-at.invariant
    s.requires.0 in
    let l = c in let d = l.requires.0.steers in
    omega (arith, below, d.few, d.size)

pub returns-then-state-at-eq0 : goal.returns-then-state-at-eq0
returns-then-state-at-eq0 c =
    let below : c.loop-at.at < 2 * length c.args.state.now = let s = c in let a = s.args in
    round_below a.nxt.now a.prv.now a.state.now a.sense a.home s.requires.1 c.loop-at.at c.loop-at.invariant
    s.requires.0 in
    let l = c in let s = c in let a = s.args in
    let o = read_unvisited a.state.now _ (omega (arith, below)) c.if-state-at-eq0.true in record {
      goes_to = round_to a.nxt.now a.prv.now a.state.now a.sense a.home s.requires.1 l.loop-at.at l.loop-at.invariant
          c.loop-at-test.true o _ c.far.ensures;
      ends_unvisited = round_unvisited a.nxt.now a.prv.now a.state.now a.sense a.home s.requires.1 l.loop-at.at
          l.loop-at.invariant c.loop-at-test.true o _ c.far.ensures;
    }

pub step_from-at-requires-in-loop-at : goal.step_from-at-requires-in-loop-at
step_from-at-requires-in-loop-at c =
    let below : c.loop-at.at < 2 * length c.args.state.now = let s = c in let a = s.args in
    round_below a.nxt.now a.prv.now a.state.now a.sense a.home s.requires.1 c.loop-at.at c.loop-at.invariant
    s.requires.0 in
    let d = c.requires.0.steers in
    (omega (arith, d.nxt_long, d.size, below), omega (arith, d.prv_long, d.size, below))

pub loop-at-smaller : goal.loop-at-smaller
loop-at-smaller c =
    let below : c.loop-at.at < 2 * length c.args.state.now = let s = c in let a = s.args in
    round_below a.nxt.now a.prv.now a.state.now a.sense a.home s.requires.1 c.loop-at.at c.loop-at.invariant
    s.requires.0 in
    let l = c in let s = c in let a = s.args in
    round_less a.nxt.now a.prv.now a.state.now a.sense a.home s.requires.1 l.loop-at.at l.loop-at.invariant
    c.loop-at-test.true (read_shut a.state.now _ (omega (arith, below)) c.if-state-at-eq0.false) _
    c.step_from-at-in-loop-at.ensures s.requires.0

pub loop-at-preserved : goal.loop-at-preserved
loop-at-preserved c =
    let below : c.loop-at.at < 2 * length c.args.state.now = let s = c in let a = s.args in
    round_below a.nxt.now a.prv.now a.state.now a.sense a.home s.requires.1 c.loop-at.at c.loop-at.invariant
    s.requires.0 in
    let l = c in let s = c in let a = s.args in
    round_again a.nxt.now a.prv.now a.state.now a.sense a.home s.requires.1 l.loop-at.at l.loop-at.invariant
    c.loop-at-test.true (read_shut a.state.now _ (omega (arith, below)) c.if-state-at-eq0.false) _
    c.step_from-at-in-loop-at.ensures

pub returns : goal.returns
returns c =
    let l = c in let s = c in let a = s.args in record {
      goes_to = round_none a.nxt.now a.prv.now a.state.now a.sense a.home s.requires.1 l.loop-at.at l.loop-at.invariant
          c.loop-at-test.false;
      ends_unvisited = tt;
    }
