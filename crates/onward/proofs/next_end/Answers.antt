-- `onward::next_end` meets its contract: at a `Bridge` the list holds the far end of the other entry, and a `Cross` is gone round.
use Prim.Native.Nat.{◌<◌}
use native.Mathlib.Omega.{arith}
use lib.ListN.{length}
use Rattle.next.specs.States.{read_unvisited, read_shut, names_unvisited}
use Rattle.rings.specs.Ends.{link_of}
use Rattle.onward.proofs.Rounds.{bridge_below, bridge_to, bridge_none}
use Rattle.onward.proofs.next_end.Goals as goal

pub bounds-nxt-h : goal.bounds-nxt-h
bounds-nxt-h c =
    let s = c in let d = s.requires.0.steers in
    omega (arith, d.nxt_long, d.size, s.requires.1.0)

pub bounds-state-to : goal.bounds-state-to
bounds-state-to c =
    let below : link_of c.wide-to.result < length c.args.state.now = let s = c in
    rw c.wide-to.ensures (bridge_below {prv = s.args.prv.now} s.args.h s.requires.1
    c.if-f-lt-CROSS.true s.requires.0) in
    below

pub returns-then-state-to-eq0 : goal.returns-then-state-to-eq0
returns-then-state-to-eq0 c =
    let below : link_of c.wide-to.result < length c.args.state.now = let s = c in
    rw c.wide-to.ensures (bridge_below {prv = s.args.prv.now} s.args.h s.requires.1
    c.if-f-lt-CROSS.true s.requires.0) in
    let s = c in let a = s.args in
    let o = read_unvisited a.state.now _ below c.if-state-to-eq0.true in record {
      next_end_says = λ g d. bridge_to a.h s.requires.1 c.if-f-lt-CROSS.true _ c.wide-to.ensures g d a.sense o;
      ends_unvisited = names_unvisited a.state.now _ o;
    }

pub returns-then-f-lt-CROSS : goal.returns-then-f-lt-CROSS
returns-then-f-lt-CROSS c =
    let below : link_of c.wide-to.result < length c.args.state.now = let s = c in
    rw c.wide-to.ensures (bridge_below {prv = s.args.prv.now} s.args.h s.requires.1
    c.if-f-lt-CROSS.true s.requires.0) in
    let s = c in let a = s.args in
    let o = read_shut a.state.now _ below c.if-state-to-eq0.false in record {
      next_end_says = λ g d. bridge_none a.h s.requires.1 c.if-f-lt-CROSS.true _ c.wide-to.ensures g d a.sense o;
      ends_unvisited = tt;
    }

pub returns : goal.returns
returns c = record {
  next_end_says = c.go_round.ensures.goes_to;
  ends_unvisited = c.go_round.ensures.ends_unvisited;
}
