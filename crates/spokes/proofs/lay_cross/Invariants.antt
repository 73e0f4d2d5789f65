-- `spokes::lay_cross` meets its contract: entry after entry, as `Crossings` says.
use Rattle.spokes.proofs.Crossings.{Crossing}
use Rattle.spokes.proofs.lay_cross.Given as goal

abbrev pub invariant-loop-j : goal.invariant-loop-j
invariant-loop-j l =
    Crossing l.ax l.ay l.bx l.by l.aid l.bid l.state l.here l.v l.home l.initial.nxt l.initial.prv l.nxt l.prv l.hoop l.j
