-- `sweep::scan_links` meets its contract. The invariant: what the scan leaves from here it leaves from the loop's start,
-- and no link below k is unvisited (`Scanning`).
-- The measure falls where link k is passed and where a walk marks links: the links left and the unvisited ones together.
use Prim.Native.Nat.{◌+◌, ◌-◌}
use Rattle.rings.specs.Field.{Field}
use Rattle.next.specs.Next.{unvisited}
use Rattle.sweep.proofs.Scans.{Scanning}
use Rattle.sweep.proofs.scan_links.Given as goal

abbrev pub invariant-loop-k : goal.invariant-loop-k
invariant-loop-k l =
    Scanning (λ g. Field g l.ax l.ay l.bx l.by l.top l.nxt l.prv l.lead l.initial.state) l.settings.clockwise l.settings.minimum l.n l.initial.state
    l.initial.points l.initial.first l.initial.len l.initial.kind
    l.k l.held l.c l.state l.points l.first l.len l.kind

abbrev pub decreases-loop-k : goal.decreases-loop-k
decreases-loop-k l =
    l.n - l.k + unvisited l.state
