-- `give_owners`: from every hole on, the definition gives what it gives from the start.
use mathlib.Core.Path.{◌≡◌}
use lib.ListN.{drop, take}
use Rattle.owners.specs.Giving.{give_listed}
use Rattle.owners.proofs.give_owners.Given as goal

abbrev pub invariant-loop-j : goal.invariant-loop-j
invariant-loop-j l =
    give_listed l.who l.under (drop l.j-index (take l.m l.ord)) l.own ≡ give_listed l.who l.under (take l.m l.ord) l.initial.own
