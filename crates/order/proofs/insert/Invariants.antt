-- `insert`: the gap moves down until the hole fits, as `Shifted` says.
use Prim.Native.Nat.{ℕ}
use lib.ListN.{get_or}
use mathlib.Core.Bool.{Bool}
use mathlib.Core.List.{List}
use Rattle.anchor.specs.Anchors.{Anchors, anchors_of}
use Rattle.order.specs.HoleLists.{by_anchor}
use Rattle.order.proofs.Insertions.{Shifted}
use Rattle.order.proofs.insert.Given as goal

-- whether hole j goes before the one at place p
abbrev pub test : List ℕ → Anchors → List ℕ → ℕ → ℕ → Bool
test who h ord j p = by_anchor h who j (get_or ord p 0)

abbrev pub invariant-loop-p : goal.invariant-loop-p
invariant-loop-p l = Shifted (test l.who (anchors_of l.anchors) l.initial.ord l.j) l.initial.ord l.ord l.j l.p

abbrev pub decreases-loop-p : goal.decreases-loop-p
decreases-loop-p l = l.p
