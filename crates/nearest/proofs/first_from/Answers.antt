-- `first_from`: by the last number, or the search.
use native.Mathlib.Omega.{arith}
use Prim.Native.Nat.{◌-◌}
use mathlib.Core.Path.{sym, ◌∙◌}
use lib.ListN.{get_or, take}
use mir.Syntax.{w32}
use mir.Val.{to_z, of_z}
use mir.ValLaws.{to_z-of_z}
use lib.Signed.{lt_z}
use Rattle.std.proofs.Common.{rules}
use Rattle.std.proofs.lemmas.List.Sorted.{IsPartitionPoint-from_clause}
use Rattle.anchor.specs.declared.Anchor.{Anchor}
use Rattle.anchor.specs.Anchors.{blank, anchors_of}
use Rattle.nearest.proofs.Parts.{x_at, none_below, last_below, seen_lt, sorted_parted, point_parted}
use Rattle.nearest.proofs.first_from.Goals.{then-m-eq0, else-m-eq0}
use Rattle.nearest.proofs.first_from.Goals as goal

pub returns-then-anchors-m : goal.returns-then-anchors-m
returns-then-anchors-m c =
    let a = c.args in
    elim c.if-m-eq0.branch [
      | then-m-eq0 w ↦ none_below _ _ _ w.if-m-eq0.true
      | else-m-eq0 w ↦
          let x = (get_or a.anchors.now (a.m - 1) blank).at.x in
          let t = seen_lt x _ (omega arith) (rw (to_z-of_z w32 _ c.ranges.x) at (sym w.value-is ∙ c.if-anchors-m.true)) in
          last_below (anchors_of a.anchors.now).x a.m a.x c.requires.1 w.if-m-eq0.false (rw (x_at a.anchors.now (a.m - 1)) t)
    ]

pub returns-else-anchors-m : goal.returns-else-anchors-m
returns-else-anchors-m c =
    let a = c.args in
    let x = to_z w32 (of_z w32 a.x) in
    let at = IsPartitionPoint-from_clause (λ (y : Anchor). lt_z y.at.x x) (take a.m a.anchors.now) _ c.partition_point.ensures.partitioned
    (sorted_parted a.anchors.now a.m x c.requires.0 c.requires.1) (λ y r f k. search rules) in
    rw (to_z-of_z w32 _ c.ranges.x) at (point_parted a.anchors.now a.m x c.requires.0 _ c.partition_point.ensures.bound at)
