-- `search_owners`: the holes gathered, the contours under them, their order, and the owners, each from the one before.
use native.Mathlib.Omega.{arith}
use mathlib.Core.Path.{◌∙◌}
use Prim.Native.Nat.{ℕ, ◌≤◌}
use lib.ListN.{length}
use mathlib.Core.List.{List}
use Rattle.table.specs.Table.{Table, table_of, max_contours}
use Rattle.table.specs.Passing.{contours_few}
use Rattle.anchor.specs.declared.Anchor.{Anchor}
use Rattle.anchor.specs.Anchors.{Anchors, AnchorRoom, anchors_of, anchors_room}
use Rattle.owners.proofs.Searched.{few_holes, bounded, sorted_anchors, listed, gave}
use Rattle.owners.proofs.search_owners.Goals as goal

pub contours_under-requires : goal.contours_under-requires
contours_under-requires c =
    let t : Table = table_of c.args.contours in
    let who : List ℕ = c.gather_holes-m.new.who in
    let list : List Anchor = c.gather_holes-m.new.anchors in
    let h : Anchors = anchors_of list in
    let room : AnchorRoom h max_contours = anchors_room list max_contours (omega (arith, c.gather_holes-m.auto.anchors)) in
    let s = c in let g = c.gather_holes-m in
    let few = few_holes t s.requires.0 s.args.clockwise s.requires.1 g.result who h g.ensures.found in record {
      sound = s.requires.0;
      first_in_bounds = (omega (arith, contours_few t s.requires.0), few, few);
      sorted_anchors = sorted_anchors t s.requires.0 s.args.clockwise s.requires.1 g.result who h g.ensures.found room;
    }

pub order_holes-requires : goal.order_holes-requires
order_holes-requires c =
    let t : Table = table_of c.args.contours in
    let who : List ℕ = c.gather_holes-m.new.who in
    let list : List Anchor = c.gather_holes-m.new.anchors in
    let h : Anchors = anchors_of list in
    let room : AnchorRoom h max_contours = anchors_room list max_contours (omega (arith, c.gather_holes-m.auto.anchors)) in
    let who_room : max_contours ≤ length who = omega (arith, c.gather_holes-m.auto.who) in
    let s = c in let g = c.gather_holes-m in
    let few = few_holes t s.requires.0 s.args.clockwise s.requires.1 g.result who h g.ensures.found in
    (bounded t s.requires.0 s.args.clockwise s.requires.1 g.result who h g.ensures.found room who_room, few, few)

pub give_owners-requires : goal.give_owners-requires
give_owners-requires c =
    let t : Table = table_of c.args.contours in
    let who : List ℕ = c.gather_holes-m.new.who in
    let list : List Anchor = c.gather_holes-m.new.anchors in
    let h : Anchors = anchors_of list in
    let who_room : max_contours ≤ length who = omega (arith, c.gather_holes-m.auto.who) in
    let s = c in let g = c.gather_holes-m in
    let u = c.contours_under in let o = c.order_holes in
    listed t s.requires.0 s.args.clockwise s.requires.1 g.result who h g.ensures.found
    u.new.under o.new.ord s.args.own.now u.ensures.0 o.ensures.done
    (omega (arith, o.auto.ord)) who_room (omega (arith, u.auto.under)) s.requires.2

pub returns : goal.returns
returns c =
    let t : Table = table_of c.args.contours in
    let who : List ℕ = c.gather_holes-m.new.who in
    let list : List Anchor = c.gather_holes-m.new.anchors in
    let h : Anchors = anchors_of list in
    let s = c in let g = c.gather_holes-m in
    let u = c.contours_under in let o = c.order_holes in
    c.give_owners.ensures
    ∙ gave t s.requires.0 s.args.clockwise s.requires.1 g.result who h g.ensures.found
    u.new.under o.new.ord s.args.own.now u.ensures.0 o.ensures.done
    (omega (arith, o.auto.ord))
