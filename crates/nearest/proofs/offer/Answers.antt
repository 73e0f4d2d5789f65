-- `offer`: the anchors that the edge spans stand together, as `Offering` says.
use native.Mathlib.Omega.{arith}
use mathlib.Core.Path.{sym}
use lib.ListN.{get_or}
use Rattle.anchor.specs.Anchors.{Anchors, blank, anchors_of, anchor_at}
use Rattle.candidates.specs.EdgeLists.{EdgeLists, lists_of}
use Rattle.nearest.proofs.Offers.{Held, held, kept_at, offer_back, offer_start, offer_past, offer_more, offer_end}
use Rattle.nearest.proofs.Parts.{x_at}
use Rattle.nearest.proofs.offer.Goals as goal

pub returns-then-end-start : goal.returns-then-end-start
returns-then-end-start c =
    let g : EdgeLists = lists_of c.args.listed in
    let h : Anchors = anchors_of c.args.anchors.now in
    let held_at : Held g c.args.k c.listed_edge-e.result = let e = c.listed_edge-e.ensures in held _ _ _ e.0 e.1 e.2 in
    let s = c in
    offer_back g h _ _ _ held_at c.if-end-start.true s.args.best.now

pub loop-j-init : goal.loop-j-init
loop-j-init c =
    let g : EdgeLists = lists_of c.args.listed in
    let h : Anchors = anchors_of c.args.anchors.now in
    let held_at : Held g c.args.k c.listed_edge-e.result = let e = c.listed_edge-e.ensures in held _ _ _ e.0 e.1 e.2 in
    let s = c in
    offer_start g h _ _ _ _ s.requires.sorted_anchors held_at c.first_from-j.ensures _

pub returns-then-end-anchors : goal.returns-then-end-anchors
returns-then-end-anchors c =
    let g : EdgeLists = lists_of c.args.listed in
    let h : Anchors = anchors_of c.args.anchors.now in
    let held_at : Held g c.args.k c.listed_edge-e.result = let e = c.listed_edge-e.ensures in held _ _ _ e.0 e.1 e.2 in
    let s = c in
    offer_past g h _ _ _ _ s.requires.sorted_anchors held_at
    c.first_from-j.ensures _ _ _ c.loop-j.invariant (rw (x_at s.args.anchors.now c.loop-j.j) c.if-end-anchors.true)
    c.loop-j-test.true

pub kept-requires-clause-fact : goal.kept-requires-clause-fact
kept-requires-clause-fact c =
    let s = c in
    let l = c.loop-j in let t = c.loop-j-test.true in
    let p = s.requires.sorted_anchors.on_grid in let e = c.listed_edge-e in (
      s.requires.fit.2,
      rw (l.invariant.rest l.j (omega arith)) (s.requires.m_in_bounds.2 l.j t),
      e.ensures.0,
      rw (← anchor_at s.args.anchors.now l.j) (p.at l.j t, p.to l.j t, e.ensures.1, e.ensures.2),
    )

pub loop-j-preserved : goal.loop-j-preserved
loop-j-preserved c =
    let g : EdgeLists = lists_of c.args.listed in
    let h : Anchors = anchors_of c.args.anchors.now in
    let held_at : Held g c.args.k c.listed_edge-e.result = let e = c.listed_edge-e.ensures in held _ _ _ e.0 e.1 e.2 in
    let s = c in
    let l = c.loop-j in
    offer_more g h _ _ _ _ s.requires.sorted_anchors
    held_at
    c.first_from-j.ensures _ _ _ l.invariant c.kept.result
    c.loop-j-test.true s.requires.m_in_bounds.1 (rw (x_at s.args.anchors.now l.j) c.if-end-anchors.false)
    (kept_at g h _ l.j (get_or s.args.anchors.now l.j blank) _ (get_or l.best l.j 0) (sym (anchor_at s.args.anchors.now l.j)) c.kept.ensures)

pub returns : goal.returns
returns c =
    let g : EdgeLists = lists_of c.args.listed in
    let h : Anchors = anchors_of c.args.anchors.now in
    let held_at : Held g c.args.k c.listed_edge-e.result = let e = c.listed_edge-e.ensures in held _ _ _ e.0 e.1 e.2 in
    let s = c in
    offer_end g h _ _ _ _ s.requires.sorted_anchors held_at
    c.first_from-j.ensures _ _ _ c.loop-j.invariant c.loop-j-test.false
