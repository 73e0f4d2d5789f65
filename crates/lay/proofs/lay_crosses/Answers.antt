-- `lay::lay_crosses` meets its contract; the invariant: nothing is wrong with the `Cross`es below v, and they are laid.
use native.Mathlib.Omega.{arith}
use Prim.Native.Nat.{◌+◌}
use mathlib.Core.Path.{◌≡◌, sym, ◌∙◌}
use lib.ListN.{get_or}
use Rattle.graph.specs.Graph.{Lent, lent}
use Rattle.graph.specs.Total.{starts_within}
use Rattle.lay.proofs.Nodes.{any_entry, end_read, cross_outcome}
use Rattle.lay.proofs.Passes.{crossing_other, crossing_same, crossing_more, crossing_all, found_wrong}
use Rattle.lay.proofs.lay_crosses.Goals as goal
use Rattle.lay.proofs.lay_crosses.Goals.{then-to-from+else-from-most+else-lay_cross, else-to-from}

pub returns-then-from-most-clause-crosses_laid : goal.returns-then-from-most-clause-crosses_laid
returns-then-from-most-clause-crosses_laid c =
    let end : c.wide-to.result ≡ get_or c.args.start.now (c.loop-v.v + 1) 0 = end_read c.args.start.now c.loop-v.v _ (omega arith) c.wide-to.ensures in
    omega (arith, starts_within c.requires.runs.1 (c.loop-v.v + 1) (omega arith))

pub lay_cross-requires-clause-here_nonzero : goal.lay_cross-requires-clause-here_nonzero
lay_cross-requires-clause-here_nonzero c = any_entry c.requires.runs.1 c.loop-v.v (omega arith) _ c.entries-here.ensures

pub returns-then-lay_cross-clause-crosses_laid : goal.returns-then-lay_cross-clause-crosses_laid
returns-then-lay_cross-clause-crosses_laid c =
    let x = c.args in
    let l = c.loop-v in
    let h = c.lay_cross in
    let lists : Lent = lent x.ax.now x.ay.now x.bx.now x.by.now x.aid.now x.bid.now x.start.now x.list.now in
    let end : c.wide-to.result ≡ get_or x.start.now (l.v + 1) 0 = end_read c.args.start.now c.loop-v.v _ (omega arith) c.wide-to.ensures in
    let o = cross_outcome x.ax.now x.ay.now x.bx.now x.by.now x.aid.now x.bid.now x.state.now x.start.now x.list.now
    l.v h.result h.new.nxt c.requires.runs.1 (omega arith) l.from c.wide-to.result l.invariant.place end
    h.new.prv c.if-to-from.true _ c.entries-here.ensures h.ensures.point h.ensures.laid_cross in
    found_wrong lists x.state.now _ l.v (omega arith) h.result o.0 c.if-lay_cross.true

pub returns-then-lay_cross-clause-bridges_kept : goal.returns-then-lay_cross-clause-bridges_kept
returns-then-lay_cross-clause-bridges_kept c =
    let x = c.args in
    let lists : Lent = lent x.ax.now x.ay.now x.bx.now x.by.now x.aid.now x.bid.now x.start.now x.list.now in
    let end : c.wide-to.result ≡ get_or x.start.now (c.loop-v.v + 1) 0 = end_read c.args.start.now c.loop-v.v _ (omega arith) c.wide-to.ensures in
    crossing_same lists x.state.now c.requires.runs.1 c.loop-v.invariant c.wide-to.result (omega arith) end c.lay_cross.new.nxt c.if-to-from.true
    c.lay_cross.ensures.else_kept.0

pub loop-v-preserved : goal.loop-v-preserved
loop-v-preserved c =
    let x = c.args in
    let l = c.loop-v in
    let lists : Lent = lent x.ax.now x.ay.now x.bx.now x.by.now x.aid.now x.bid.now x.start.now x.list.now in
    let end : c.wide-to.result ≡ get_or x.start.now (l.v + 1) 0 = end_read c.args.start.now c.loop-v.v _ (omega arith) c.wide-to.ensures in
    elim c.if-to-from.branch [
      | then-to-from+else-from-most+else-lay_cross w ↦
          let h = w.lay_cross in
          let o = cross_outcome x.ax.now x.ay.now x.bx.now x.by.now x.aid.now x.bid.now x.state.now x.start.now x.list.now
          l.v h.result h.new.nxt c.requires.runs.1 (omega arith) l.from c.wide-to.result l.invariant.place end
          h.new.prv w.if-to-from.true _ w.entries-here.ensures h.ensures.point h.ensures.laid_cross in
          rw (w.nxt-is, w.prv-is, w.from-is)
          (crossing_more lists x.state.now c.requires.runs.1 l.invariant c.wide-to.result (omega arith) end w.if-to-from.true
          (sym o.0 ∙ w.if-lay_cross.false) (o.1 w.if-lay_cross.false) h.ensures.else_kept.0 h.ensures.else_kept.1)
      | else-to-from w ↦
          rw (w.nxt-is, w.prv-is, w.from-is)
          (crossing_other lists x.state.now c.requires.runs.1 l.invariant c.wide-to.result (omega arith) end w.if-to-from.false)
    ]

pub returns-clause-crosses_laid : goal.returns-clause-crosses_laid
returns-clause-crosses_laid c =
    let x = c.args in
    let lists : Lent = lent x.ax.now x.ay.now x.bx.now x.by.now x.aid.now x.bid.now x.start.now x.list.now in
    crossing_all lists x.state.now _ (omega arith) c.loop-v.invariant x.most
