-- `lay::lay_bridges` meets its contract; the invariant: nothing is wrong with the `Bridge`s below v, and they are laid.
use native.Mathlib.Omega.{arith}
use Prim.Native.Nat.{◌+◌}
use mathlib.Core.Path.{◌≡◌, sym, ◌∙◌}
use lib.ListN.{get_or}
use Rattle.graph.specs.Graph.{Lent, lent}
use Rattle.graph.specs.Total.{starts_within}
use Rattle.lay.proofs.Nodes.{end_read, bridge_outcome}
use Rattle.lay.proofs.Passes.{bridging_other, bridging_more, bridging_crosses, bridging_bridges, found_wrong}
use Rattle.lay.proofs.lay_bridges.Goals as goal
use Rattle.lay.proofs.lay_bridges.Goals.{then-to-from+else-lay_bridge, else-to-from}

pub bounds-list-from : goal.bounds-list-from
bounds-list-from c =
    let end : c.wide-to.result ≡ get_or c.args.start.now (c.loop-v.v + 1) 0 = end_read c.args.start.now c.loop-v.v _ (omega arith) c.wide-to.ensures in
    omega (arith, starts_within c.requires.runs.1 (c.loop-v.v + 1) (omega arith))

pub bounds-list-from-then-to-from : goal.bounds-list-from-then-to-from
bounds-list-from-then-to-from c =
    let end : c.wide-to.result ≡ get_or c.args.start.now (c.loop-v.v + 1) 0 = end_read c.args.start.now c.loop-v.v _ (omega arith) c.wide-to.ensures in
    omega (arith, starts_within c.requires.runs.1 (c.loop-v.v + 1) (omega arith))

pub returns-then-lay_bridge : goal.returns-then-lay_bridge
returns-then-lay_bridge c =
    let x = c.args in
    let l = c.loop-v in
    let h = c.lay_bridge in
    let lists : Lent = lent x.ax.now x.ay.now x.bx.now x.by.now x.aid.now x.bid.now x.start.now x.list.now in
    let end : c.wide-to.result ≡ get_or x.start.now (l.v + 1) 0 = end_read c.args.start.now c.loop-v.v _ (omega arith) c.wide-to.ensures in
    let o = bridge_outcome x.ax.now x.ay.now x.bx.now x.by.now x.aid.now x.bid.now x.state.now x.start.now x.list.now
    l.v h.result h.new.nxt c.requires.runs.1 (omega arith) l.from c.wide-to.result l.invariant.place end
    h.new.lead c.if-to-from.true c.wide-e.result c.wide-f.result c.wide-e.ensures c.wide-f.ensures h.ensures.point h.ensures.laid_bridge in
    found_wrong lists x.state.now _ l.v (omega arith) h.result o.0 c.if-lay_bridge.true

pub loop-v-preserved : goal.loop-v-preserved
loop-v-preserved c =
    let x = c.args in
    let l = c.loop-v in
    let lists : Lent = lent x.ax.now x.ay.now x.bx.now x.by.now x.aid.now x.bid.now x.start.now x.list.now in
    let end : c.wide-to.result ≡ get_or x.start.now (l.v + 1) 0 = end_read c.args.start.now c.loop-v.v _ (omega arith) c.wide-to.ensures in
    elim c.if-to-from.branch [
      | then-to-from+else-lay_bridge w ↦
          let h = w.lay_bridge in
          let o = bridge_outcome x.ax.now x.ay.now x.bx.now x.by.now x.aid.now x.bid.now x.state.now x.start.now x.list.now
          l.v h.result h.new.nxt c.requires.runs.1 (omega arith) l.from c.wide-to.result l.invariant.place end
          h.new.lead w.if-to-from.true w.wide-e.result w.wide-f.result w.wide-e.ensures w.wide-f.ensures h.ensures.point h.ensures.laid_bridge in
          rw (w.nxt-is, w.lead-is, w.crosses-is, w.from-is)
          (bridging_more lists x.state.now c.requires.runs.1 l.invariant c.wide-to.result (omega arith) end w.if-to-from.true
          (sym o.0 ∙ w.if-lay_bridge.false) (o.1 w.if-lay_bridge.false) h.ensures.else_kept.0 h.ensures.else_kept.1)
      | else-to-from w ↦
          rw (w.nxt-is, w.lead-is, w.crosses-is, w.from-is)
          (bridging_other lists x.state.now c.requires.runs.1 l.invariant c.wide-to.result (omega arith) end w.if-to-from.false)
    ]

pub returns-then-crosses : goal.returns-then-crosses
returns-then-crosses c =
    let x = c.args in
    let lists : Lent = lent x.ax.now x.ay.now x.bx.now x.by.now x.aid.now x.bid.now x.start.now x.list.now in
    bridging_crosses lists x.state.now _ (omega arith) c.loop-v.invariant

pub returns-else-crosses : goal.returns-else-crosses
returns-else-crosses c =
    let x = c.args in
    let lists : Lent = lent x.ax.now x.ay.now x.bx.now x.by.now x.aid.now x.bid.now x.start.now x.list.now in
    bridging_bridges lists x.state.now _ (omega arith) c.loop-v.invariant c.if-crosses.false
