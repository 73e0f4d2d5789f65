-- `lay::lay_nodes` meets its contract: the `Bridge`s, and then the `Cross`es where there are any.
use Prim.Native.Nat.{ℕ}
use native.Mathlib.Omega.{arith}
use mathlib.Core.Path.{◌≡◌}
use mathlib.Core.List.{List}
use lib.ListN.{length}
use Rattle.graph.specs.Graph.{Lent, lent}
use Rattle.lay.proofs.Passes.{nodes_wrong, nodes_bridges, nodes_crosses}
use Rattle.lay.proofs.lay_nodes.Goals as goal

pub lay_bridges-requires : goal.lay_bridges-requires
lay_bridges-requires c =
    let p = c.requires in
    let n = p.aid_len_bound in record {
      points = p.points;
      grids = p.grids;
      state_len = p.state_len;
      runs = (p.runs.0, p.runs.1);
      aid_len_bound = (n.0, n.1, n.3);
      by_index = p.by_index;
    }

pub lay_crosses-requires : goal.lay_crosses-requires
lay_crosses-requires c =
    let nxt-left : List ℕ = c.lay_bridges.new.nxt in
    let nxt_same : length nxt-left ≡ length c.args.nxt.now = c.lay_bridges.auto.nxt in
    let d = c in
    let p = c.requires in
    let n = p.aid_len_bound in record {
      points = p.points;
      grids = p.grids;
      state_len = p.state_len;
      runs = (p.runs.0, p.runs.1);
      aid_len_bound = (n.0, omega (arith, n.1, nxt_same), n.2, n.4);
    }

pub returns-in-Wrong : goal.returns-in-Wrong
returns-in-Wrong c =
    let lists : Lent = let x = c.args in lent x.ax.now x.ay.now x.bx.now x.by.now x.aid.now x.bid.now x.start.now x.list.now in
    let nxt-left : List ℕ = c.lay_bridges.new.nxt in
    let lead-left : List ℕ = c.lay_bridges.new.lead in
    let d = c in
    let s = c in
    let w = nodes_wrong lists s.args.state.now _ s.args.most nxt-left s.args.prv.now lead-left d.lay_bridges.result c.in-Wrong.is
    d.lay_bridges.ensures in
    record { point = w.0; laid = w.1 }

pub returns-in-Bridges : goal.returns-in-Bridges
returns-in-Bridges c =
    let lists : Lent = let x = c.args in lent x.ax.now x.ay.now x.bx.now x.by.now x.aid.now x.bid.now x.start.now x.list.now in
    let nxt-left : List ℕ = c.lay_bridges.new.nxt in
    let lead-left : List ℕ = c.lay_bridges.new.lead in
    let d = c in
    let s = c in
    let w = nodes_bridges lists s.args.state.now _ s.args.most nxt-left s.args.prv.now lead-left d.lay_bridges.result c.in-Bridges.is
    d.lay_bridges.ensures in
    record { point = w.0; laid = w.1 }

pub returns-in-Crosses : goal.returns-in-Crosses
returns-in-Crosses c =
    let lists : Lent = let x = c.args in lent x.ax.now x.ay.now x.bx.now x.by.now x.aid.now x.bid.now x.start.now x.list.now in
    let nxt-left : List ℕ = c.lay_bridges.new.nxt in
    let lead-left : List ℕ = c.lay_bridges.new.lead in
    let e = c in
    let d = c in
    let k = c.lay_crosses in
    let s = c in
    let w = nodes_crosses lists s.args.state.now _ s.args.most nxt-left k.new.nxt k.new.prv
    lead-left d.lay_bridges.result e.in-Crosses.is d.lay_bridges.ensures k.result k.ensures.crosses_laid k.ensures.bridges_kept in
    record { point = w.0; laid = w.1 }
