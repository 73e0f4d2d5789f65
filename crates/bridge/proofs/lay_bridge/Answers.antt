-- `bridge::lay_bridge` meets its contract: by the sorts of the two ends at the node, a law of `Outcomes` for each way out.
use Prim.Native.Nat.{◌<◌}
use native.Mathlib.Omega.{arith}
use mathlib.Core.Path.{sym, ◌∙◌}
use lib.ListN.{length}
use Rattle.laws.specs.Fails.{or_fails, le_fails}
use Rattle.turn.specs.Limits.{max_links}
use Rattle.graph.specs.Known.{points_swapped, grids_swapped}
use Rattle.rings.specs.Ends.{b_end}
use Rattle.bridge.proofs.Outcomes.{outcome_no_link, outcome_no_end, outcome_b_a, outcome_a_b, outcome_a_a, outcome_b_b}
use Rattle.bridge.proofs.lay_bridge.Goals as goal

pub returns-then-aid-e : goal.returns-then-aid-e
returns-then-aid-e c =
    let s = c in
    let x = s.args in
    let o = outcome_no_link s.requires.runs x.state.now x.v x.e x.f x.nxt.now x.lead.now c.if-aid-e.true in record {
      point = o.0;
      laid_bridge = o.1;
      else_kept = (o.2.0, o.2.1);
    }

pub offset_bounds-aid-f : goal.offset_bounds-aid-f
offset_bounds-aid-f c =
    let links : let x = c.args in (x.e < length x.aid.now) × (x.f < length x.aid.now) = (or_fails (le_fails _ _) (le_fails _ _)).to c.if-aid-e.false in
    omega (arith, links.1)

pub bounds-aid-f : goal.bounds-aid-f
bounds-aid-f c =
    let links : let x = c.args in (x.e < length x.aid.now) × (x.f < length x.aid.now) = (or_fails (le_fails _ _) (le_fails _ _)).to c.if-aid-e.false in
    omega (arith, links.1)

pub offset_bounds-bid-e : goal.offset_bounds-bid-e
offset_bounds-bid-e c =
    let links : let x = c.args in (x.e < length x.aid.now) × (x.f < length x.aid.now) = (or_fails (le_fails _ _) (le_fails _ _)).to c.if-aid-e.false in
    let d = c in omega (arith, links.0, c.requires.runs.same)

pub bounds-bid-e : goal.bounds-bid-e
bounds-bid-e c =
    let links : let x = c.args in (x.e < length x.aid.now) × (x.f < length x.aid.now) = (or_fails (le_fails _ _) (le_fails _ _)).to c.if-aid-e.false in
    let d = c in omega (arith, links.0, c.requires.runs.same)

pub lay_unlike-requires : goal.lay_unlike-requires
lay_unlike-requires c =
    let links : let x = c.args in (x.e < length x.aid.now) × (x.f < length x.aid.now) = (or_fails (le_fails _ _) (le_fails _ _)).to c.if-aid-e.false in
    let e_room : let x = c.args in (x.e < max_links) × (b_end x.e < length x.nxt.now) = let n = c.requires.aid_len_bound in
    (omega (arith, links.0, n.0), omega (arith, links.0, n.1)) in
    let f_room : let x = c.args in (x.f < max_links) × (b_end x.f < length x.nxt.now) = let n = c.requires.aid_len_bound in
    (omega (arith, links.1, n.0), omega (arith, links.1, n.1)) in
    let d = c in
    let n = c.requires.points in record {
      f_in_bounds = (
        omega (arith, links.1, n.ax_long),
        omega (arith, links.1, n.ay_long),
        omega (arith, links.0, n.bx_long),
        omega (arith, links.0, n.by_long),
      );
      e_lt_max_links = (e_room.0, f_room.0, e_room.1, f_room.1);
    }

pub returns-then-wide-v-2 : goal.returns-then-wide-v-2
returns-then-wide-v-2 c =
    let links : let x = c.args in (x.e < length x.aid.now) × (x.f < length x.aid.now) = (or_fails (le_fails _ _) (le_fails _ _)).to c.if-aid-e.false in
    let u = c in
    let t = c in
    let d = c in
    let s = c in
    let x = s.args in
    let m = s.requires in
    let h = c.lay_unlike in
    let o = outcome_b_a m.runs x.state.now x.v x.e x.f x.nxt.now x.lead.now links.0 links.1 m.aid_len_bound.1 m.aid_len_bound.2
    h.result _ x.lead.now m.by_index (sym t.wide.ensures ∙ t.if-wide-v.true)
    (sym u.wide-then-wide-v.ensures ∙ u.if-wide-v-2.true) h.ensures.value h.ensures.nxt_after in record {
      point = o.0;
      laid_bridge = o.1;
      else_kept = (o.2.0, o.2.1);
    }

pub lay_two_a-requires : goal.lay_two_a-requires
lay_two_a-requires c =
    let links : let x = c.args in (x.e < length x.aid.now) × (x.f < length x.aid.now) = (or_fails (le_fails _ _) (le_fails _ _)).to c.if-aid-e.false in
    let d = c in
    let r = c.requires in record {
      points = r.points;
      grids = r.grids;
      state_len = r.state_len;
      e_in_bounds = links;
      aid_len_bound = r.aid_len_bound;
    }

pub returns-then-wide-v : goal.returns-then-wide-v
returns-then-wide-v c =
    let links : let x = c.args in (x.e < length x.aid.now) × (x.f < length x.aid.now) = (or_fails (le_fails _ _) (le_fails _ _)).to c.if-aid-e.false in
    let u = c in
    let t = c in
    let d = c in
    let s = c in
    let x = s.args in
    let m = s.requires in
    let h = c.lay_two_a in
    let o = outcome_a_a m.runs x.state.now x.v x.e x.f x.nxt.now x.lead.now links.0 links.1 m.aid_len_bound.1 m.aid_len_bound.2
    h.result _ _ (sym t.wide.ensures ∙ t.if-wide-v.true)
    (λ i. u.if-wide-v-2.false (u.wide-then-wide-v.ensures ∙ i)) h.ensures.0 h.ensures.1.0 h.ensures.1.1 in record {
      point = o.0;
      laid_bridge = o.1;
      else_kept = (o.2.0, o.2.1);
    }

pub offset_bounds-bid-f : goal.offset_bounds-bid-f
offset_bounds-bid-f c =
    let links : let x = c.args in (x.e < length x.aid.now) × (x.f < length x.aid.now) = (or_fails (le_fails _ _) (le_fails _ _)).to c.if-aid-e.false in
    let d = c in omega (arith, links.1, c.requires.runs.same)

pub bounds-bid-f : goal.bounds-bid-f
bounds-bid-f c =
    let links : let x = c.args in (x.e < length x.aid.now) × (x.f < length x.aid.now) = (or_fails (le_fails _ _) (le_fails _ _)).to c.if-aid-e.false in
    let d = c in omega (arith, links.1, c.requires.runs.same)

pub returns-then-wide-v-3 : goal.returns-then-wide-v-3
returns-then-wide-v-3 c =
    let t = c in
    let s = c in
    let x = s.args in
    let o = outcome_no_end s.requires.runs x.state.now x.v x.e x.f x.nxt.now x.lead.now
    (λ i. t.if-wide-v.false (t.wide.ensures ∙ i)) (λ i. c.if-wide-v-3.true (c.wide-2.ensures ∙ i)) in record {
      point = o.0;
      laid_bridge = o.1;
      else_kept = (o.2.0, o.2.1);
    }

pub offset_bounds-aid-e : goal.offset_bounds-aid-e
offset_bounds-aid-e c =
    let links : let x = c.args in (x.e < length x.aid.now) × (x.f < length x.aid.now) = (or_fails (le_fails _ _) (le_fails _ _)).to c.if-aid-e.false in
    omega (arith, links.0)

pub bounds-aid-e : goal.bounds-aid-e
bounds-aid-e c =
    let links : let x = c.args in (x.e < length x.aid.now) × (x.f < length x.aid.now) = (or_fails (le_fails _ _) (le_fails _ _)).to c.if-aid-e.false in
    omega (arith, links.0)

pub bounds-lead-e : goal.bounds-lead-e
bounds-lead-e c =
    let links : let x = c.args in (x.e < length x.aid.now) × (x.f < length x.aid.now) = (or_fails (le_fails _ _) (le_fails _ _)).to c.if-aid-e.false in
    let d = c in
    omega (arith, links.0, c.requires.aid_len_bound.2)

pub lay_unlike-requires-then-wide-v-4 : goal.lay_unlike-requires-then-wide-v-4
lay_unlike-requires-then-wide-v-4 c =
    let links : let x = c.args in (x.e < length x.aid.now) × (x.f < length x.aid.now) = (or_fails (le_fails _ _) (le_fails _ _)).to c.if-aid-e.false in
    let e_room : let x = c.args in (x.e < max_links) × (b_end x.e < length x.nxt.now) = let n = c.requires.aid_len_bound in
    (omega (arith, links.0, n.0), omega (arith, links.0, n.1)) in
    let f_room : let x = c.args in (x.f < max_links) × (b_end x.f < length x.nxt.now) = let n = c.requires.aid_len_bound in
    (omega (arith, links.1, n.0), omega (arith, links.1, n.1)) in
    let d = c in
    let n = c.requires.points in record {
      f_in_bounds = (
        omega (arith, links.0, n.ax_long),
        omega (arith, links.0, n.ay_long),
        omega (arith, links.1, n.bx_long),
        omega (arith, links.1, n.by_long),
      );
      e_lt_max_links = (f_room.0, e_room.0, f_room.1, e_room.1);
    }

pub returns-then-wide-v-4 : goal.returns-then-wide-v-4
returns-then-wide-v-4 c =
    let links : let x = c.args in (x.e < length x.aid.now) × (x.f < length x.aid.now) = (or_fails (le_fails _ _) (le_fails _ _)).to c.if-aid-e.false in
    let u = c in
    let w = c in
    let t = c in
    let d = c in
    let s = c in
    let x = s.args in
    let m = s.requires in
    let h = c.lay_unlike-then-wide-v-4 in
    let o = outcome_a_b m.runs x.state.now x.v x.e x.f x.nxt.now x.lead.now links.0 links.1 m.aid_len_bound.1 m.aid_len_bound.2
    h.result _ x.lead.now (λ i. t.if-wide-v.false (t.wide.ensures ∙ i)) (sym w.wide-2.ensures ∙ w.if-wide-v-3.false)
    (sym u.wide-3.ensures ∙ u.if-wide-v-4.true) h.ensures.value h.ensures.nxt_after in record {
      point = o.0;
      laid_bridge = o.1;
      else_kept = (o.2.0, o.2.1);
    }

pub lay_two_b-requires : goal.lay_two_b-requires
lay_two_b-requires c =
    let links : let x = c.args in (x.e < length x.aid.now) × (x.f < length x.aid.now) = (or_fails (le_fails _ _) (le_fails _ _)).to c.if-aid-e.false in
    let d = c in
    let r = c.requires in
    let n = r.runs.same in record {
      points = rw n (points_swapped r.points);
      grids = rw n (grids_swapped r.grids);
      state_len = rw n r.state_len;
      e_in_bounds = (rw n links.0, rw n links.1);
      bid_len_bound = (rw n r.aid_len_bound.0, rw n r.aid_len_bound.1);
    }

pub returns : goal.returns
returns c =
    let links : let x = c.args in (x.e < length x.aid.now) × (x.f < length x.aid.now) = (or_fails (le_fails _ _) (le_fails _ _)).to c.if-aid-e.false in
    let u = c in
    let w = c in
    let t = c in
    let d = c in
    let s = c in
    let x = s.args in
    let m = s.requires in
    let h = c.lay_two_b in
    let o = outcome_b_b m.runs x.state.now x.v x.e x.f x.nxt.now x.lead.now links.0 links.1 m.aid_len_bound.1 m.aid_len_bound.2
    h.result _ x.lead.now (λ i. t.if-wide-v.false (t.wide.ensures ∙ i)) (sym w.wide-2.ensures ∙ w.if-wide-v-3.false)
    (λ i. u.if-wide-v-4.false (u.wide-3.ensures ∙ i)) h.ensures.0 h.ensures.1 in record {
      point = o.0;
      laid_bridge = o.1;
      else_kept = (o.2.0, o.2.1);
    }
