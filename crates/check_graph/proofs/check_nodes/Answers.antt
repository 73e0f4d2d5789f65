-- `check_graph::check_nodes` meets its contract: the starts and the list's length, then the one pass over the nodes, then the checks in order.
use Prim.Native.Nat.{◌*◌}
use native.Mathlib.Omega.{arith}
use mathlib.Core.Path.{◌≡◌, sym, ◌∙◌, subst}
use mathlib.Core.Bool.{Bool, false, not}
use lib.Dec.{eqb}
use lib.ListN.{length}
use Rattle.laws.specs.Test.{or_false}
use Rattle.laws.specs.Fails.{ne_fails}
use Rattle.graph.specs.Graph.{Lent, lent}
use Rattle.graph.specs.Checks.{bad_starts, nodes_checked}
use Rattle.graph.specs.Told.{LinksTold}
use Rattle.graph.specs.Total.{other_total}
use Rattle.check_graph.specs.Looks.{Looks, looks_as}
use Rattle.check_graph.proofs.Verdicts.{not_right, not_done, stands_for, runs_of, rises, fault_refused, nothing_fine, wide_more}
use Rattle.check_graph.proofs.check_nodes.Goals as goal

pub wrong_starts-requires : goal.wrong_starts-requires
wrong_starts-requires c =
    let g : Lent = lent c.args.ax.now c.args.ay.now c.args.bx.now c.args.by.now c.args.aid.now c.args.bid.now c.args.start.now
    c.args.list.now in
    let told : LinksTold g c.args.state.now = c.requires.fact in
    told.starts

pub overflow_mul-aid : goal.overflow_mul-aid
overflow_mul-aid c =
    let g : Lent = lent c.args.ax.now c.args.ay.now c.args.bx.now c.args.by.now c.args.aid.now c.args.bid.now c.args.start.now
    c.args.list.now in
    let told : LinksTold g c.args.state.now = c.requires.fact in
    omega (arith, told.few)

pub returns-then-wrong_starts-list : goal.returns-then-wrong_starts-list
unfolding nodes_checked
returns-then-wrong_starts-list c =
    let g : Lent = lent c.args.ax.now c.args.ay.now c.args.bx.now c.args.by.now c.args.aid.now c.args.bid.now c.args.start.now
    c.args.list.now in
    let told : LinksTold g c.args.state.now = c.requires.fact in
    let odd : Bool = let x = c.args in not (eqb (length x.list.now) (2 * length x.aid.now)) in
    let asked : odd ≡ false → let x = c.args in c.wrong_starts.result ≡ bad_starts x.start.now x.list.now = λ e. let x = c.args in
    c.wrong_starts.ensures (omega (arith, (ne_fails (length x.list.now) (2 * length x.aid.now)).to e, told.few)) in
    let d = c in
    let s = c in
    let x = s.args in record {
      fact_2 = simp (other_total x.aid.now x.bid.now x.start.now x.list.now told.starts told.ids
          (stands_for d.wrong_starts.result (bad_starts x.start.now x.list.now) odd asked c.if-wrong_starts-list.true));
      all_laid = λ e. absurd (not_right _ e);
    }

pub lay_nodes-requires : goal.lay_nodes-requires
lay_nodes-requires c =
    let g : Lent = lent c.args.ax.now c.args.ay.now c.args.bx.now c.args.by.now c.args.aid.now c.args.bid.now c.args.start.now
    c.args.list.now in
    let told : LinksTold g c.args.state.now = c.requires.fact in
    let odd : Bool = let x = c.args in not (eqb (length x.list.now) (2 * length x.aid.now)) in
    let asked : odd ≡ false → let x = c.args in c.wrong_starts.result ≡ bad_starts x.start.now x.list.now = λ e. let x = c.args in
    c.wrong_starts.ensures (omega (arith, (ne_fails (length x.list.now) (2 * length x.aid.now)).to e, told.few)) in
    let right : let x = c.args in (bad_starts x.start.now x.list.now ≡ false) × (length x.list.now ≡ 2 * length x.aid.now) = let d = c in
    let h = or_false d.wrong_starts.result odd c.if-wrong_starts-list.false in
    (sym (asked h.1) ∙ h.0, (ne_fails _ _).to h.1) in
    let k = c in
    let s = c in
    let t = told in
    let w = s.requires.spacious.0 in record {
      points = t.points;
      grids = t.grids;
      state_len = t.states;
      runs = (runs_of g _ t, rises g _ t right.0);
      aid_len_bound = (t.few, w.nxt_room, w.prv_room, w.lead_room, s.requires.spacious.2);
      by_index = s.requires.spacious.1;
    }

pub check_in_order-requires : goal.check_in_order-requires
check_in_order-requires c =
    let g : Lent = lent c.args.ax.now c.args.ay.now c.args.bx.now c.args.by.now c.args.aid.now c.args.bid.now c.args.start.now
    c.args.list.now in
    let told : LinksTold g c.args.state.now = c.requires.fact in
    let t = told in record {
      points = t.points;
      grids = t.grids;
      state_len = t.states;
      ids = t.ids;
      in_bounds = t.starts;
    }

pub returns-in-Nothing : goal.returns-in-Nothing
returns-in-Nothing c =
    let g : Lent = lent c.args.ax.now c.args.ay.now c.args.bx.now c.args.by.now c.args.aid.now c.args.bid.now c.args.start.now
    c.args.list.now in
    let told : LinksTold g c.args.state.now = c.requires.fact in
    let odd : Bool = let x = c.args in not (eqb (length x.list.now) (2 * length x.aid.now)) in
    let asked : odd ≡ false → let x = c.args in c.wrong_starts.result ≡ bad_starts x.start.now x.list.now = λ e. let x = c.args in
    c.wrong_starts.ensures (omega (arith, (ne_fails (length x.list.now) (2 * length x.aid.now)).to e, told.few)) in
    let right : let x = c.args in (bad_starts x.start.now x.list.now ≡ false) × (length x.list.now ≡ 2 * length x.aid.now) = let d = c in
    let h = or_false d.wrong_starts.result odd c.if-wrong_starts-list.false in
    (sym (asked h.1) ∙ h.0, (ne_fails _ _).to h.1) in
    let o = c in
    let s = c in
    let h = right in record {
      fact_2 = nothing_fine g _ told s.args.most o.lay_nodes.result o.lay_nodes.ensures.point c.in-Nothing.is h.0 h.1;
      all_laid = λ _. o.lay_nodes.ensures.laid c.in-Nothing.is;
    }

pub returns-in-Wide : goal.returns-in-Wide
returns-in-Wide c =
    let g : Lent = lent c.args.ax.now c.args.ay.now c.args.bx.now c.args.by.now c.args.aid.now c.args.bid.now c.args.start.now
    c.args.list.now in
    let told : LinksTold g c.args.state.now = c.requires.fact in
    let odd : Bool = let x = c.args in not (eqb (length x.list.now) (2 * length x.aid.now)) in
    let asked : odd ≡ false → let x = c.args in c.wrong_starts.result ≡ bad_starts x.start.now x.list.now = λ e. let x = c.args in
    c.wrong_starts.ensures (omega (arith, (ne_fails (length x.list.now) (2 * length x.aid.now)).to e, told.few)) in
    let right : let x = c.args in (bad_starts x.start.now x.list.now ≡ false) × (length x.list.now ≡ 2 * length x.aid.now) = let d = c in
    let h = or_false d.wrong_starts.result odd c.if-wrong_starts-list.false in
    (sym (asked h.1) ∙ h.0, (ne_fails _ _).to h.1) in
    let o = c in
    let s = c in
    let h = right in record {
      fact_2 = (
        wide_more g _ told s.args.most o.lay_nodes.result o.lay_nodes.ensures.point c.in-Wide.is,
        record { links = told; rising = rises g _ told h.0; total = h.1 },
      );
      all_laid = λ e. absurd (not_done e);
    }

pub returns-in_ok-check_in_order-in-Fault-clause-all_laid : goal.returns-in_ok-check_in_order-in-Fault-clause-all_laid
returns-in_ok-check_in_order-in-Fault-clause-all_laid c =
    let g : Lent = lent c.args.ax.now c.args.ay.now c.args.bx.now c.args.by.now c.args.aid.now c.args.bid.now c.args.start.now
    c.args.list.now in
    λ e. absurd (fault_refused g _ c.requires.fact c.args.most c.lay_nodes.result c.lay_nodes.ensures.point c.in-Fault.is
    (sym c.check_in_order.ensures ∙ c.in_ok-check_in_order-in-Fault.was))
