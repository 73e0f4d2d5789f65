-- `check_graph::check_in_order` meets its contract: checks 5, 6 and 7 in turn.
use mathlib.Core.Path.{◌≡◌, sym, ◌∙◌}
use mathlib.Core.Bool.{false}
use Rattle.laws.specs.Test.{pick_false}
use Rattle.turn.specs.Refusals.{refuses_at, passes_at}
use Rattle.turn.specs.declared.Reason.TheVariants.{EndsApart, EndsAlike}
use Rattle.graph.specs.Checks.{bad_nodes, nodes_checked}
use Rattle.graph.specs.Told.{starts_known, entries_known}
use Rattle.check_graph.proofs.check_in_order.Goals as goal

pub returns-then-bad_nodes : goal.returns-then-bad_nodes
unfolding nodes_checked
returns-then-bad_nodes c = simp (sym c.bad_nodes.ensures ∙ c.if-bad_nodes.true)

pub apart_node-requires : goal.apart_node-requires
apart_node-requires c =
    let right : let x = c.args in bad_nodes x.aid.now x.bid.now x.start.now x.list.now ≡ false = sym c.bad_nodes.ensures ∙ c.if-bad_nodes.false in
    let x = c.args in record {
      points = c.requires.points;
      rising = starts_known x.aid.now x.bid.now x.start.now x.list.now right
          c.requires.in_bounds;
      entries = entries_known x.aid.now x.bid.now x.start.now
          x.list.now right;
    }

pub returns-in-Some : goal.returns-in-Some
unfolding nodes_checked
returns-in-Some c =
    let right : let x = c.args in bad_nodes x.aid.now x.bid.now x.start.now x.list.now ≡ false = sym c.bad_nodes.ensures ∙ c.if-bad_nodes.false in
    sym (pick_false _ _ right ∙ refuses_at EndsApart _ _ _ _ (sym c.apart_node.ensures ∙ c.in-Some.is))

pub alike_node-requires : goal.alike_node-requires
alike_node-requires c =
    let right : let x = c.args in bad_nodes x.aid.now x.bid.now x.start.now x.list.now ≡ false = sym c.bad_nodes.ensures ∙ c.if-bad_nodes.false in
    let x = c.args in
    let p = c.requires in record {
      points = p.points;
      grids = p.grids;
      state_len = p.state_len;
      rising = starts_known x.aid.now x.bid.now x.start.now x.list.now right p.in_bounds;
      entries = entries_known x.aid.now x.bid.now x.start.now x.list.now right;
    }

pub returns-in-Some-alike_node : goal.returns-in-Some-alike_node
unfolding nodes_checked
returns-in-Some-alike_node c =
    let right : let x = c.args in bad_nodes x.aid.now x.bid.now x.start.now x.list.now ≡ false = sym c.bad_nodes.ensures ∙ c.if-bad_nodes.false in
    let none_apart = sym c.apart_node.ensures ∙ c.in_default.is in
    let alike = sym c.alike_node.ensures ∙ c.in-Some-alike_node.is in
    sym (pick_false _ _ right ∙ passes_at EndsApart _ _ _ none_apart ∙ refuses_at EndsAlike _ _ _ _ alike)

pub returns : goal.returns
unfolding nodes_checked
returns c =
    let right : let x = c.args in bad_nodes x.aid.now x.bid.now x.start.now x.list.now ≡ false = sym c.bad_nodes.ensures ∙ c.if-bad_nodes.false in
    let none_apart = sym c.apart_node.ensures ∙ c.in_default.is in
    let none_alike = sym c.alike_node.ensures ∙ c.in_default-alike_node.is in
    sym (pick_false _ _ right ∙ passes_at EndsApart _ _ _ none_apart ∙ passes_at EndsAlike _ _ _ none_alike)
