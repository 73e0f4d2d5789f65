-- `check_links::check_each` meets its contract: where the quick question finds something, check 3
-- names its lowest link, or else check 4 does; where neither does, nothing is wrong.
use mathlib.Core.Path.{◌≡◌, sym, ap₂, ◌∙◌}
use mathlib.Core.Bool.{◌||◌}
use Rattle.graph.specs.Graph.{lent}
use Rattle.graph.specs.Checks.{each_checked}
use Rattle.quick_links.specs.Quick.{any_wrong, fine}
use Rattle.check_links.proofs.check_each.Goals as goal
use Rattle.turn.specs.Refusals.{refuses_at, passes_at}
use Rattle.turn.specs.declared.Reason.TheVariants.{WrongLink, LinksOutOfOrder}

pub any_misplaced-requires : goal.any_misplaced-requires
any_misplaced-requires c =
    let e = c.requires.even in
    (e.ay ∙ sym e.ax, e.bx ∙ sym e.ax, e.by ∙ sym e.ax)

pub overflow_sub-start : goal.overflow_sub-start
overflow_sub-start c = c.requires.in_bounds

pub any_misnamed-requires : goal.any_misnamed-requires
any_misnamed-requires c = c.requires.even.b_id

pub any_misflagged-requires : goal.any_misflagged-requires
any_misflagged-requires c =
    let e = c.requires.top_len in
    e.1 ∙ sym e.0

pub bad_link-requires : goal.bad_link-requires
bad_link-requires c =
    let p = c.requires in record {
      even = p.even;
      top_len = p.top_len;
      in_bounds = p.in_bounds;
    }

pub returns-in-Some : goal.returns-in-Some
unfolding each_checked
returns-in-Some c = sym (refuses_at WrongLink _ _ _ _ (sym c.bad_link.ensures ∙ c.in-Some.is))

pub out_of_order-requires : goal.out_of_order-requires
out_of_order-requires c =
    let e = c.requires.even in
    e.ay ∙ sym e.ax

pub returns-then-not-any_misplaced-any_misnamed : goal.returns-then-not-any_misplaced-any_misnamed
returns-then-not-any_misplaced-any_misnamed c =
    let p = c.requires in
    let points = rw p.even.ax at c.any_misplaced.ensures in
    let flags = rw p.top_len.0 at c.any_misflagged.ensures in
    let answer :
    let x = c.args in
    let g = lent x.ax.now x.ay.now x.bx.now x.by.now x.aid.now x.bid.now x.start.now x.list.now in
    (c.any_misplaced.result || c.any_misnamed.result || c.any_misflagged.result) ≡ any_wrong g x.top.now x.state.now
    = ap₂ ◌||◌ (ap₂ ◌||◌ points c.any_misnamed.ensures) flags in
    sym (fine _ _ _ (sym answer ∙ c.if-not-any_misplaced-any_misnamed.true))

pub returns-in-Some-out_of_order : goal.returns-in-Some-out_of_order
unfolding each_checked
returns-in-Some-out_of_order c =
    let no_link = sym c.bad_link.ensures ∙ c.in_default.is in
    let place = rw c.requires.even.ax at c.out_of_order.ensures in
    sym (passes_at WrongLink _ _ _ no_link ∙ refuses_at LinksOutOfOrder _ _ _ _ (sym place ∙ c.in-Some-out_of_order.is))

pub returns : goal.returns
unfolding each_checked
returns c =
    let no_link = sym c.bad_link.ensures ∙ c.in_default.is in
    let place = rw c.requires.even.ax at c.out_of_order.ensures in
    sym (passes_at WrongLink _ _ _ no_link ∙ passes_at LinksOutOfOrder _ _ _ (sym place ∙ c.in_default-out_of_order.is))
