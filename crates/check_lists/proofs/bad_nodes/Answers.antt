-- `check_lists::bad_nodes` meets its contract: check 5: the starts first, since the lists are read by them.
use mathlib.Core.Path.{sym, ◌∙◌}
use Rattle.graph.specs.Passes.{Rising}
use Rattle.graph.specs.Tests.{rising}
use Rattle.check_lists.proofs.bad_nodes.Goals as goal

pub returns-then-bad_starts : goal.returns-then-bad_starts
returns-then-bad_starts c = simp (sym c.bad_starts.ensures ∙ c.if-bad_starts.true)

pub any_stray-requires : goal.any_stray-requires
any_stray-requires c =
    let rises : let x = c.args in Rising x.start.now x.list.now = let x = c.args in
    (rising x.start.now x.list.now c.requires.in_bounds).to (sym c.bad_starts.ensures
    ∙ c.if-bad_starts.false) in record {
      bid_len = c.requires.ids.same;
      rising = rises;
    }

pub any_missed-requires : goal.any_missed-requires
any_missed-requires c =
    let rises : let x = c.args in Rising x.start.now x.list.now = let x = c.args in
    (rising x.start.now x.list.now c.requires.in_bounds).to (sym c.bad_starts.ensures
    ∙ c.if-bad_starts.false) in record {
      rising = rises;
      ids = c.requires.ids;
    }

pub returns : goal.returns
returns c = simp (sym c.bad_starts.ensures ∙ c.if-bad_starts.false, c.any_stray.ensures, c.any_missed.ensures)
