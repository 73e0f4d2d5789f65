-- `check_links::check_links` meets its contract: checks 1 and 2, then those of each link.
use mathlib.Core.Path.{◌≡◌, sym, ◌∙◌}
use lib.ListN.{length}
use borrow.Author.Tests.{lt-ltb, le-ltb}
use mathlib.Core.Bool.{false}
use Rattle.graph.specs.Graph.{lent}
use Rattle.laws.specs.Test.{or_false}
use Rattle.turn.specs.Refusals.{tells}
use Rattle.graph.specs.Checks.{room, unlike, unlike_band, links_checked}
use Rattle.graph.specs.Tests.{even, band_even}
use Rattle.check_room.specs.Promises.{no_room}
use Rattle.check_links.proofs.check_links.Goals as goal

pub returns-then-n-gt-MAX_LINKS : goal.returns-then-n-gt-MAX_LINKS
unfolding links_checked
returns-then-n-gt-MAX_LINKS c = tells (simp (lt-ltb _ _ c.if-n-gt-MAX_LINKS.true))

pub returns-then-no_room : goal.returns-then-no_room
unfolding links_checked
returns-then-no_room c = tells (simp (le-ltb _ _ c.if-n-gt-MAX_LINKS.false, sym c.no_room.ensures ∙ c.if-no_room.true))

pub check_each-requires : goal.check_each-requires
check_each-requires c =
    let right : let x = c.args in no_room (lent x.ax.now x.ay.now x.bx.now x.by.now x.aid.now x.bid.now x.start.now x.list.now) x.top.now x.state.now
    (room x.points x.firsts x.lens x.kinds) ≡ false = sym c.no_room.ensures ∙ c.if-no_room.false in
    let fit : let x = c.args in (unlike (lent x.ax.now x.ay.now x.bx.now x.by.now x.aid.now x.bid.now x.start.now x.list.now) ≡ false) ×
    (unlike_band (length x.aid.now) x.top.now x.state.now ≡ false) = let h = or_false _ _ (or_false _ _ right).0 in ((or_false _ _ h.0).0, h.1) in
    let x = c.args in
    let e = (even (lent x.ax.now x.ay.now x.bx.now x.by.now x.aid.now x.bid.now x.start.now x.list.now)).to fit.0 in record {
      even = e.0;
      top_len = (band_even (length x.aid.now) x.top.now x.state.now).to fit.1;
      in_bounds = e.1;
    }

pub returns : goal.returns
unfolding links_checked
returns c =
    let right : let x = c.args in no_room (lent x.ax.now x.ay.now x.bx.now x.by.now x.aid.now x.bid.now x.start.now x.list.now) x.top.now x.state.now
    (room x.points x.firsts x.lens x.kinds) ≡ false = sym c.no_room.ensures ∙ c.if-no_room.false in
    tells (simp (le-ltb _ _ c.if-n-gt-MAX_LINKS.false, right, c.check_each.ensures))
