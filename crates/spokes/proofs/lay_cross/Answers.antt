-- `spokes::lay_cross` meets its contract: entry after entry, as `Crossings` says.
use borrow.Author.Rules.{rules}
use Prim.Native.Nat.{ℕ, ◌≤◌, ◌<◌}
use mathlib.Core.Path.{◌≡◌, refl, subst}
use mathlib.Core.List.{List}
use lib.ListN.{length}
use Rattle.laws.specs.Test.{true≢false}
use Rattle.graph.specs.Graph.{point_at}
use Rattle.graph.specs.Checks.{node_at, end_at}
use Rattle.spokes.proofs.Crossings.{answer_no_link, kept_twice, cross_start, cross_more, cross_wrong, cross_right, cross_laid}
use Rattle.spokes.proofs.lay_cross.Goals as goal

pub returns-then-aid-first : goal.returns-then-aid-first
returns-then-aid-first c =
    let d = c in
    let x = c.args in record {
      point = answer_no_link x.ax.now x.ay.now x.bx.now x.by.now x.aid.now x.bid.now x.state.now x.here.now x.v
          c.requires.here_nonzero (subst (λ k. length x.aid.now ≤ k) d.wide-first.ensures c.if-aid-first.true);
      laid_cross = λ z. absurd (true≢false refl z);
      else_kept = (λ h d. refl, λ h d. refl);
    }

pub loop-j-init : goal.loop-j-init
loop-j-init c =
    let d = c in
    let n = d.wide-first.ensures in
    let x = c.args in
    let p = c.requires in
    cross_start x.nxt.now x.prv.now p.points p.grids p.state_len p.runs p.aid_len_bound
    (subst (λ k. k < length x.aid.now) n d.if-aid-first.false)
    (subst (λ k. c.end_at-home.result ≡ end_at (point_at x.ax.now x.ay.now) (point_at x.bx.now x.by.now) (node_at x.aid.now) x.v k) n
    c.end_at-home.ensures)

pub returns-in-None : goal.returns-in-None
returns-in-None c =
    let nxt-left : List ℕ = c.lay_entry.new.nxt in
    let prv-left : List ℕ = c.lay_entry.new.prv in
    let d = c in
    let t = c in
    let x = c.args in
    let l = t.loop-j in
    let k = d.lay_entry.ensures.else_kept in record {
      point = cross_wrong l.invariant nxt-left prv-left t.loop-j-test.true d.lay_entry.result c.in-None.is d.lay_entry.ensures.entered;
      laid_cross = λ z. absurd (true≢false refl z);
      else_kept = (
        kept_twice x.aid.now x.bid.now x.v x.nxt.now l.nxt nxt-left l.invariant.kept_nxt k.0,
        kept_twice x.aid.now x.bid.now x.v x.prv.now l.prv prv-left l.invariant.kept_prv k.1,
      );
    }

pub loop-j-preserved : goal.loop-j-preserved
loop-j-preserved c =
    let nxt-left : List ℕ = c.lay_entry.new.nxt in
    let prv-left : List ℕ = c.lay_entry.new.prv in
    let nxt_same : length nxt-left ≡ length c.loop-j.nxt = search rules in
    let prv_same : length prv-left ≡ length c.loop-j.prv = search rules in
    let d = c in
    let t = c in
    cross_more t.loop-j.invariant nxt-left prv-left _ t.loop-j-test.true nxt_same prv_same
    d.lay_entry.result c.in-Some.is d.lay_entry.ensures.entered d.lay_entry.ensures.else_kept.0 d.lay_entry.ensures.else_kept.1

pub returns : goal.returns
returns c =
    let i = c.loop-j.invariant in record {
      point = cross_right i c.loop-j-test.false;
      laid_cross = λ z start list top e. cross_laid i c.loop-j-test.false start list top e;
      else_kept = (i.kept_nxt, i.kept_prv);
    }
