-- `name_contours`: every place below j has been written.
use native.Mathlib.Omega.{arith}
use mathlib.Core.Path.{◌≡◌}
use lib.ListN.{get_or}
use borrow.Author.Count.{below_none}
use Rattle.laws.specs.Lists.{put_below}
use Rattle.table.specs.Fronts.{kept_all, kept_set}
use Rattle.nearest.specs.SearchLists.{named}
use Rattle.nearest.proofs.name_contours.Goals as goal

pub loop-j-init : goal.loop-j-init
loop-j-init c =
    let s = c in
    record {
      names = below_none (λ i. get_or s.args.under.now i 0 ≡ named s.args.of.now (get_or s.args.best.now i 0));
      kept = kept_all 0 0 s.args.under.now;
    }

pub contour_of-requires : goal.contour_of-requires
contour_of-requires c =
    let s = c in let l = c.loop-j in
    let b = s.requires.m_in_bounds.2 l.j c.loop-j-test.true in (omega (arith, s.requires.n_in_bounds.0), λ k h. s.requires.n_in_bounds.1 k (omega arith))

pub loop-j-preserved : goal.loop-j-preserved
loop-j-preserved c =
    let s = c in let l = c.loop-j in
    record {
      names = put_below 0 (λ i. named s.args.of.now (get_or s.args.best.now i 0)) l.under l.j _
          (omega (arith, s.requires.m_in_bounds, l.invariant.kept.len)) c.contour_of.ensures l.invariant.names;
      kept = kept_set 0 l.j _ l.under l.invariant.kept _;
    }

pub returns : goal.returns
returns c =
    let l = c.loop-j in let e : l.j ≡ c.args.m = omega arith in
    rw e at l.invariant
