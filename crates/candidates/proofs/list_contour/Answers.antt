-- `list_contour`: point by point, as `Listing` says.
use native.Mathlib.Omega.{arith}
use mathlib.Core.Path.{◌≡◌}
use Rattle.candidates.proofs.Listing.{listing_start, listing_more, listing_end}
use Rattle.candidates.proofs.list_contour.Goals as goal

pub loop-k-init : goal.loop-k-init
loop-k-init c = listing_start _ _ _

pub loop-k-preserved : goal.loop-k-preserved
loop-k-preserved c =
    let l = c.loop-k in
    listing_more _ _ _ l.next l.k l.invariant _ l.auto.k (omega (arith, c.requires.2)) c.next_position.ensures

pub returns : goal.returns
returns c =
    let l = c.loop-k in let e : l.k ≡ c.args.to = omega arith in
    listing_end _ c.args.from c.args.to c.args.of.now _ c.requires.0 c.requires.3 (c.fill.ensures.after (λ y q. q)) _ _ (rw e at l.invariant)
