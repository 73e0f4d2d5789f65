-- `nearest_edges`: edge by edge, as `Rounds` says.
use native.Mathlib.Omega.{arith}
use Rattle.nearest.proofs.Offers.{rounds_start, rounds_numbers, rounds_mute, rounds_again, rounds_end}
use Rattle.nearest.proofs.nearest_edges.Goals.{then-mute-listed-eq0, else-mute-listed-eq0}
use Rattle.nearest.proofs.nearest_edges.Goals as goal

pub loop-k-init : goal.loop-k-init
loop-k-init c = let s = c in rounds_start _ _ _ _ _ _ s.requires.m_in_bounds.2

pub offer-requires : goal.offer-requires
offer-requires c =
    let s = c in
    let l = c.loop-k in record {
      fit = (s.requires.fact.0, s.requires.fact.1, c.loop-k-test.true);
      sorted_anchors = s.requires.sorted_anchors;
      m_in_bounds = (s.requires.m_in_bounds.0, omega (arith, l.invariant.len, s.requires.m_in_bounds.1), rounds_numbers _ _ _ _ _ _ l.best l.k l.invariant);
    }

pub loop-k-preserved : goal.loop-k-preserved
loop-k-preserved c =
    let l = c.loop-k in
    elim c.if-mute-listed-eq0.branch [
      | then-mute-listed-eq0 w ↦ rw w.best-is
          (rounds_again _ _ _ _ _ _ l.best l.k l.invariant _ c.loop-k-test.true w.if-mute-listed-eq0.true w.offer.auto.best w.offer.ensures)
      | else-mute-listed-eq0 w ↦ rw w.best-is (rounds_mute _ _ _ _ _ _ l.best l.k l.invariant c.loop-k-test.true w.if-mute-listed-eq0.false)
    ]

pub returns : goal.returns
returns c = let l = c.loop-k in rounds_end _ _ _ _ _ _ l.best l.k l.invariant c.loop-k-test.false
