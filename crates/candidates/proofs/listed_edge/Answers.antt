-- `listed_edge`: both ends lie within the bounds, and stand the way round that the definition has.
use native.Mathlib.Omega.{arith}
use mathlib.Core.Path.{refl}
use lib.ListN.{get_or}
use Rattle.turn.specs.Points.{OnGrid}
use Rattle.table.specs.TableLaws.{grid_read}
use Rattle.candidates.specs.EdgeLists.{listed_edge}
use Rattle.candidates.proofs.listed_edge.Goals.{then-listed, else-listed}
use Rattle.candidates.proofs.listed_edge.Goals as goal

pub returns : goal.returns
unfolding listed_edge
returns c =
    let p = c.point_in-p in
    let q = c.point_in-q in
    let l = c.args.listed in
    let here : OnGrid p.result = grid_read l.points.now c.args.k p.result p.ensures c.requires.0.grid (omega (arith, c.requires.0.room, c.requires.1)) in
    let there : OnGrid q.result = grid_read l.points.now (get_or l.next.now c.args.k 0) q.result q.ensures c.requires.0.grid
    (omega (arith, c.requires.0.next c.args.k c.requires.1, c.requires.0.room)) in
    elim c.if-listed.branch [
      | then-listed w ↦ rw (w.t-18-is, w.if-listed.true) (rw (p.ensures, q.ensures) refl, here, there)
      | else-listed w ↦ rw (w.t-18-is, w.if-listed.false) (rw (p.ensures, q.ensures) refl, there, here)
    ]
