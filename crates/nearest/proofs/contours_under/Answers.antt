-- `contours_under`: the lists that it makes give the table's edges, so what it finds among them is the search of the definition.
use native.Mathlib.Omega.{arith}
use Prim.Native.Nat.{ℕ}
use lib.ListN.{get_or-replicate}
use mathlib.Core.Bool.{Bool}
use Rattle.table.specs.Table.{Table, table_of, max_contours}
use Rattle.anchor.specs.Anchors.{Anchors, anchors_of, anchors_long}
use Rattle.candidates.specs.Candidates.{rightward}
use Rattle.candidates.specs.EdgeListLaws.{ranges_of, fit, of_few}
use Rattle.nearest.proofs.Same.{flags, best_numbers, searched, unlike}
use Rattle.nearest.proofs.contours_under.Goals as goal

pub list_edges-requires : goal.list_edges-requires
list_edges-requires c =
    let t : Table = table_of c.args.contours in
    let s = c in (ranges_of t s.requires.sound, omega arith, omega arith)

pub nearest_edges-requires : goal.nearest_edges-requires
nearest_edges-requires c =
    let t : Table = table_of c.args.contours in
    let h : Anchors = anchors_of c.args.anchors.now in
    let s = c in
    let l = c.list_edges in let p = s.requires in record {
      fact = (
        fit t s.requires.sound l.new.next l.new.of l.ensures.round _ (omega (arith, l.auto.next))
            (omega (arith, l.auto.of)),
        s.requires.sound.few,
        flags t s.requires.sound l.new.next l.new.of l.ensures.round s.args.mute.now p.first_in_bounds.0,
      );
      sorted_anchors = p.sorted_anchors;
      m_in_bounds = (
        anchors_long s.args.anchors.now _ p.sorted_anchors.on_grid.room,
        p.first_in_bounds.1,
        λ j h. get_or-replicate {A = ℕ} max_contours j 0 0 (omega (arith, p.first_in_bounds.1)),
      );
    }

pub name_contours-requires : goal.name_contours-requires
name_contours-requires c =
    let t : Table = table_of c.args.contours in
    let h : Anchors = anchors_of c.args.anchors.now in
    let s = c in let l =
    c.list_edges in let e =
    c.nearest_edges in let p = s.requires in record {
      n_in_bounds = (omega (arith, l.auto.of, s.requires.sound.few), of_few t s.requires.sound l.new.next l.new.of l.ensures.round);
      m_in_bounds = (
        omega (arith, e.auto.best, p.first_in_bounds.1),
        p.first_in_bounds.2,
        best_numbers t s.requires.sound l.new.next
            l.new.of l.ensures.round _ s.args.mute.now h s.args.m e.new.best
            e.ensures,
      );
    }

pub returns : goal.returns
returns c =
    let t : Table = table_of c.args.contours in
    let h : Anchors = anchors_of c.args.anchors.now in
    let right : Bool = rightward c.args.above c.args.clockwise in
    let s = c in let l =
    c.list_edges in let e =
    c.nearest_edges in let u = c.name_contours in (
      searched t s.requires.sound l.new.next l.new.of l.ensures.round right s.args.mute.now h s.args.m
          e.new.best (rw (unlike c.args.above c.args.clockwise) at e.ensures) u.new.under u.ensures.names,
      u.ensures.kept,
    )
