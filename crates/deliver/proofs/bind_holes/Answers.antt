-- `bind_holes`: its array, cut to the number of contours.
use native.Mathlib.Omega.{arith}
use mathlib.Core.Path.{◌≡◌, sym}
use Prim.Native.Nat.{ℕ}
use lib.ListN.{length, take, replicate, length-replicate}
use lib.Seq.{length-take-le}
use Rattle.table.specs.Table.{Table, table_of, max_contours}
use Rattle.table.specs.Passing.{contours_few}
use Rattle.deliver.proofs.bind_holes.Goals as goal

pub slice_bounds-own-end : goal.slice_bounds-own-end
slice_bounds-own-end c =
    let t : Table = table_of c.args.contours in
    let s = c in omega (arith, contours_few t s.requires.0)

pub slice_bounds-bind_in-end : goal.slice_bounds-bind_in-end
slice_bounds-bind_in-end c =
    let t : Table = table_of c.args.contours in
    let front : length {A = ℕ} (take (length c.args.contours.first.now) (replicate max_contours 0)) ≡ length c.args.contours.first.now = length-take-le
    (length c.args.contours.first.now) (replicate max_contours 0) (rw (length-replicate {A = ℕ} max_contours 0) (contours_few t c.requires.0)) in
    let s = c in sym front

pub bind_in-requires : goal.bind_in-requires
bind_in-requires c =
    let t : Table = table_of c.args.contours in
    let front : length {A = ℕ} (take (length c.args.contours.first.now) (replicate max_contours 0)) ≡ length c.args.contours.first.now = length-take-le
    (length c.args.contours.first.now) (replicate max_contours 0) (rw (length-replicate {A = ℕ} max_contours 0) (contours_few t c.requires.0)) in
    let s = c in record {
      fact = (s.requires.0, s.requires.1);
      own_len = (front, s.requires.2);
    }
