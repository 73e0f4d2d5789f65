-- `bind_in`: the first owners, as many as contours.
use native.Mathlib.Omega.{arith}
use mathlib.Core.Path.{sym, ◌∙◌}
use Rattle.table.specs.Table.{Table, table_of}
use Rattle.table.specs.Passing.{contours_few}
use Rattle.deliver.proofs.bind_in.Goals as goal

pub number_hulls-requires : goal.number_hulls-requires
number_hulls-requires c =
    let t : Table = table_of c.args.contours in
    let s = c in
    (s.requires.own_len.0 ∙ sym s.requires.fact.0.kind_long, omega (arith, s.requires.fact.0.kind_long, contours_few t s.requires.fact.0))
