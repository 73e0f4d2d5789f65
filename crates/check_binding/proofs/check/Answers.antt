-- `check`: check 11 is asked of tables that check 10 has passed.
use mathlib.Core.Path.{sym, ◌∙◌}
use Rattle.table.specs.Table.{Table, table_of}
use Rattle.table.specs.Passing.{passes_sound}
use Rattle.check_binding.proofs.check.Goals as goal

pub check_anchors-requires : goal.check_anchors-requires
check_anchors-requires c =
    let t : Table = table_of c.args.contours in
    ((passes_sound t c.args.owners).to (sym c.check_table.ensures.2 ∙ c.in_ok-check_table.was)).0
