-- `print::write_said` meets its contract.
use Rattle.print_text.specs.Decimal.{decimal, said}
use Rattle.writing.specs.Write.{left_all, left_after, left_last, piece_fits, last_fits}
use Rattle.print_text.proofs.write_said.Goals as goal

pub write_text-next-requires : goal.write_text-next-requires
write_text-next-requires c =
    let s = c in
    let a = s.args in piece_fits a.word.now (decimal a.n) (left_all a.out.now a.at (said a.word.now a.n) s.requires)

pub write_decimal-requires : goal.write_decimal-requires
write_decimal-requires c =
    let s = c in
    let a = s.args in
    last_fits (decimal a.n) (left_after a.word.now (decimal a.n) (left_all a.out.now a.at (said
    a.word.now a.n) s.requires) c.write_text-next.ensures)

pub returns : goal.returns
returns c =
    let s = c in
    let a = s.args in
    left_last (decimal a.n) (left_after a.word.now (decimal a.n) (left_all a.out.now a.at (said
    a.word.now a.n) s.requires) c.write_text-next.ensures)
    c.write_decimal.ensures
