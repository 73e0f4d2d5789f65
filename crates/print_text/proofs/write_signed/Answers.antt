-- `print_text::write_signed` meets its contract: its sign comes before its size.
use mir.Syntax.{w32}
use mir.ValLaws.{to_z-of_z}
use Rattle.std.proofs.Common.{◌∙◌, ap}
use lib.IntN.{nat_abs}
use Rattle.print_text.proofs.Numbers.{after_sign}
use Rattle.print_text.proofs.write_signed.Goals as goal

pub returns-then-x-lt0 : goal.returns-then-x-lt0
returns-then-x-lt0 c =
    let same = to_z-of_z w32 c.args.x c.ranges.x in
    after_sign c.args.x _ (rw same at c.if-x-lt0.true) (c.unsigned_abs-size.ensures.value ∙ ap nat_abs same) c.requires
    c.write_decimal.ensures
