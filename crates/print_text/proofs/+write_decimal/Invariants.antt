-- `print_text::write_decimal` calls itself with a smaller number.
use Rattle.print_text.proofs.+write_decimal.Given as goal

abbrev pub decreases-write_decimal : goal.decreases-write_decimal
decreases-write_decimal l = l.n
