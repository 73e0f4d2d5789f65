-- `print_text::write_decimal` meets its contract.
use native.Mathlib.Omega.{arith}
use Rattle.print_text.proofs.Numbers.{one_fits, one_digit, before_fit, last_digit_fits, last_digit}
use Rattle.print_text.proofs.+write_decimal.Goals as goal

pub bounds-out-at : goal.bounds-out-at
bounds-out-at t c = one_fits _ _ _ (omega arith) c.requires

pub returns-then-n-lt10 : goal.returns-then-n-lt10
returns-then-n-lt10 t c = one_digit _ _ _ (omega arith) c.requires

pub write_decimal-last-requires : goal.write_decimal-last-requires
write_decimal-last-requires t c = (
  omega (arith, c.decreases),
  before_fit _ _ c.args.out.now (omega arith) c.ranges.n.fits c.requires,
)

pub bounds-out-last : goal.bounds-out-last
bounds-out-last t c =
    last_digit_fits _ _ c.args.out.now (omega arith) c.ranges.n.fits c.requires _ _ c.write_decimal-last.ensures

pub overflow_add-result-else-n-lt10 : goal.overflow_add-result-else-n-lt10
overflow_add-result-else-n-lt10 t c =
    omega (
      arith,
      last_digit_fits _ _ c.args.out.now (omega arith) c.ranges.n.fits c.requires _ _ c.write_decimal-last.ensures,
      c.write_decimal-last.auto.out,
      c.well_formed,
    )

pub returns-else-n-lt10 : goal.returns-else-n-lt10
returns-else-n-lt10 t c =
    last_digit _ _ c.args.out.now (omega arith) c.ranges.n.fits c.requires _ _ c.write_decimal-last.ensures
