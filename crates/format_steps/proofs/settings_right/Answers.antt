-- `format_steps::settings_right` meets its contract.
use Rattle.std.proofs.Common.{◌≤◌, length, arith}
use Rattle.format_records.specs.Records.{settings_right}
use borrow.Author.Tests.{le-leb, lt-leb}
use Rattle.format_steps.proofs.settings_right.Goals as goal

pub returns-then-s-lt15 : goal.returns-then-s-lt15
unfolding settings_right
returns-then-s-lt15 c = simp (lt-leb _ _ c.if-s-lt15.true)

pub returns : goal.returns
unfolding settings_right
returns c =
    let long : 15 ≤ length c.args.s.now = omega arith in
    simp (
      le-leb _ _ long,
      ← c.u32_at.ensures,
      ← c.u16_at.ensures.0,
    )
