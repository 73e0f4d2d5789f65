-- `format_fill::fill_i32` meets its contract.
use Rattle.std.proofs.Common.{◌≡◌, ℤ, pos, length, arith, rules, length-take}
use Rattle.format_numbers.specs.Bytes.{i32_at}
use Rattle.format_fill.proofs.Fill.{filled_front}
use Rattle.format_fill.proofs.fill_i32.Goals as goal

pub returns : goal.returns
returns c =
    let a = c.args in
    let long : length c.fill_by.new.out ≡ a.n = omega (arith, length-take {A = ℤ}) in
    filled_front (i32_at a.s.now) 28 a.from a.n (pos 0) c.fill_by.new.out a.out.now long
    (λ k l. let h = c.fill_by.ensures k (pos 0) (omega (arith, length-take {A = ℤ})) in search rules)
