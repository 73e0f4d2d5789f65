-- `format_fill::fill_u16` meets its contract.
use Rattle.std.proofs.Common.{ℕ, ◌+◌, ◌-◌, ◌≡◌, length, arith, rules, length-take, length-drop}
use Rattle.std.proofs.Math.Seq.{drop-drop}
use Rattle.format_numbers.specs.Bytes.{u16_at}
use Rattle.format_fill.proofs.Fill.{filled}
use Rattle.format_fill.proofs.fill_u16.Goals as goal

pub returns : goal.returns
returns c =
    let a = c.args in
    let many : a.to + a.n - a.to ≡ a.n = omega arith in
    let long : length c.fill_by.new.out ≡ a.n = omega (arith, length-take {A = ℕ}, length-drop {A = ℕ}) in
    rw (many, drop-drop) (filled (u16_at a.s.now) a.step a.from a.n a.to 0 c.fill_by.new.out a.out.now long
    (λ k l. let h = c.fill_by.ensures k 0 (omega (arith, length-take {A = ℕ}, length-drop {A = ℕ})) in search rules))
