-- `format_fill::fill_u8` meets its contract.
use Rattle.std.proofs.Common.{ℕ, ◌≡◌, length, get_or, arith, rules, length-take}
use Rattle.format_fill.proofs.Fill.{filled_front}
use Rattle.format_fill.proofs.fill_u8.Goals as goal

pub returns : goal.returns
returns c =
    let a = c.args in
    let long : length c.fill_by.new.out ≡ a.n = omega (arith, length-take {A = ℕ}) in
    filled_front (λ i. get_or a.s.now i 0) 28 a.from a.n 0 c.fill_by.new.out a.out.now long
    (λ k l. let h = c.fill_by.ensures k 0 (omega (arith, length-take {A = ℕ})) in search rules)
