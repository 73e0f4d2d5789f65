-- `turn::cross_product` meets its contract: within the bounds nothing overflows.
use native.Mathlib.Omega.{arith}
use Rattle.laws.specs.Bounds.{mul_fits, sub_fits, sub_small, sub_value}
use Rattle.turn.specs.Points.{span}
use Rattle.turn.proofs.Operands.{span_room, of_vector}
use Rattle.turn.proofs.cross_product.Goals as goal

pub overflow_mul-result : goal.overflow_mul-result
overflow_mul-result c =
    let a = c.args in
    mul_fits span span_room (of_vector a.u.x (omega arith)) (of_vector a.v.y (omega arith))

pub overflow_mul-result-2 : goal.overflow_mul-result-2
overflow_mul-result-2 c =
    let a = c.args in
    mul_fits span span_room (of_vector a.u.y (omega arith)) (of_vector a.v.x (omega arith))

pub overflow_sub-result : goal.overflow_sub-result
overflow_sub-result c =
    let a = c.args in
    sub_fits span span_room (of_vector a.u.x (omega arith)) (of_vector a.v.y (omega arith))
    (of_vector a.u.y (omega arith)) (of_vector a.v.x (omega arith))

pub returns : goal.returns
returns c =
    let a = c.args in
    let rx = of_vector a.u.x (omega arith) in let ry = of_vector a.v.y (omega arith) in
    let sx = of_vector a.u.y (omega arith) in let sy = of_vector a.v.x (omega arith) in
    let e = sub_value span span_room rx ry sx sy in
    (e, rw e (sub_small span span_room rx ry sx sy))
