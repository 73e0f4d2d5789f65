-- `turn::dot_product` meets its contract: within the bounds nothing overflows.
use native.Mathlib.Omega.{arith}
use Rattle.laws.specs.Bounds.{mul_fits, add_fits, add_small, add_value}
use Rattle.turn.specs.Points.{span}
use Rattle.turn.proofs.Operands.{span_room, of_vector}
use Rattle.turn.proofs.dot_product.Goals as goal

pub overflow_mul-result : goal.overflow_mul-result
overflow_mul-result c =
    let a = c.args in
    mul_fits span span_room (of_vector a.u.x (omega arith)) (of_vector a.v.x (omega arith))

pub overflow_mul-result-2 : goal.overflow_mul-result-2
overflow_mul-result-2 c =
    let a = c.args in
    mul_fits span span_room (of_vector a.u.y (omega arith)) (of_vector a.v.y (omega arith))

pub overflow_add-result : goal.overflow_add-result
overflow_add-result c =
    let a = c.args in
    add_fits span span_room (of_vector a.u.x (omega arith)) (of_vector a.v.x (omega arith))
    (of_vector a.u.y (omega arith)) (of_vector a.v.y (omega arith))

pub returns : goal.returns
returns c =
    let a = c.args in
    let rx = of_vector a.u.x (omega arith) in let ry = of_vector a.v.x (omega arith) in
    let sx = of_vector a.u.y (omega arith) in let sy = of_vector a.v.y (omega arith) in
    let e = add_value span span_room rx ry sx sy in
    (e, rw e (add_small span span_room rx ry sx sy))
