-- `turn::wedge` meets its contract: within the bounds nothing overflows.
use native.Mathlib.Omega.{arith}
use Rattle.laws.specs.Bounds.{fits32, cast_fits, mul_fits, sub_fits, sub_small, sub_value}
use Rattle.turn.specs.Limits.{max_coordinate}
use Rattle.turn.proofs.Operands.{coordinate_room, of_point}
use Rattle.turn.proofs.wedge.Goals as goal

pub overflow_cast-result : goal.overflow_cast-result
overflow_cast-result c = let z = c.args.p.x in cast_fits z (fits32 z (omega arith))

pub overflow_cast-result-2 : goal.overflow_cast-result-2
overflow_cast-result-2 c = let z = c.args.q.y in cast_fits z (fits32 z (omega arith))

pub overflow_mul-result : goal.overflow_mul-result
overflow_mul-result c =
    let a = c.args in
    mul_fits max_coordinate coordinate_room (of_point a.p.x (omega arith)) (of_point a.q.y (omega arith))

pub overflow_cast-result-3 : goal.overflow_cast-result-3
overflow_cast-result-3 c = let z = c.args.p.y in cast_fits z (fits32 z (omega arith))

pub overflow_cast-result-4 : goal.overflow_cast-result-4
overflow_cast-result-4 c = let z = c.args.q.x in cast_fits z (fits32 z (omega arith))

pub overflow_mul-result-2 : goal.overflow_mul-result-2
overflow_mul-result-2 c =
    let a = c.args in
    mul_fits max_coordinate coordinate_room (of_point a.p.y (omega arith)) (of_point a.q.x (omega arith))

pub overflow_sub-result : goal.overflow_sub-result
overflow_sub-result c =
    let a = c.args in
    sub_fits max_coordinate coordinate_room (of_point a.p.x (omega arith)) (of_point a.q.y (omega arith))
    (of_point a.p.y (omega arith)) (of_point a.q.x (omega arith))

pub returns : goal.returns
returns c =
    let a = c.args in
    let rx = of_point a.p.x (omega arith) in let ry = of_point a.q.y (omega arith) in
    let sx = of_point a.p.y (omega arith) in let sy = of_point a.q.x (omega arith) in
    let e = sub_value max_coordinate coordinate_room rx ry sx sy in
    (e, rw e (sub_small max_coordinate coordinate_room rx ry sx sy))
