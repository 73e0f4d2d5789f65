-- `bind_sound`: no hull, one hull, and the search with its two ways out.
use native.Mathlib.Omega.{arith}
use Rattle.std.specs.Prelude.{Err}
use Rattle.std.proofs.lemmas.Result.{err_from_is_err_and}
use mathlib.Core.Path.{ap, ◌∙◌}
use Rattle.table.specs.Table.{Table, table_of}
use Rattle.table.specs.Passing.{contours_few}
use Rattle.bind.proofs.Whole.{hull_count_lem, bound_none, bound_one, bound_all, bound_stuck}
use Rattle.bind.proofs.bind_sound.Goals as goal

pub overflow_cast-result : goal.overflow_cast-result
overflow_cast-result c =
    let t : Table = table_of c.args.contours in
    let s = c in omega (arith, contours_few t s.requires.0)

pub returns-then-hulls-eq0 : goal.returns-then-hulls-eq0
returns-then-hulls-eq0 c =
    let t : Table = table_of c.args.contours in
    let s = c in
    bound_none t s.args.clockwise s.args.owner.now _
    (hull_count_lem t s.requires.0 _ c.hulls_before-hulls.ensures.0
    ∙ c.if-hulls-eq0.true) c.fill.ensures

pub returns-then-hulls-eq1 : goal.returns-then-hulls-eq1
returns-then-hulls-eq1 c =
    let t : Table = table_of c.args.contours in
    let s = c in
    bound_one t s.args.clockwise s.args.owner.now _
    (hull_count_lem t s.requires.0 _ c.hulls_before-hulls.ensures.0
    ∙ c.if-hulls-eq1.true) c.fill-then-hulls-eq1.ensures

pub overflow_cast-result-2 : goal.overflow_cast-result-2
overflow_cast-result-2 c =
    let t : Table = table_of c.args.contours in
    let s = c in
    omega (arith, c.hulls_before-hulls.ensures.1, contours_few t s.requires.0)

pub returns : goal.returns
returns c =
    let t : Table = table_of c.args.contours in
    let s = c in
    bound_all t s.args.clockwise s.args.owner.now _ _
    (hull_count_lem t s.requires.0 _ c.hulls_before-hulls.ensures.0)
    c.if-hulls-eq0.false c.if-hulls-eq1.false
    _ c.bind_holes.ensures c.in_ok-bind_holes.was

pub returns-in_err-bind_holes : goal.returns-in_err-bind_holes
returns-in_err-bind_holes c =
    let t : Table = table_of c.args.contours in
    let s = c in
    let p = err_from_is_err_and c.from_residual.result c.from_residual.ensures.1 in
    bound_stuck t s.args.clockwise s.args.owner.now _ _
    (hull_count_lem t s.requires.0 _ c.hulls_before-hulls.ensures.0)
    c.if-hulls-eq0.false
    c.if-hulls-eq1.false _ c.bind_holes.ensures c.in_err-bind_holes.field-0.0 c.in_err-bind_holes.was _ (p.1 ∙ ap Err p.2)
