-- `goes_before`: by its three ways out.
use mathlib.Core.Path.{sym, ◌∙◌}
use Rattle.precede.proofs.Preceding.{goes_first, goes_last, goes_by_angle}
use Rattle.precede.proofs.goes_before.Goals as goal

pub returns-then-before : goal.returns-then-before
returns-then-before c = let a = c.args in goes_first a.a a.b a.c a.d (sym c.before-2.ensures ∙ c.if-before.true)

pub returns-then-before-2 : goal.returns-then-before-2
returns-then-before-2 c =
    let a = c.args in
    goes_last a.a a.b a.c a.d (sym c.before-2.ensures ∙ c.if-before.false)
    (sym c.before-3.ensures ∙ c.if-before-2.true)

pub returns : goal.returns
returns c =
    let e = rw (c.between.ensures.0, c.between-2.ensures.0) at c.cross_product-angle.ensures.0 in
    let a = c.args in
    goes_by_angle a.a a.b a.c a.d (sym c.before-2.ensures
    ∙ c.if-before.false) (sym c.before-3.ensures
    ∙ c.if-before-2.false) c.cross_product-angle.result e c.cross_product-angle.ensures.1
