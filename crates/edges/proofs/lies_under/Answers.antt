-- `lies_under`: by its three ways out.
use Rattle.edges.proofs.Num.{under_yes, under_no, under_on}
use Rattle.edges.proofs.lies_under.Goals as goal

pub returns-then-h-gt0 : goal.returns-then-h-gt0
returns-then-h-gt0 c = let h = c.height_over-h in under_yes _ _ h.result h.ensures.0 h.ensures.1 c.if-h-gt0.true

pub returns-then-h-lt0 : goal.returns-then-h-lt0
returns-then-h-lt0 c = let h = c.height_over-h in under_no _ _ h.result h.ensures.0 h.ensures.1 c.if-h-gt0.false c.if-h-lt0.true

pub returns : goal.returns
returns c =
    let h = c.height_over-h in
    let e = rw (c.between.ensures.0, c.between-2.ensures.0) at c.cross_product.ensures.0 in
    under_on _ _ h.result h.ensures.0 h.ensures.1 c.cross_product.result e c.cross_product.ensures.1
    c.if-h-gt0.false c.if-h-lt0.false
