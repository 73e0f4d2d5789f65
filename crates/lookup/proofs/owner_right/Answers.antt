-- `owner_right`: by the kind and the number of hulls.
use borrow.Author.Tests.{eq-eqb, ne_eqb}
use Rattle.lookup.proofs.owner_right.Goals as goal

pub returns-then-kind-eq0 : goal.returns-then-kind-eq0
returns-then-kind-eq0 c = rw (eq-eqb _ _ c.if-kind-eq0.true)

pub returns-then-hulls-eq0 : goal.returns-then-hulls-eq0
returns-then-hulls-eq0 c = rw (ne_eqb _ _ c.if-kind-eq0.false, eq-eqb _ _ c.if-hulls-eq0.true)

pub returns : goal.returns
returns c = rw (ne_eqb _ _ c.if-kind-eq0.false, ne_eqb _ _ c.if-hulls-eq0.false)
