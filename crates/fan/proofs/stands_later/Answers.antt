-- `fan::stands_later` meets its contract: by which of the two starts at the node, and else by the cross product.
use mathlib.Core.Path.{ap₂, ◌∙◌}
use Rattle.turn.specs.Points.{cross}
use Rattle.fan.proofs.Turns.{starts_later, starts_earlier, turns_later}
use Rattle.fan.proofs.stands_later.Goals as goal

pub wide-requires : goal.wide-requires
wide-requires c = tt

pub wide-requires-2 : goal.wide-requires-2
wide-requires-2 c = tt

pub returns-then-e_starts-f_starts : goal.returns-then-e_starts-f_starts
returns-then-e_starts-f_starts c = let x = c.args in
    starts_later x.ax.now x.ay.now x.bx.now x.by.now x.aid.now x.v x.e x.f _ _
    c.wide.ensures c.wide-2.ensures
    c.if-e_starts-f_starts.true

pub returns-then-f_starts-e_starts : goal.returns-then-f_starts-e_starts
returns-then-f_starts-e_starts c = let x = c.args in
    starts_earlier x.ax.now x.ay.now x.bx.now x.by.now x.aid.now x.v x.e x.f _ _
    c.wide.ensures c.wide-2.ensures
    c.if-f_starts-e_starts.true

pub cross_product-requires : goal.cross_product-requires
cross_product-requires c = (c.away.ensures.1, c.away-2.ensures.1)

pub returns : goal.returns
returns c = let x = c.args in
    turns_later x.ax.now x.ay.now x.bx.now x.by.now x.aid.now x.v x.e x.f _ _
    c.wide.ensures c.wide-2.ensures
    c.cross_product.result (c.cross_product.ensures.0 ∙ ap₂ cross c.away.ensures.0 c.away-2.ensures.0)
    c.cross_product.ensures.1 c.if-e_starts-f_starts.false c.if-f_starts-e_starts.false
