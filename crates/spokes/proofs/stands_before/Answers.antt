-- `spokes::stands_before` meets its contract; the invariant: so far the answer tells whether x stands among the entries looked at.
use Rattle.std.proofs.Common.{ℕ, ◌||◌, sym, ap, ap₂, ◌∙◌, eqb, length-take, arith, get_or-take}
use Rattle.laws.specs.Lowest.{some_more}
use Rattle.spokes.proofs.stands_before.Goals as goal

pub loop-e-preserved : goal.loop-e-preserved
loop-e-preserved c =
    ap₂ ◌||◌ c.loop-e.invariant
    (ap (λ (y : ℕ). eqb y c.args.x) (c.wide.ensures ∙ get_or-take c.args.j c.args.here.now _ 0 (omega (arith, length-take {A = ℕ}))))
    ∙ sym (some_more _ _)
