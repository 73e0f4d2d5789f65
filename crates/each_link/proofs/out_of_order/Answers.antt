-- `each_link::out_of_order` meets its contract: the lowest link out of order; the invariant: none below k is.
use Rattle.std.proofs.Common.{◌≡◌, sym, ◌∙◌, arith, lt-ltb, below_more}
use Rattle.laws.specs.Lowest.{none_if, found_if}
use Rattle.graph.specs.Graph.{point_at}
use Rattle.graph.specs.Checks.{out_of_order}
use Rattle.each_link.proofs.out_of_order.Goals as goal

pub returns-then-before : goal.returns-then-before
returns-then-before c =
    let here : let x = c.args in c.before-in-loop-k.result ≡ out_of_order (point_at x.ax.now x.ay.now) c.loop-k.k = c.before-in-loop-k.ensures ∙ simp (
      lt-ltb 0 c.loop-k.k (omega arith),
      c.point_at.ensures,
      c.point_at-in-loop-k.ensures,
    ) in
    sym (found_if _ _ _ (omega arith) c.loop-k.invariant (sym here ∙ c.if-before.true))

pub loop-k-preserved : goal.loop-k-preserved
loop-k-preserved c =
    let here : let x = c.args in c.before-in-loop-k.result ≡ out_of_order (point_at x.ax.now x.ay.now) c.loop-k.k = c.before-in-loop-k.ensures ∙ simp (
      lt-ltb 0 c.loop-k.k (omega arith),
      c.point_at.ensures,
      c.point_at-in-loop-k.ensures,
    ) in
    below_more _ _ c.loop-k.invariant (sym here ∙ c.if-before.false)

pub returns : goal.returns
returns c = sym (none_if _ _ (λ k l. c.loop-k.invariant k (omega arith)))
