-- `check_ends::apart_in` meets its contract: each entry is compared with the first; the invariant: none seen is apart from it.
use Rattle.std.proofs.Common.{◌≡◌, ◌+◌, ◌∙◌, sym, get_or, arith, below_more}
use Rattle.std.proofs.lemmas.Grind.{common_steps}
use Rattle.graph.specs.Graph.{point_at}
use Rattle.graph.specs.Checks.{node_at, apart}
use Rattle.graph.specs.EndLaws.{none_apart, one_apart}
use Rattle.check_ends.proofs.apart_in.Goals as goal

pub returns-then-differ : goal.returns-then-differ
returns-then-differ c =
    let x = c.args in
    let a = point_at x.ax.now x.ay.now in
    let b = point_at x.bx.now x.by.now in
    let i = c.loop-e.e-index + 1 in
    let entry : c.wide-in-loop-e.result ≡ get_or x.here.now i 0 = grind (arith, common_steps) in
    let here : c.differ.result ≡ apart a b (node_at x.aid.now) x.v (get_or x.here.now 0 0) (get_or x.here.now i 0) = c.differ.ensures ∙ simp (
      c.end_at-home.ensures,
      c.wide.ensures,
      c.end_at.ensures,
      entry,
    ) in
    sym (one_apart a b (node_at x.aid.now) x.here.now x.v i (omega arith) (omega arith) (sym here ∙ c.if-differ.true))

pub loop-e-preserved : goal.loop-e-preserved
loop-e-preserved c =
    let x = c.args in
    let a = point_at x.ax.now x.ay.now in
    let b = point_at x.bx.now x.by.now in
    let i = c.loop-e.e-index + 1 in
    let entry : c.wide-in-loop-e.result ≡ get_or x.here.now i 0 = grind (arith, common_steps) in
    let here : c.differ.result ≡ apart a b (node_at x.aid.now) x.v (get_or x.here.now 0 0) (get_or x.here.now i 0) = c.differ.ensures ∙ simp (
      c.end_at-home.ensures,
      c.wide.ensures,
      c.end_at.ensures,
      entry,
    ) in
    below_more _ _ c.loop-e.invariant (sym here ∙ c.if-differ.false)

pub returns : goal.returns
returns c =
    let x = c.args in
    sym (none_apart (point_at x.ax.now x.ay.now) (point_at x.bx.now x.by.now) (node_at x.aid.now) x.here.now x.v
    (λ k l. c.loop-e.invariant k (omega arith)))
