-- `quick_links::any_misplaced` meets its contract; the invariant: so far the answer tells
-- whether a link below k has wrong points.
use Rattle.std.proofs.Common.{◌≡◌, ◌||◌, ◌-◌, length, sym, ap₂, ◌∙◌, arith}
use Rattle.graph.specs.Graph.{point_at}
use Rattle.graph.specs.Checks.{misplaced}
use Rattle.quick_links.specs.Quick.{misplaced_after, first_link_lem, next_link_lem}
use Rattle.quick_links.proofs.any_misplaced.Goals as goal

pub loop-k-init : goal.loop-k-init
loop-k-init c =
    c.misplaced-wrong.ensures ∙ ap₂ misplaced c.point_at.ensures c.point_at-2.ensures
    ∙ sym (first_link_lem (point_at c.args.ax.now c.args.ay.now) (point_at c.args.bx.now c.args.by.now))

pub loop-k-preserved : goal.loop-k-preserved
loop-k-preserved c =
    let x = c.args in
    let k = c.loop-k.k in
    let a = point_at x.ax.now x.ay.now in
    let b = point_at x.bx.now x.by.now in
    let here : c.misplaced_after-wrong.result ≡ misplaced_after (a (k - 1)) (a k) (b k) = c.misplaced_after-wrong.ensures ∙ simp (
      c.point_at-in-loop-k.ensures,
      c.point_at-in-loop-k-2.ensures,
      c.point_at-in-loop-k-3.ensures,
    ) in
    ap₂ ◌||◌ c.loop-k.invariant here ∙ sym (next_link_lem a b _ (omega arith))

pub returns : goal.returns
returns c =
    let e : c.loop-k.k ≡ length c.args.ax.now = omega arith in
    c.loop-k.invariant ∙ rw e
