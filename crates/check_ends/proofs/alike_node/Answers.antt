-- `check_ends::alike_node` meets its contract: the lowest node with two entries alike, over nodes, entries j and
-- entries i below j; each loop has found none so far, and the way out by the label has found one.
use Rattle.std.proofs.Common.{◌≡◌, ℕ, ◌∙◌, Bool, sym, get_or, length, arith, length-take, below_more}
use Rattle.std.proofs.lemmas.Grind.{common_steps}
use Rattle.laws.specs.Lowest.{none_if, found_if, some_no}
use Rattle.graph.specs.Graph.{point_at}
use Rattle.graph.specs.Checks.{node_at, alike}
use Rattle.graph.specs.Known.{Below}
use Rattle.graph.specs.EndLaws.{pair_found, no_pair}
use Rattle.check_ends.proofs.alike_node.Goals as goal

pub alike-requires-clause-e_in_bounds : goal.alike-requires-clause-e_in_bounds
alike-requires-clause-e_in_bounds c =
    let links : Below c.entries-here.result.now (length c.args.aid.now) = rw (← c.entries-here.ensures) at (c.requires.entries c.search.v (omega arith)) in
    let entry : c.wide.result ≡ get_or c.entries-here.result.now c.loop-e.e-index 0 = grind (arith, common_steps) in
    (omega (arith, links c.loop-e.e-index (omega (arith, length-take {A = ℕ}))), omega (arith, links c.loop-j.j (omega arith)))

pub loop-e-preserved : goal.loop-e-preserved
loop-e-preserved c =
    let entry : c.wide.result ≡ get_or c.entries-here.result.now c.loop-e.e-index 0 = grind (arith, common_steps) in (
      c.loop-e.invariant.0,
      below_more _ _ c.loop-e.invariant.1 (rw (c.alike.ensures, entry, c.wide-in-loop-e.ensures) at c.if-alike.false),
    )

pub loop-j-preserved : goal.loop-j-preserved
loop-j-preserved c = (
  c.loop-e.invariant.0,
  below_more _ _ c.loop-j.invariant.1 (some_no _ _ (λ k l. c.loop-e.invariant.1 k (omega (arith, length-take {A = ℕ})))),
)

pub search-preserved : goal.search-preserved
search-preserved c =
    let test : ℕ → ℕ → Bool = λ s t. let x = c.args in
    alike (point_at x.ax.now x.ay.now) (point_at x.bx.now x.by.now) (node_at x.aid.now) x.state.now
    c.search.v (get_or c.entries-here.result.now s 0) (get_or c.entries-here.result.now t 0) in (
      c.loop-j.invariant.0,
      below_more _ _ c.search.invariant.1
          (rw c.entries-here.ensures at (no_pair test (length c.entries-here.result.now)
          (λ k l. c.loop-j.invariant.1 k (omega arith)))),
    )

pub returns-after-search : goal.returns-after-search
returns-after-search c = c.search.invariant.0 ∙ sym (none_if _ _ (λ k l. c.search.invariant.1 k (omega arith)))

pub returns-then-alike : goal.returns-then-alike
returns-then-alike c =
    let test : ℕ → ℕ → Bool = λ s t. let x = c.args in
    alike (point_at x.ax.now x.ay.now) (point_at x.bx.now x.by.now) (node_at x.aid.now) x.state.now
    c.search.v (get_or c.entries-here.result.now s 0) (get_or c.entries-here.result.now t 0) in
    let entry : c.wide.result ≡ get_or c.entries-here.result.now c.loop-e.e-index 0 = grind (arith, common_steps) in
    let pair : test c.loop-e.e-index c.loop-j.j ≡ c.alike.result = sym (c.alike.ensures ∙ simp (entry, c.wide-in-loop-e.ensures)) in
    sym (found_if _ _ _ (omega arith) c.search.invariant.1
    (rw c.entries-here.ensures at
    (pair_found test (length c.entries-here.result.now) c.loop-e.e-index
    c.loop-j.j (omega (arith, length-take {A = ℕ})) (omega arith)
    c.loop-j.invariant.1
    c.loop-e.invariant.1 (pair ∙ c.if-alike.true))))
