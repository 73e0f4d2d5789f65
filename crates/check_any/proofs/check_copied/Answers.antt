-- `check_any::check_copied` meets its contract: what the checks say of the copy they say of the list.
use native.Mathlib.Omega.{arith}
use mathlib.Core.List.{List}
use mathlib.Core.Path.{refl, ap, ◌∙◌, subst}
use Prim.Native.Nat.{ℕ}
use lib.ListN.{length}
use Rattle.std.specs.Prelude.{Result}
use Rattle.std.proofs.lemmas.Result.{err_from_is_err_and}
use Rattle.turn.specs.declared.Refusal.{Refusal}
use Rattle.graph.specs.Graph.{Lent, lent}
use Rattle.rings.specs.Field.{AllLaid}
use Rattle.fan.specs.Arranged.{Arranged}
use Rattle.check_graph.specs.declared.Looked.{Looked}
use Rattle.check_any.specs.Says.{said_of, said_ok}
use Rattle.check_any.specs.Promises.{Checks}
use Rattle.check_any.proofs.Copied.{as_listed}
use Rattle.check_any.proofs.check_copied.Goals as goal

pub returns-in_err-check_graph-clause-fact_2 : goal.returns-in_err-check_graph-clause-fact_2
returns-in_err-check_graph-clause-fact_2 c =
    let x = c.args in
    let o = c.check_graph in
    let g : Lent = lent x.ax.now x.ay.now x.bx.now x.by.now x.aid.now x.bid.now x.start.now x.list.now in
    let w = as_listed x.ax.now x.ay.now x.bx.now x.by.now x.aid.now x.bid.now x.start.now x.list.now x.top.now x.state.now o.new.nxt o.new.prv
    o.new.lead x.room (length {A = ℕ} c.arrange.new.copy) o.result (said_of o.result) refl c.arrange.new.copy c.requires.fact c.arrange.ensures
    o.ensures.fact (omega arith) o.ensures.all_laid in
    let p = err_from_is_err_and c.from_residual.result c.from_residual.ensures.1 in
    rw (p.1, p.2) (subst (λ (r : Result Looked Refusal). Checks g x.top.now x.state.now x.room (said_of r)) c.in_err-check_graph.was w.0)

pub returns-clause-fact_2 : goal.returns-clause-fact_2
returns-clause-fact_2 c =
    let x = c.args in
    let o = c.check_graph in
    let g : Lent = lent x.ax.now x.ay.now x.bx.now x.by.now x.aid.now x.bid.now x.start.now x.list.now in
    let w = as_listed x.ax.now x.ay.now x.bx.now x.by.now x.aid.now x.bid.now x.start.now x.list.now x.top.now x.state.now o.new.nxt o.new.prv
    o.new.lead x.room (length {A = ℕ} c.arrange.new.copy) o.result (said_of o.result) refl c.arrange.new.copy c.requires.fact c.arrange.ensures
    o.ensures.fact (omega arith) o.ensures.all_laid in
    subst (Checks g x.top.now x.state.now x.room) (ap said_of c.in_ok-check_graph.was ∙ said_ok c.in_ok-check_graph.field-0) w.0

pub returns-clause-all_laid : goal.returns-clause-all_laid
returns-clause-all_laid c =
    let x = c.args in
    let o = c.check_graph in
    let w = as_listed x.ax.now x.ay.now x.bx.now x.by.now x.aid.now x.bid.now x.start.now x.list.now x.top.now x.state.now o.new.nxt o.new.prv
    o.new.lead x.room (length {A = ℕ} c.arrange.new.copy) o.result (said_of o.result) refl c.arrange.new.copy c.requires.fact c.arrange.ensures
    o.ensures.fact (omega arith) o.ensures.all_laid in
    λ _. w.1 (ap said_of c.in_ok-check_graph.was ∙ said_ok c.in_ok-check_graph.field-0)
