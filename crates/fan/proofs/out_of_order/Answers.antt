-- `fan::out_of_order` meets its contract; the invariant: no entry of an earlier pair stands later than the one after it.
use native.Mathlib.Omega.{arith}
use Rattle.std.proofs.Common.{ℕ, ◌+◌, ◌-◌, ◌≡◌, sym, ap₂, ◌∙◌, length, get_or, rules, add-zero, below_more}
use Rattle.std.proofs.lemmas.Iterator.{window_more}
use Rattle.std.specs.Slice.Iter.{windows_rest}
use Rattle.laws.specs.Lowest.{some_yes, some_no}
use Rattle.fan.specs.Orders.{stands_later}
use Rattle.fan.proofs.out_of_order.Invariants.{test}
use Rattle.fan.proofs.out_of_order.Goals as goal

pub returns-then-stands_later : goal.returns-then-stands_later
returns-then-stands_later c =
    let x = c.args in
    let h = window_more x.list.now c.loop-p.p-iterator c.next.new.self _ _ c.in-Some.is c.next.ensures.steps (search rules) (search rules) (search rules) in
    let i : ℕ = length x.list.now - length (windows_rest c.loop-p.p-iterator) in
    let first : get_or c.in-Some.p.now 0 0 ≡ get_or x.list.now i 0 = rw add-zero at (h.3 0 0 (omega arith)) in
    let second : get_or c.in-Some.p.now 1 0 ≡ get_or x.list.now (i + 1) 0 = h.3 1 0 (omega arith) in
    let said : c.stands_later.result ≡ test x.ax.now x.ay.now x.bx.now x.by.now x.aid.now x.v x.list.now i =
    c.stands_later.ensures
    ∙ ap₂ (stands_later x.ax.now x.ay.now x.bx.now x.by.now x.aid.now x.v) (c.wide.ensures ∙ first) (c.wide-in-loop-p.ensures ∙ second) in
    sym (some_yes (test x.ax.now x.ay.now x.bx.now x.by.now x.aid.now x.v x.list.now) (length x.list.now - 1) i (omega arith)
    c.loop-p.invariant.3 (sym said ∙ c.if-stands_later.true))

pub loop-p-preserved : goal.loop-p-preserved
loop-p-preserved c =
    let x = c.args in
    let h = window_more x.list.now c.loop-p.p-iterator c.next.new.self _ _ c.in-Some.is c.next.ensures.steps (search rules) (search rules) (search rules) in
    let i : ℕ = length x.list.now - length (windows_rest c.loop-p.p-iterator) in
    let first : get_or c.in-Some.p.now 0 0 ≡ get_or x.list.now i 0 = rw add-zero at (h.3 0 0 (omega arith)) in
    let second : get_or c.in-Some.p.now 1 0 ≡ get_or x.list.now (i + 1) 0 = h.3 1 0 (omega arith) in
    let said : c.stands_later.result ≡ test x.ax.now x.ay.now x.bx.now x.by.now x.aid.now x.v x.list.now i =
    c.stands_later.ensures
    ∙ ap₂ (stands_later x.ax.now x.ay.now x.bx.now x.by.now x.aid.now x.v) (c.wide.ensures ∙ first) (c.wide-in-loop-p.ensures ∙ second) in
    let next : length x.list.now - length (windows_rest c.next.new.self) ≡ i + 1 = omega (arith, h.0) in
    (search rules, search rules, h.1, rw next (below_more _ _ c.loop-p.invariant.3 (sym said ∙ c.if-stands_later.false)))

pub returns : goal.returns
returns c =
    let x = c.args in
    sym (some_no (test x.ax.now x.ay.now x.bx.now x.by.now x.aid.now x.v x.list.now) (length x.list.now - 1)
    (λ k h. c.loop-p.invariant.3 k (omega (arith, c.in-None.ensures.steps))))
