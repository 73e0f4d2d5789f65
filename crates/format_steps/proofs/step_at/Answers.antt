-- `format_steps::step_at` meets its contract.
use mathlib.Core.Path.{sym, ◌∙◌}
use native.Mathlib.Omega.{arith}
use Rattle.format_records.specs.Steps.{step_cut, step_kind, read_head, read_body, read_next}
use Rattle.format_steps.proofs.step_at.Goals as goal

pub returns-then-s-at-lt6 : goal.returns-then-s-at-lt6
returns-then-s-at-lt6 c = sym (step_cut _ _ _ (omega arith))

pub returns-then-u16_at-kind : goal.returns-then-u16_at-kind
returns-then-u16_at-kind c = sym (step_kind _ _ _ (omega arith) (λ e. c.if-u16_at-kind.true (c.u16_at.ensures.0 ∙ e)))

pub returns-in-Some : goal.returns-in-Some
returns-in-Some c =
    let s = c in
    let a = s.args in
    read_head a.kind a.s.now a.r c.u32_at-len.result c.head_number.result (omega arith)
    (sym c.u16_at.ensures.0 ∙ c.if-u16_at-kind.false)
    c.u32_at-len.ensures
    c.head_number.ensures
    c.in-Some.reason (record { reason = c.in-Some.reason; place = c.refused.result.place }) c.in-Some.is
    (simp (c.refused.ensures, c.number.ensures))

pub returns-then-s-body : goal.returns-then-s-body
returns-then-s-body c =
    let s = c in
    let a = s.args in
    read_body a.kind a.s.now a.r c.u32_at-len.result c.head_number.result (omega arith)
    (sym c.u16_at.ensures.0 ∙ c.if-u16_at-kind.false)
    c.u32_at-len.ensures
    c.head_number.ensures
    c.in_default.is (omega arith)

pub returns : goal.returns
returns c =
    let s = c in
    let a = s.args in
    read_next a.kind a.s.now a.r c.u32_at-len.result c.head_number.result (omega arith)
    (sym c.u16_at.ensures.0 ∙ c.if-u16_at-kind.false)
    c.u32_at-len.ensures
    c.head_number.ensures
    c.in_default.is (omega arith)
