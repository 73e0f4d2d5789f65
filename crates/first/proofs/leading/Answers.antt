-- `first::leading` meets its contract: what `lead` holds decides, else the turn.
use mathlib.Core.Path.{sym, ◌∙◌}
use mathlib.Core.Bool.{Bool}
use Rattle.turn.specs.Points.{clockwise}
use Rattle.graph.specs.Graph.{point_at}
use Rattle.first.proofs.Answers.{leads_k, leads_e, turns_e, turns_k}
use Rattle.first.proofs.leading.Goals as goal

pub returns-then-held-eq1 : goal.returns-then-held-eq1
returns-then-held-eq1 c =
    let turns : Bool = let a = c.args in
    clockwise (point_at a.ax.now a.ay.now a.e) (point_at a.bx.now a.by.now a.e) (point_at a.bx.now a.by.now a.k) in
    let a = c.args in leads_k a.held turns a.k a.e c.if-held-eq1.true

pub returns-then-held-eq2 : goal.returns-then-held-eq2
returns-then-held-eq2 c =
    let turns : Bool = let a = c.args in
    clockwise (point_at a.ax.now a.ay.now a.e) (point_at a.bx.now a.by.now a.e) (point_at a.bx.now a.by.now a.k) in
    let a = c.args in leads_e a.held turns a.k a.e c.if-held-eq1.false c.if-held-eq2.true

pub clockwise-requires : goal.clockwise-requires
clockwise-requires c =
    let s = c in let a = s.args in (
      rw c.point_at-a.ensures (s.requires.0.a_grid a.e s.requires.2),
      rw c.point_at-b.ensures (s.requires.0.b_grid a.e s.requires.2),
      rw c.point_at-c.ensures (s.requires.0.b_grid a.k s.requires.1),
    )

pub returns-then-clockwise : goal.returns-then-clockwise
returns-then-clockwise c =
    let turns : Bool = let a = c.args in
    clockwise (point_at a.ax.now a.ay.now a.e) (point_at a.bx.now a.by.now a.e) (point_at a.bx.now a.by.now a.k) in
    let d = c in let f = c in let a = f.args in
    let e = rw (
      d.point_at-a.ensures,
      d.point_at-b.ensures,
      d.point_at-c.ensures,
    ) at (sym c.clockwise.ensures ∙ c.if-clockwise.true) in
    turns_e a.held turns a.k a.e f.if-held-eq1.false f.if-held-eq2.false e

pub returns : goal.returns
returns c =
    let turns : Bool = let a = c.args in
    clockwise (point_at a.ax.now a.ay.now a.e) (point_at a.bx.now a.by.now a.e) (point_at a.bx.now a.by.now a.k) in
    let d = c in let f = c in let a = f.args in
    let e = rw (
      d.point_at-a.ensures,
      d.point_at-b.ensures,
      d.point_at-c.ensures,
    ) at (sym c.clockwise.ensures ∙ c.if-clockwise.false) in
    turns_k a.held turns a.k a.e f.if-held-eq1.false f.if-held-eq2.false e
