-- The code's test of a cross product against 0 is the rule's.
use mathlib.Core.Path.{◌≡◌, sym, ap, ap₂, ◌∙◌}
use Rattle.laws.specs.Sign.{zer, sgn, eq_s}
use Rattle.turn.specs.declared.Point.{Point}
use Rattle.turn.specs.declared.Vector.{Vector}
use Rattle.turn.specs.Points.{from_to}
use Rattle.straight.specs.Straight.{on_line}
use Rattle.straight.specs.Bends.{turn_by_edges}
use Rattle.straighten.specs.Runs.{level}

-- by the edges at a point, or by the three points
pub by_edges : (u v : Vector) (prev p next : Point) → u ≡ from_to prev p → v ≡ from_to p next → level u v ≡ on_line prev p next
by_edges u v prev p next e k = ap₂ level e k ∙ ap (λ z. eq_s (sgn z) zer) (sym (turn_by_edges prev p next))
