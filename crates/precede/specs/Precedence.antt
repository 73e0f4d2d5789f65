-- Which of two holes goes first in binding's order.
use Rattle.std.specs.Prelude.{ℕ, Bool, not, ◌&&◌, ◌||◌, ltb, pos}
use Rattle.laws.specs.Compare.{lower}
use Rattle.turn.specs.Points.{before, cross}
use Rattle.anchor.specs.declared.Anchor.{Anchor}
use Rattle.anchor.specs.Anchor.{anchor_way}

-- "holes go by anchor, then by the anchor edge's angle, lowest first, then by number": whether hole c, with the anchor a, goes before hole d, with the anchor b
abbrev pub goes_before : Anchor → Anchor → ℕ → ℕ → Bool
goes_before a b c d =
    before a.at b.at || (not (before b.at a.at)
    && lower (pos 0) (cross (anchor_way a) (anchor_way b)) (ltb c d))
