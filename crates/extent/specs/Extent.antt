-- The extent of a run of points: what is the whole number behind each edge of a frame (request d).
use Rattle.std.specs.Prelude.{List, [], ◌∷◌, ℤ, pos}
use Rattle.std.specs.Int.Signed.{lt_z}
use Rattle.laws.specs.Test.{pick}
use Rattle.turn.specs.declared.Point.{Point}
use Rattle.extent.specs.declared.Extent.{Extent}

-- of two numbers the lesser, and the greater
abbrev pub lesser : ℤ → ℤ → ℤ
lesser a b = pick (lt_z b a) b a

abbrev pub greater : ℤ → ℤ → ℤ
greater a b = pick (lt_z a b) b a

-- one point
abbrev pub alone : Point → Extent
alone p = record { left = p.x; bottom = p.y; right = p.x; top = p.y }

-- an extent with one point more, and with more points
abbrev pub spread : Extent → Point → Extent
spread e p = record {
  left = lesser e.left p.x;
  bottom = lesser e.bottom p.y;
  right = greater e.right p.x;
  top = greater e.top p.y;
}

abbrev pub spread_over : Extent → List Point → Extent
spread_over e [] = e
spread_over e (p ∷ l) = spread_over (spread e p) l

-- least x, least y, greatest x, greatest y; all 0 where there is no point
abbrev pub extent_of : List Point → Extent
extent_of [] = record { left = pos 0; bottom = pos 0; right = pos 0; top = pos 0 }
extent_of (p ∷ l) = spread_over (alone p) l
