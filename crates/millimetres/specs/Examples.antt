-- Areas and edges in millimetres, by the bits of their floats: each is the float nearest to the exact number.
use Rattle.std.specs.Prelude.{◌≡◌, refl, [], ◌∷◌, map, ℕ, ℤ, pos, negsuc}
use Rattle.std.specs.Float.{binary64}
use Rattle.std.specs.Float.Ieee.{div, of_int, to_bits}
use Rattle.millimetres.specs.Millimetres.{square_millimetres, millimetres}

abbrev area_bits : ℤ → ℕ
area_bits doubled = to_bits binary64 (square_millimetres doubled)

abbrev edge_bits : ℤ → ℕ
edge_bits units = to_bits binary64 (millimetres units)

-- 0, which is +0.0; E2's square, 0.0016 mm²; E6's triangle, 0.00005; and one as large that runs clockwise
small_areas : map area_bits (pos 0 ∷ pos 32 ∷ pos 1 ∷ negsuc 0 ∷ []) ≡ 0 ∷ 0x3f5a36e2eb1c432d ∷ 0x3f0a36e2eb1c432d ∷ 0xbf0a36e2eb1c432d ∷ []
unfolding to_bits div of_int
small_areas = refl

-- 7 doubled units: divided by 200 and then by 100 it is 0x3f36f0068db8bac8, rounded twice; 2^51, the bound of 4,096 points, and 2^53 - 1
telling_areas : map area_bits (pos 7 ∷ pos 2251799813685248 ∷ pos 9007199254740991 ∷ [])
    ≡ 0x3f36f0068db8bac7 ∷ 0x423a36e2eb1c432d ∷ 0x425a36e2eb1c432c ∷ []
unfolding to_bits div of_int
telling_areas = refl

-- 0, 0.04 mm, and both bounds: 5242.88 and -5242.88
edges : map edge_bits (pos 0 ∷ pos 4 ∷ pos 524288 ∷ negsuc 524287 ∷ []) ≡ 0 ∷ 0x3fa47ae147ae147b ∷ 0x40b47ae147ae147b ∷ 0xc0b47ae147ae147b ∷ []
unfolding to_bits div of_int
edges = refl
