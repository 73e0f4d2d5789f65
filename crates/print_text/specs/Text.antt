-- Text as the list of its bytes.
use Rattle.std.specs.Prelude.{ℕ, List, [], ◌∷◌}
use Prim.Native.Char.{code}
use Prim.Native.String.{String, [] as none, ◌∷◌ as ◌then◌}

-- the bytes of a text of ASCII characters
abbrev pub text : String → List ℕ
text none = []
text (c then s) = code c ∷ text s
