-- Columns of links that are equal one by one.
use mathlib.Core.Path.{◌≡◌}
use mathlib.Core.List.{List}
use Prim.Native.Nat.{ℕ}
use lib.IntN.{ℤ}
use Rattle.format_lists.specs.Columns.{columns}

-- the columns of the links are equal one by one
pub same_columns : {ax ax' ay ay' bx bx' by by' : List ℤ} {a a' b b' t t' s s' : List ℕ}
    → ax ≡ ax' → ay ≡ ay' → bx ≡ bx' → by ≡ by' → a ≡ a' → b ≡ b' → t ≡ t' → s ≡ s'
    → columns ax ay bx by a b t s ≡ columns ax' ay' bx' by' a' b' t' s'
same_columns e1 e2 e3 e4 e5 e6 e7 e8 = rw (e1, e2, e3, e4, e5, e6, e7, e8)
