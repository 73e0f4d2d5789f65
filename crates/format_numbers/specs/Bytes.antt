-- Numbers as bytes, "all little-endian": from index i of a list of bytes.
use Rattle.std.specs.Prelude.{ℕ, zero, suc, ◌+◌, ◌-◌, ◌*◌, ◌≡◌, refl, List, [], ◌∷◌, ltb, ℤ, pos, negsuc, length, get_or}
use Rattle.std.proofs.Common.{ap}
use Rattle.laws.specs.Test.{pick}

unfoldable pub u16_at : List ℕ → ℕ → ℕ
u16_at s i = get_or s i 0 + 256 * get_or s (i + 1) 0

unfoldable pub u32_at : List ℕ → ℕ → ℕ
u32_at s i = u16_at s i + 65536 * u16_at s (i + 2)

unfoldable pub u64_at : List ℕ → ℕ → ℕ
u64_at s i = u32_at s i + 4294967296 * u32_at s (i + 4)

-- a signed 32-bit number of these bits (two's complement): from 2³¹ on they stand for themselves less 2³²
unfoldable pub signed : ℕ → ℤ
signed x = pick (ltb x 2147483648) (pos x) (negsuc (4294967295 - x))

abbrev pub i32_at : List ℕ → ℕ → ℤ
i32_at s i = signed (u32_at s i)

-- n values of a reader of bytes, from index i on at every d-th
unfoldable pub every : {A : Type 0} → (ℕ → A) → ℕ → ℕ → ℕ → List A
every f d i zero = []
every f d i (suc n) = f i ∷ every f d (i + d) n

pub length_every : {A : Type 0} (f : ℕ → A) (d i n : ℕ) → length (every f d i n) ≡ n
unfolding every
length_every f d i zero = refl
length_every f d i (suc n) = ap suc (length_every f d (i + d) n)
