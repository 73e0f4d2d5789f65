-- What each public function promises, written once: its contract names it, and any two outcomes that it allows are equal.
use Rattle.std.specs.Prelude.{ℕ, ◌<◌, ◌≡◌, List, ℤ}
use Rattle.laws.specs.Unique.{Determines, by_equation, by_equation_with}
use Rattle.format_numbers.specs.Bytes.{u16_at, u32_at, u64_at, signed}

abbrev pub U16AtSays : List ℕ → ℕ → ℕ → Type 0
U16AtSays s i r = (r ≡ u16_at s i) × (r < 65536)

pub u16_at_once : (s : List ℕ) (i : ℕ) → Determines (U16AtSays s i)
u16_at_once s i = by_equation_with (u16_at s i) (λ r. r < 65536)

abbrev pub U32AtSays : List ℕ → ℕ → ℕ → Type 0
U32AtSays s i r = r ≡ u32_at s i

pub u32_at_once : (s : List ℕ) (i : ℕ) → Determines (U32AtSays s i)
u32_at_once s i = by_equation (u32_at s i)

abbrev pub U64AtSays : List ℕ → ℕ → ℕ → Type 0
U64AtSays s i r = r ≡ u64_at s i

pub u64_at_once : (s : List ℕ) (i : ℕ) → Determines (U64AtSays s i)
u64_at_once s i = by_equation (u64_at s i)

abbrev pub FromBitsSays : ℕ → ℤ → Type 0
FromBitsSays x r = r ≡ signed x

pub from_bits_once : (x : ℕ) → Determines (FromBitsSays x)
from_bits_once x = by_equation (signed x)
