-- What each public function promises, written once: its contract names it, and any two outcomes that it allows are equal.
use Rattle.std.specs.Prelude.{ℕ, ◌≡◌, List, ℤ, get_or}
use Rattle.laws.specs.Unique.{Determines, by_equation}
use Rattle.writing.specs.Put.{put_at, at_front}
use Rattle.format_numbers.specs.Bytes.{u16_at, i32_at, every}

-- the bytes, where they begin and how many numbers; then the list at entry and at exit
abbrev pub FillI32Says : List ℕ → (from n : ℕ) → List ℤ → List ℤ → Type 0
FillI32Says s from n out out' = out' ≡ at_front (every (i32_at s) 28 from n) out

pub fill_i32_once : (s : List ℕ) (from n : ℕ) (out : List ℤ) → Determines (FillI32Says s from n out)
fill_i32_once s from n out = by_equation (at_front (every (i32_at s) 28 from n) out)

abbrev pub FillU16Says : List ℕ → (from step n : ℕ) → List ℕ → (to : ℕ) → List ℕ → Type 0
FillU16Says s from step n out to out' = out' ≡ put_at out to (every (u16_at s) step from n)

pub fill_u16_once : (s : List ℕ) (from step n : ℕ) (out : List ℕ) (to : ℕ) → Determines (FillU16Says s from step n out to)
fill_u16_once s from step n out to = by_equation (put_at out to (every (u16_at s) step from n))

abbrev pub FillU8Says : List ℕ → (from n : ℕ) → List ℕ → List ℕ → Type 0
FillU8Says s from n out out' = out' ≡ at_front (every (λ (i : ℕ). get_or s i 0) 28 from n) out

pub fill_u8_once : (s : List ℕ) (from n : ℕ) (out : List ℕ) → Determines (FillU8Says s from n out)
fill_u8_once s from n out = by_equation (at_front (every (λ (i : ℕ). get_or s i 0) 28 from n) out)
