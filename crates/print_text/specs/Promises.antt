-- What each public function promises, written once: its contract names it, and any two outcomes that it allows are equal, answer and buffer.
use Rattle.std.specs.Prelude.{ℕ, List, ℤ}
use Rattle.writing.specs.Write.{Wrote}
use Rattle.writing.specs.Promises.{WritesOnce, wrote_once}
use Rattle.print_text.specs.Decimal.{decimal, decimal_z, said}

-- in all of them the buffer before and the position come before the buffer after and the answer
abbrev pub WriteTextSays : List ℕ → List ℕ → ℕ → List ℕ → ℕ → Type 0
WriteTextSays word old at new r = Wrote old new at r word

pub write_text_once : (word old : List ℕ) (at : ℕ) → WritesOnce (WriteTextSays word old at)
write_text_once word old at = wrote_once old at word

abbrev pub WriteDecimalSays : ℕ → List ℕ → ℕ → List ℕ → ℕ → Type 0
WriteDecimalSays n old at new r = Wrote old new at r (decimal n)

pub write_decimal_once : (n : ℕ) (old : List ℕ) (at : ℕ) → WritesOnce (WriteDecimalSays n old at)
write_decimal_once n old at = wrote_once old at (decimal n)

abbrev pub WriteSignedSays : ℤ → List ℕ → ℕ → List ℕ → ℕ → Type 0
WriteSignedSays x old at new r = Wrote old new at r (decimal_z x)

pub write_signed_once : (x : ℤ) (old : List ℕ) (at : ℕ) → WritesOnce (WriteSignedSays x old at)
write_signed_once x old at = wrote_once old at (decimal_z x)

abbrev pub WriteSaidSays : List ℕ → ℕ → List ℕ → ℕ → List ℕ → ℕ → Type 0
WriteSaidSays word n old at new r = Wrote old new at r (said word n)

pub write_said_once : (word : List ℕ) (n : ℕ) (old : List ℕ) (at : ℕ) → WritesOnce (WriteSaidSays word n old at)
write_said_once word n old at = wrote_once old at (said word n)
