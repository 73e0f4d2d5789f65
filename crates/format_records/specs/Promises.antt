-- What each public function promises, written once: its contract names it, and any two outcomes that it allows are equal.
use Rattle.std.specs.Prelude.{ℕ, ◌≡◌, Option}
use Rattle.laws.specs.Unique.{Determines, by_equation}
use Rattle.format_records.specs.Records.{head_number, numbered_refusal}
use Rattle.turn.specs.declared.Reason.{Reason}
use Rattle.turn.specs.declared.NumberedRefusal.{NumberedRefusal}

abbrev pub HeadNumberSays : (kind count size len : ℕ) → Option Reason → Type 0
HeadNumberSays kind count size len r = r ≡ head_number kind count size len

pub head_number_once : (kind count size len : ℕ) → Determines (HeadNumberSays kind count size len)
head_number_once kind count size len = by_equation (head_number kind count size len)

abbrev pub RefusedSays : (number at : ℕ) → NumberedRefusal → Type 0
RefusedSays number at r = r ≡ numbered_refusal number at

pub refused_once : (number at : ℕ) → Determines (RefusedSays number at)
refused_once number at = by_equation (numbered_refusal number at)
