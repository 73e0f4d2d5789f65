-- What each public function promises, written once: its contract names it, and any two outcomes that it allows are equal.
use Rattle.std.specs.Prelude.{ℕ, ◌≡◌, Bool, List, Option, Result}
use Rattle.laws.specs.Unique.{Determines, by_equation}
use Rattle.format_records.specs.Records.{step_at, settings_right}
use Rattle.format_records.specs.declared.Run.{Run}
use Rattle.turn.specs.declared.Refusal.{Refusal}

abbrev pub SettingsRightSays : List ℕ → Bool → Type 0
SettingsRightSays s r = r ≡ settings_right s

pub settings_right_once : (s : List ℕ) → Determines (SettingsRightSays s)
settings_right_once s = by_equation (settings_right s)

abbrev pub StepAtSays : ℕ → List ℕ → Run → Result (Option Run) Refusal → Type 0
StepAtSays kind s r n = n ≡ step_at kind s r

pub step_at_once : (kind : ℕ) (s : List ℕ) (r : Run) → Determines (StepAtSays kind s r)
step_at_once kind s r = by_equation (step_at kind s r)
