-- What each public function promises, written once: its contract names it, and any two outcomes that it allows are equal.
use Rattle.std.specs.Prelude.{ℕ, ◌≡◌, List, ℤ, pos}
use Rattle.laws.specs.Lists.{map_from}
use Rattle.laws.specs.Unique.{Determines, by_equation}
use Rattle.walk.specs.Code.{unmark}

abbrev pub RestoreSays : List ℕ → List ℕ → Type 0
RestoreSays state state' = state' ≡ map_from unmark 0 state

pub restore_once : (state : List ℕ) → Determines (RestoreSays state)
restore_once state = by_equation (map_from unmark 0 state)

-- of elements of any type that has a zero
abbrev pub ZeroFromSays : {A : Type 0} → A → List A → ℕ → List A → Type 0
ZeroFromSays zero s from s' = s' ≡ map_from (λ _. zero) from s

pub zero_from_once : {A : Type 0} (zero : A) (s : List A) (from : ℕ) → Determines (ZeroFromSays zero s from)
zero_from_once zero s from = by_equation (map_from (λ _. zero) from s)

-- at each type that has one: u32, i32 and u8
pub zero_numbers_once : (s : List ℕ) (from : ℕ) → Determines (ZeroFromSays 0 s from)
zero_numbers_once = zero_from_once 0

pub zero_points_once : (s : List ℤ) (from : ℕ) → Determines (ZeroFromSays (pos 0) s from)
zero_points_once = zero_from_once (pos 0)

pub zero_bytes_once : (s : List ℕ) (from : ℕ) → Determines (ZeroFromSays 0 s from)
zero_bytes_once = zero_from_once 0
