-- What each public function promises, written once: its contract names it, and any two outcomes that it allows are equal.
use Rattle.std.specs.Prelude.{List, ◌≡◌, ℕ, eqb, get_or}
use Rattle.laws.specs.Test.{pick}
use Rattle.laws.specs.Unique.{Determines, by_equation}
use Rattle.rings.specs.Ends.{a_end, b_end, far}

abbrev pub FarSays : ℕ → ℕ → Type 0
FarSays h r = r ≡ far h

pub far_once : (h : ℕ) → Determines (FarSays h)
far_once h = by_equation (far h)

abbrev pub EndOfSays : List ℕ → ℕ → ℕ → ℕ → Type 0
EndOfSays a_id v k r = r ≡ pick (eqb (get_or a_id k 0) v) (a_end k) (b_end k)

pub end_of_once : (a_id : List ℕ) (v k : ℕ) → Determines (EndOfSays a_id v k)
end_of_once a_id v k = by_equation (pick (eqb (get_or a_id k 0) v) (a_end k) (b_end k))
