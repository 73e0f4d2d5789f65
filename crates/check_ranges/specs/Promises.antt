-- What each public function promises, written once: its contract names it, and any two outcomes that it allows are equal.
use Rattle.std.specs.Prelude.{ℕ, ◌≡◌, Bool}
use Rattle.laws.specs.Unique.{Determines, by_equation}
use Rattle.table.specs.TableChecks.{misfit, range_fault}

abbrev pub MisfitSays : (points first len kind owners : ℕ) → Bool → Type 0
MisfitSays points first len kind owners r = r ≡ misfit points first len kind owners

pub misfit_once : (points first len kind owners : ℕ) → Determines (MisfitSays points first len kind owners)
misfit_once points first len kind owners = by_equation (misfit points first len kind owners)

abbrev pub RangeFaultSays : (count start first len kind : ℕ) → Bool → Type 0
RangeFaultSays count start first len kind r = r ≡ range_fault count start first len kind

pub range_fault_once : (count start first len kind : ℕ) → Determines (RangeFaultSays count start first len kind)
range_fault_once count start first len kind = by_equation (range_fault count start first len kind)
