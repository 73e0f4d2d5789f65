-- What each public function promises, written once: its contract names it, and any two outcomes that it allows are equal.
use Rattle.std.specs.Prelude.{ℕ, ◌*◌, ◌≤◌, ◌≡◌, Bool, List, ℤ, nat_abs, length, Result}
use Rattle.laws.specs.Unique.{Determines, by_equation, by_equation_with}
use Rattle.turn.specs.declared.Point.{Point}
use Rattle.turn.specs.declared.Vector.{Vector}
use Rattle.turn.specs.Points.{before, differ, outside, off_grid, Short, from_to, cross, turn, clockwise, product_bound}
use Rattle.turn.specs.declared.Reason.{Reason}
use Rattle.turn.specs.declared.Refusal.{Refusal}
use Rattle.turn.specs.declared.NumberedRefusal.{NumberedRefusal}
use Rattle.turn.specs.Refusals.{numbered}
use Rattle.turn.specs.Reasons.{number_of}
use Rattle.turn.specs.Angle.{same_direction}
use Rattle.turn.specs.Area.{wedge, area, points_of, wedge_bound}

abbrev pub BeforeSays : Point → Point → Bool → Type 0
BeforeSays p q r = r ≡ before p q

pub before_once : (p q : Point) → Determines (BeforeSays p q)
before_once p q = by_equation (before p q)

abbrev pub DifferSays : Point → Point → Bool → Type 0
DifferSays p q r = r ≡ differ p q

pub differ_once : (p q : Point) → Determines (DifferSays p q)
differ_once p q = by_equation (differ p q)

abbrev pub OutsideSays : ℤ → Bool → Type 0
OutsideSays z r = r ≡ outside z

pub outside_once : (z : ℤ) → Determines (OutsideSays z)
outside_once z = by_equation (outside z)

abbrev pub OffGridSays : Point → Bool → Type 0
OffGridSays p r = r ≡ off_grid p

pub off_grid_once : (p : Point) → Determines (OffGridSays p)
off_grid_once p = by_equation (off_grid p)

abbrev pub WideSays : ℕ → ℕ → Type 0
WideSays x r = r ≡ x

pub wide_once : (x : ℕ) → Determines (WideSays x)
wide_once x = by_equation x

abbrev pub BetweenSays : Point → Point → Vector → Type 0
BetweenSays p q r = (r ≡ from_to p q) × (Short r)

pub between_once : (p q : Point) → Determines (BetweenSays p q)
between_once p q = by_equation_with (from_to p q) Short

abbrev pub CrossProductSays : Vector → Vector → ℤ → Type 0
CrossProductSays u v r = (r ≡ cross u v) × (nat_abs r ≤ product_bound)

pub cross_product_once : (u v : Vector) → Determines (CrossProductSays u v)
cross_product_once u v = by_equation_with (cross u v) (λ r. nat_abs r ≤ product_bound)

abbrev pub TurnOfSays : Point → Point → Point → ℤ → Type 0
TurnOfSays a b c r = (r ≡ turn a b c) × (nat_abs r ≤ product_bound)

pub turn_of_once : (a b c : Point) → Determines (TurnOfSays a b c)
turn_of_once a b c = by_equation_with (turn a b c) (λ r. nat_abs r ≤ product_bound)

abbrev pub ClockwiseSays : Point → Point → Point → Bool → Type 0
ClockwiseSays a b c r = r ≡ clockwise a b c

pub clockwise_once : (a b c : Point) → Determines (ClockwiseSays a b c)
clockwise_once a b c = by_equation (clockwise a b c)

abbrev pub SameDirectionSays : Vector → Vector → Bool → Type 0
SameDirectionSays u v r = r ≡ same_direction u v

pub same_direction_once : (u v : Vector) → Determines (SameDirectionSays u v)
same_direction_once u v = by_equation (same_direction u v)

abbrev pub WedgeSays : Point → Point → ℤ → Type 0
WedgeSays p q r = (r ≡ wedge p q) × (nat_abs r ≤ wedge_bound)

pub wedge_once : (p q : Point) → Determines (WedgeSays p q)
wedge_once p q = by_equation_with (wedge p q) (λ r. nat_abs r ≤ wedge_bound)

abbrev pub DoubledAreaSays : List ℤ → ℤ → Type 0
DoubledAreaSays points r = (r ≡ area (points_of points)) × (nat_abs r ≤ length points * wedge_bound)

pub doubled_area_once : (points : List ℤ) → Determines (DoubledAreaSays points)
doubled_area_once points = by_equation_with (area (points_of points)) (λ r. nat_abs r ≤ length points * wedge_bound)

abbrev pub AbsoluteSays : ℤ → ℕ → Type 0
AbsoluteSays x r = r ≡ nat_abs x

pub absolute_once : (x : ℤ) → Determines (AbsoluteSays x)
absolute_once x = by_equation (nat_abs x)

abbrev pub NumberSays : Reason → ℕ → Type 0
NumberSays reason r = r ≡ number_of reason

pub number_once : (reason : Reason) → Determines (NumberSays reason)
number_once reason = by_equation (number_of reason)

abbrev pub NumberedSays : {A : Type 0} → Result A Refusal → Result A NumberedRefusal → Type 0
NumberedSays answer r = r ≡ numbered answer

pub numbered_once : {A : Type 0} (answer : Result A Refusal) → Determines (NumberedSays answer)
numbered_once answer = by_equation (numbered answer)
