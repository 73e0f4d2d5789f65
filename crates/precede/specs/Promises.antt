-- What each public function promises, written once: its contract names it, and any two outcomes that it allows are equal.
use Rattle.std.specs.Prelude.{ℕ, ◌≡◌, Bool}
use Rattle.laws.specs.Unique.{Determines, by_equation}
use Rattle.anchor.specs.declared.Anchor.{Anchor}
use Rattle.precede.specs.Precedence.{goes_before}

abbrev pub GoesBeforeSays : Anchor → Anchor → ℕ → ℕ → Bool → Type 0
GoesBeforeSays a b c d r = r ≡ goes_before a b c d

pub goes_before_once : (a b : Anchor) (c d : ℕ) → Determines (GoesBeforeSays a b c d)
goes_before_once a b c d = by_equation (goes_before a b c d)
