-- What the checks say where they do not stop.
use Rattle.std.specs.Prelude.{ℕ, ◌≤◌, ◌≡◌, refl, Bool, true, false, List, length, Result, Ok, Err}
use Rattle.std.proofs.Common.{arith, sym, ap}
use Rattle.laws.specs.Test.{true≢false}
use Rattle.turn.specs.Refusals.{is_fine, Checked, no_fault}
use Rattle.graph.specs.Graph.{Lent}
use Rattle.check_graph.specs.declared.Looked.{Looked}
use Rattle.check_graph.specs.declared.Looked.TheVariants.{Right, Wide}
use Rattle.check_graph.specs.Looks.{Countable, Looks}
use Rattle.turn.specs.declared.Refusal.{Refusal}

abbrev pub is_wide : Result Looked Refusal → Bool
is_wide (Ok Right) = false
is_wide (Err r) = false
is_wide (Ok Wide) = true

-- an answer that is none is read as fine: it is never asked for
abbrev pub said_of : Result Looked Refusal → Checked
said_of (Ok Right) = no_fault
said_of (Err r) = Err r
said_of (Ok Wide) = no_fault

pub said_ok : (l : Looked) → said_of (Ok l) ≡ no_fault
said_ok Right = refl
said_ok Wide = refl

module _ (g : Lent) (state : List ℕ) (most : ℕ) (said : Checked) where
  pub said_is : (r : Result Looked Refusal) → Looks g state most said r → is_wide r ≡ false → said_of r ≡ said
  said_is (Ok Right) p e = sym p
  said_is (Err r) p e = sym p
  said_is (Ok Wide) p e = absurd (true≢false refl e)

  -- they stop at no node where the whole list has no more entries than are to be laid
  pub never_wide : (r : Result Looked Refusal) → Looks g state most said r → length g.list ≤ most → is_wide r ≡ false
  never_wide (Ok Right) p h = refl
  never_wide (Err r) p h = refl
  never_wide (Ok Wide) p h = absurd (omega (arith, p.0, h))

  pub wide_countable : (r : Result Looked Refusal) → Looks g state most said r → is_wide r ≡ true → Countable g state
  wide_countable (Ok Right) p e = absurd (true≢false e refl)
  wide_countable (Err r) p e = absurd (true≢false e refl)
  wide_countable (Ok Wide) p e = p.1

pub fine_right : (r : Result Looked Refusal) → said_of r ≡ no_fault → is_wide r ≡ false → r ≡ Ok Right
fine_right (Ok Right) e w = refl
fine_right (Err r) e w = absurd (true≢false (ap is_fine e) refl)
fine_right (Ok Wide) e w = absurd (true≢false refl w)
