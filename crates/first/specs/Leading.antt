-- Rule 1 as the code reads it off the field of ends: which of a `Bridge`'s two links is named, and what is needed of what was named before.
use Rattle.std.specs.Prelude.{ℕ, ◌*◌, ◌≤◌, Bool, List, eqb, ℤ, length, get_or, Option}
use Rattle.std.specs.Option.{ForSome}
use Rattle.laws.specs.Test.{pick}
use Rattle.graph.specs.Graph.{Graph}
use Rattle.rings.specs.Ends.{a_end}
use Rattle.rings.specs.Field.{cross_mark, Begun}
use Rattle.rings.specs.Descent.{Descends}

-- of k and the other entry e, by what `lead` holds at k, and by whether e and k turn clockwise
abbrev pub leading : ℕ → Bool → ℕ → ℕ → ℕ
leading held clockwise k e = pick (eqb held 1) k (pick (eqb held 2) e (pick clockwise e k))

-- no link is held, or rule 1 at link k, if that is at a `Cross`, goes down from it
abbrev pub Resumes : Graph → (nxt prv st : List ℕ) → (k : ℕ) → (held : Option ℕ) → Type 0
Resumes g nxt prv st k held = ForSome held (λ h. cross_mark ≤ get_or nxt (a_end k) 0 → Descends g prv st k h)

-- what rule 1 needs, asked at link k where held is what it named there before, if anything: there is such a graph
pub record Asked (ax ay bx by : List ℤ) (nxt prv lead st : List ℕ) (k : ℕ) (held : Option ℕ) : Type 0 where
  pub begun : Begun ax ay bx by nxt lead st
  pub prv_long : 2 * length st ≤ length prv
  pub resumes : Resumes begun.graph nxt prv st k held
