-- A promise that is an equation determines what it promises: any two outcomes that it allows are equal.
use Rattle.std.specs.Prelude.{◌≡◌}
use Rattle.std.proofs.Common.{sym, ◌∙◌, ap}

-- no two different outcomes meet the promise
abbrev pub Determines : {A : Type 0} → (A → Type 0) → Type 0
Determines {A} promise = (r s : A) → promise r → promise s → r ≡ s

-- an equation with what the definition says, whatever the outcome is (an answer, or a record of the answer and of every lent buffer)
pub by_equation : {A : Type 0} (defined : A) → Determines (λ r. r ≡ defined)
by_equation defined r s p q = p ∙ sym q

-- two outcomes are equal also where the promise tells more of them beside the equation
pub by_equation_with : {A : Type 0} (defined : A) (more : A → Type 0) → Determines (λ r. (r ≡ defined) × more r)
by_equation_with defined more r s p q = p.0 ∙ sym q.0

-- of an outcome of several parts, each part: two outcomes that the promise equates with one definition have the same
pub same_part : {A B : Type 0} (part : A → B) {r s defined : A} → r ≡ defined → s ≡ defined → part r ≡ part s
same_part part p q = ap part (p ∙ sym q)
