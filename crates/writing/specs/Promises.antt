-- What a writer promises allows one outcome: one answer and one buffer. Every promise above that is a `Wrote` cites this.
use Rattle.std.specs.Prelude.{ℕ, ◌≡◌, List}
use Rattle.std.proofs.Common.{sym, ◌∙◌}
use Rattle.writing.specs.Write.{Wrote}

-- any two buffers and answers that the promise allows are equal
abbrev pub WritesOnce : (List ℕ → ℕ → Type 0) → Type 0
WritesOnce says = (r s : ℕ) (new other : List ℕ) → says new r → says other s → (r ≡ s) × (new ≡ other)

pub wrote_once : (old : List ℕ) (at : ℕ) (t : List ℕ) → WritesOnce (λ new after. Wrote old new at after t)
wrote_once old at t r s new other p q = (p.next ∙ sym q.next, p.bytes ∙ sym q.bytes)
