-- Document 01's number and values for each answer of extraction.
use Rattle.std.specs.Prelude.{ℕ, Result, Ok, Err}
use Rattle.keep.specs.declared.Counts.{Counts}
use Rattle.keep.specs.Tables.{no_counts}
use Rattle.turn.specs.declared.Refusal.{Refusal}
use Rattle.turn.specs.Reasons.{number_of}

pub record Values : Type 0 where
  pub number : ℕ
  pub place : ℕ
  pub counts : Counts

abbrev pub valued : (number place : ℕ) → Counts → Values
valued number place counts = record { number = number; place = place; counts = counts }

-- number 0 is done; "After any refusal the counts and totals are 0."
abbrev pub values_of : Result Counts Refusal → Values
values_of (Ok counts) = valued 0 0 counts
values_of (Err r) = valued (number_of r.reason) r.place no_counts
