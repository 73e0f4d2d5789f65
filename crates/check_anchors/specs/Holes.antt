-- A hole that the code holds or has not met yet, as check 11's rule tells it.
use Rattle.std.specs.Prelude.{ℕ, ◌+◌, Option, Some, None}

-- its number and 1; 0 where there is none
abbrev pub number_and_one : Option ℕ → ℕ
number_and_one None = 0
number_and_one (Some c) = c + 1
