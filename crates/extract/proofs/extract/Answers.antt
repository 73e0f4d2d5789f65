-- `extract::extract` meets its contract: its arrays are long enough for few links, or for any number that passes check 1, and zero.
use native.Mathlib.Omega.{arith}
use Rattle.extract.proofs.Arrays.{unled}
use Rattle.extract.proofs.extract.Goals as goal

pub extract_in-requires : goal.extract_in-requires
extract_in-requires c = (λ few. record { nxt_room = omega arith; prv_room = omega arith; lead_room = omega arith }, unled 128)

pub extract_in-requires-2 : goal.extract_in-requires-2
extract_in-requires-2 c = (λ few. record { nxt_room = omega arith; prv_room = omega arith; lead_room = omega arith }, unled 4096)
