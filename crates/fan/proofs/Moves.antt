-- The library's swap keeps the entries of a list.
use Prim.Native.Nat.{ℕ, ◌<◌}
use mathlib.Core.Path.{◌≡◌}
use mathlib.Core.List.{List}
use lib.ListN.{length}
use Rattle.std.specs.List.{swap}
use Rattle.std.proofs.lemmas.List.Edits.{swap_is}
use Rattle.fan.specs.Rearranged.{Rearranged, swapped}

pub swap_moves : {l m : List ℕ} (i j : ℕ) → i < length l → j < length l → m ≡ swap l i j → Rearranged l m
swap_moves {l} i j h k e = rw (e, ← (swap_is l i j 0 h k)) (swapped l i j h k)
