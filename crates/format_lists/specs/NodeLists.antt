-- The starts and the entries of m nodes, whose records stand from an offset on; e entries came before.
use Rattle.std.specs.Prelude.{ℕ, zero, suc, ◌+◌, ◌/◌, ◌%◌, ◌≤◌, List, [], ◌∷◌, ◌++◌, ◌≡◌, length}
use Rattle.format_numbers.specs.Bytes.{u16_at, every}
use Rattle.format_records.specs.Records.{record_end, length_at}

unfoldable pub entries_from : List ℕ → ℕ → ℕ → List ℕ
entries_from s zero at = []
entries_from s (suc m) at = every (u16_at s) 2 (at + 6) (length_at s at / 2) ++ entries_from s m (record_end s at)

unfoldable pub starts_from : List ℕ → ℕ → ℕ → ℕ → List ℕ
starts_from s zero at e = e ∷ []
starts_from s (suc m) at e = e ∷ starts_from s m (record_end s at) (e + length_at s at / 2)

-- they stand within s, and room is enough for their entries
unfoldable pub NodesStand : List ℕ → ℕ → ℕ → ℕ → ℕ → Type 0
NodesStand s room zero at e = e ≤ room
NodesStand s room (suc m) at e =
    (record_end s at ≤ length s) × ((length_at s at % 2 ≡ 0) × ((e + length_at s at / 2 ≤ room) × NodesStand s room m (record_end s at)
    (e + length_at s at / 2)))
