-- A list read round from one of its elements: what follows it, then what stands before it.
-- The first and the last unvisited link of a list.
use Rattle.std.specs.Prelude.{ℕ, ◌≡◌, Bool, true, false, List}
use Rattle.std.proofs.Common.{⊎_elim}
use mathlib.Core.List.Memᴰ
use Rattle.next.specs.Choice.{Mem}
use Rattle.rings.specs.Sorted.{of_reverse, in_reverse}
use Rattle.rings.specs.Rotation.{after, ahead, of_after, of_ahead, onward, parted, round_from}

pub of_onward : {x : ℕ} (e : ℕ) (l : List ℕ) → Mem x (onward e l) → Mem x l
of_onward e l m = ⊎_elim (of_after e l) (of_ahead e l) (Memᴰ.append_cases (after e l) m)

pub of_round : {x : ℕ} (sense : Bool) (e : ℕ) (l : List ℕ) → Mem x (round_from sense e l) → Mem x l
of_round false e l m = of_onward e l m
of_round true e l m = of_onward e l (of_reverse (onward e l) m)

in_onward : {x : ℕ} (e : ℕ) (l : List ℕ) → Mem x l → (x ≡ e → ⊥) → Mem x (onward e l)
in_onward e l m d = ⊎_elim (Memᴰ.append_right (after e l)) (Memᴰ.append_left (ahead e l)) (parted e l m d)

pub in_round : {x : ℕ} (sense : Bool) (e : ℕ) (l : List ℕ) → Mem x l → (x ≡ e → ⊥) → Mem x (round_from sense e l)
in_round false e l m d = in_onward e l m d
in_round true e l m d = in_reverse (onward e l) (in_onward e l m d)
