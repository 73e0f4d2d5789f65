-- What the public function promises, written once: its contract names it, and any two outcomes that it allows are equal.
use Rattle.std.specs.Prelude.{List, ◌≡◌, refl, ℕ, Result, Ok, Err}
use Rattle.std.proofs.Common.{sym, ◌∙◌}
use Rattle.graph.specs.Graph.{Lent}
use Rattle.graph.specs.Checks.{checked}
use Rattle.check_graph.specs.declared.Room.{Room}
use Rattle.check_graph.specs.declared.Looked.{Looked}
use Rattle.check_graph.specs.declared.Looked.TheVariants.{Right, Wide}
use Rattle.check_graph.specs.Rooms.{room_of}
use Rattle.check_graph.specs.Looks.{looked_as, Looks}
use Rattle.turn.specs.Refusals.{Checked}
use Rattle.turn.specs.declared.Refusal.{Refusal}

-- the answer; of the field of ends see `AllLaid`
abbrev pub CheckGraphSays : Lent → List ℕ → List ℕ → Room → ℕ → Result Looked Refusal → Type 0
CheckGraphSays g top state room most r = Looks g state most (checked g top state (room_of room)) r

says_one : (g : Lent) (state : List ℕ) (most : ℕ) (said : Checked) (r : Result Looked Refusal) → Looks g state most said r
    → (r ≡ Ok Wide → ⊥) → r ≡ looked_as said
says_one g state most said (Ok Right) p n = rw p
says_one g state most said (Err r) p n = rw p
says_one g state most said (Ok Wide) p n = absurd (n refl)

-- two answers, where they do not stop
pub check_graph_once : (g : Lent) (top state : List ℕ) (room : Room) (most : ℕ) (r s : Result Looked Refusal) → CheckGraphSays g top state room most r
    → CheckGraphSays g top state room most s → (r ≡ Ok Wide → ⊥) → (s ≡ Ok Wide → ⊥) → r ≡ s
check_graph_once g top state room most r s p q m n =
    let said = checked g top state (room_of room) in
    says_one g state most said r p m ∙ sym (says_one g state most said s q n)
