-- What the checks say of the copy, and leave of it, they say of the list.
use Rattle.std.specs.Prelude.{Result, Ok}
use Prim.Native.Nat.{ℕ, ◌≤◌}
use mathlib.Core.Path.{◌≡◌, sym, ◌∙◌}
use mathlib.Core.Bool.{false}
use mathlib.Core.List.{List}
use lib.IntN.{ℤ}
use lib.ListN.{length}
use Rattle.turn.specs.Refusals.{tells, Checked, no_fault}
use Rattle.graph.specs.Graph.{Lent, lent}
use Rattle.graph.specs.Checks.{checked}
use Rattle.rings.specs.Field.{AllLaid}
use Rattle.fan.specs.Arranged.{Arranged}
use Rattle.fan.specs.Rechecked.{checked_again}
use Rattle.fan.specs.Relaid.{all_laid_again}
use Rattle.check_graph.specs.declared.Room.{Room}
use Rattle.check_graph.specs.declared.Looked.{Looked}
use Rattle.check_graph.specs.declared.Looked.TheVariants.{Right}
use Rattle.check_graph.specs.Rooms.{room_of}
use Rattle.check_graph.specs.Looks.{Countable, Looks}
use Rattle.check_any.specs.Says.{is_wide, said_of, said_is, never_wide, fine_right}
use Rattle.check_any.specs.Promises.{Checks}
use Rattle.turn.specs.declared.Refusal.{Refusal}

module _ (ax ay bx by : List ℤ) (a_id b_id start list top state nxt prv lead : List ℕ) (room : Room) (most : ℕ) (r : Result Looked Refusal) (c : Checked)
    (is : c ≡ said_of r) where
  abbrev listed : Lent
  listed = lent ax ay bx by a_id b_id start list

  abbrev copied : List ℕ → Lent
  copied copy = lent ax ay bx by a_id b_id start copy

  -- of the list itself, where they did not stop
  pub as_said : Looks listed state most (checked listed top state (room_of room)) r → is_wide r ≡ false → (r ≡ Ok Right → AllLaid listed state nxt prv lead)
      → (Checks listed top state room c) × (c ≡ no_fault → AllLaid listed state nxt prv lead)
  as_said p w laid =
      (tells (is ∙ said_is listed state most (checked listed top state (room_of room)) r p w), λ e. laid (fine_right r (sym is ∙ e) w))

  pub as_listed : (copy : List ℕ) → Countable listed state → Arranged start list copy
      → Looks (copied copy) state most (checked (copied copy) top state (room_of room)) r
      → length copy ≤ most → (r ≡ Ok Right → AllLaid (copied copy) state nxt prv lead)
      → (Checks listed top state room c) × (c ≡ no_fault → AllLaid listed state nxt prv lead)
  as_listed copy known a p h laid =
      let said = checked (copied copy) top state (room_of room) in
      let w = never_wide (copied copy) state most said r p h in (
        tells (is ∙ said_is (copied copy) state most said r p w ∙ checked_again ax ay bx by a_id b_id start list copy state a known.links.ids top
            (room_of room)),
        λ e. all_laid_again ax ay bx by a_id b_id start list copy state nxt prv lead a (laid (fine_right r (sym is ∙ e) w)),
      )
