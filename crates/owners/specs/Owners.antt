-- The owner of every contour.
use Rattle.std.specs.Prelude.{ℕ, ◌-◌, Bool, true, List, [], ◌∷◌, get_or, set, take, replicate, eqb}
use Rattle.laws.specs.Test.{pick}
use Rattle.laws.specs.Lists.{tabulate}
use Rattle.table.specs.Table.{Table, contour_count, hulls, hull_count, dropped_owner}
use Rattle.anchor.specs.Anchor.{anchor_edge}
use Rattle.nearest.specs.Search.{search_under}
use Rattle.order.specs.HoleOrder.{binding_order}
use Rattle.turn.specs.Refusals.{Checked, refused, no_fault, number_of, place_of}
use Rattle.turn.specs.declared.Reason.TheVariants.{NoParent}

-- every contour gives edges, with fill above
abbrev pub every_contour : ℕ → Bool
every_contour c = true

abbrev pub with_fill_above : Bool
with_fill_above = true

-- the contour of the nearest edge under hole c's anchor, and 1; 0 where no edge lies under
abbrev pub contour_below : Table → Bool → ℕ → ℕ
contour_below t cw c = search_under t with_fill_above cw every_contour (anchor_edge t cw c)

-- ---- two hulls or more
-- "A hull's owner is its own number", and a hole has no parent yet: 65,535, which is no shape's number
abbrev pub first_owner : List ℕ → ℕ → ℕ
first_owner kinds c = pick (eqb (get_or kinds c 0) 0) (hulls (take c kinds)) dropped_owner

-- owners, with all holes' parents found or the contour of the first hole that finds none; with document 01's number and place for each answer: 0 where every
-- hole has its owner, 12 at the hole that finds none
pub record Owned : Type 0 where
  pub answer : Checked
  pub number : ℕ
  pub place : ℕ
  pub owners : List ℕ

abbrev pub owned : Checked → List ℕ → Owned
owned g l = record { answer = g; number = number_of g; place = place_of g; owners = l }

-- what the nearest edge's contour gives: "A hull gives its own shape number (hulls counted from 0); a hole gives its parent's", where it has one
abbrev pub given : (under : ℕ) → List ℕ → ℕ
given under owners = pick (eqb under 0) dropped_owner (get_or owners (under - 1) 0)

-- hole by hole, in binding's order: 12 where "no edge lies under a hole's anchor, or the nearest belongs to a hole with no parent yet"
unfoldable pub give_each : (ℕ → ℕ) → List ℕ → List ℕ → Owned
give_each under [] owners = owned no_fault owners
give_each under (c ∷ l) owners =
    let parent = given (under c) owners in
    let rest = give_each under l (set owners c parent) in
    pick (eqb parent dropped_owner) (owned (refused NoParent c) owners) rest

abbrev pub searched_owners : Table → Bool → Owned
searched_owners t cw = give_each (contour_below t cw) (binding_order t cw) (tabulate (first_owner t.kind) (contour_count t))

-- ---- the owners of every contour
-- "With no hulls, holes are dropped and counted. With one hull, every hole gets it without a search."
unfoldable pub owners_of : Table → Bool → Owned
owners_of t cw =
    let searched = searched_owners t cw in
    pick (eqb (hull_count t) 0) (owned no_fault (replicate (contour_count t) dropped_owner))
    (pick (eqb (hull_count t) 1) (owned no_fault (replicate (contour_count t) 0)) searched)
