-- A walk of the scan, as the code notes it, from the first link that rule 1 names.
use Rattle.std.specs.Prelude.{Option, Some, None, Result, Err}
use Prim.Native.Nat.{ℕ}
use mathlib.Core.Path.{◌≡◌, sym, subst}
use mathlib.Core.Bool.{Bool, not, beq}
use mathlib.Core.List.{List}
use lib.IntN.{ℤ}
use Rattle.graph.specs.Graph.{Graph}
use Rattle.contour.specs.Notes.{WalkNoted}
use Rattle.keep.specs.Tables.{Tables}
use Rattle.walk.specs.Walk.{walk_from, mark_of}
use Rattle.scan.specs.Notes.{FirstNoted}
use Rattle.turn.specs.declared.Reason.TheVariants.{NoNextLink}
use Rattle.turn.specs.declared.Reason.{Reason}
use Rattle.contour.specs.declared.Entered.{Entered}

module _ (g : Graph) (cw : Bool) (minimum : ℕ) (t : Tables) (st : List ℕ) (n : Option ℕ) (r : Result Entered Reason) (st' : List ℕ) (pts' : List ℤ)
    (first len kind : List ℕ) where
  pub first_nothing : None ≡ n → r ≡ Err NoNextLink → FirstNoted g cw minimum t st n r st' pts' first len kind
  first_nothing e q = subst (λ x. FirstNoted g cw minimum t st x r st' pts' first len kind) e q

  -- whose top says that it is a hole's
  pub first_link_lem : (s : ℕ) (hole : Bool) → Some s ≡ n → g.top s ≡ hole
      → WalkNoted g minimum t hole s (walk_from g (not (beq hole cw)) (beq hole cw) (mark_of hole) st s) r st' pts' first len kind
      → FirstNoted g cw minimum t st n r st' pts' first len kind
  first_link_lem s hole e h i =
      subst (λ x. FirstNoted g cw minimum t st x r st' pts' first len kind) e
      (subst (λ b. WalkNoted g minimum t b s (walk_from g (not (beq b cw)) (beq b cw) (mark_of b) st s) r st' pts' first len kind) (sym h) i)
