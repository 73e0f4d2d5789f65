-- What the functions of the scan promise each other: what one walk of the scan, and the whole scan, leave in the lent buffers.
use Rattle.std.specs.Prelude.{ℕ, ◌≡◌, Bool, List, ℤ, Option, Some, None, Result, Ok, Err}
use Rattle.graph.specs.Graph.{Graph}
use Rattle.contour.specs.Notes.{WalkNoted}
use Rattle.scan.specs.Scan.{walk_of, Scanned, stopped, walks}
use Rattle.keep.specs.Tables.{Tables, all_noted, Within}
use Rattle.turn.specs.Refusals.{refused}
use Rattle.turn.specs.declared.Reason.TheVariants.{NoNextLink}
use Rattle.turn.specs.declared.Reason.{Reason}
use Rattle.turn.specs.declared.Refusal.{Refusal}
use Rattle.keep.specs.declared.Counts.{Counts}
use Rattle.contour.specs.declared.Entered.{Entered}

-- what one walk of the scan leaves, from the link that rule 1 names
abbrev pub FirstNoted : Graph → Bool → ℕ → Tables → List ℕ → Option ℕ → Result Entered Reason → List ℕ → List ℤ → List ℕ → List ℕ → List ℕ → Type 0
FirstNoted g cw minimum t st None r st' pts' first' len' kind' = r ≡ Err NoNextLink
FirstNoted g cw minimum t st (Some s) r st' pts' first' len' kind' = WalkNoted g minimum t (g.top s) s (walk_of g cw st s) r st' pts' first' len' kind'

-- what the scan's counts stay within
abbrev pub Ends : ℕ → Result Counts Refusal → Type 0
Ends n (Err r) = Unit
Ends n (Ok c) = Within n 0 c

-- what the scan leaves: where a walk is refused only reason and place count
abbrev pub ScanLeaves : Graph → ℕ → Tables → Scanned → Result Counts Refusal → List ℕ → List ℤ → List ℕ → List ℕ → List ℕ → Type 0
ScanLeaves g minimum t (stopped reason place) r st' pts' first' len' kind' = r ≡ refused reason place
ScanLeaves g minimum t (walks ws st) r st' pts' first' len' kind' =
    (r ≡ Ok (all_noted g minimum t ws).counts) × (st' ≡ st) × (pts' ≡ (all_noted g minimum t ws).points)
    × (first' ≡ (all_noted g minimum t ws).first) × (len' ≡ (all_noted g minimum t ws).len) × (kind' ≡ (all_noted g minimum t ws).kind)
