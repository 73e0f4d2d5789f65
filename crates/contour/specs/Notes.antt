-- What a walk that is noted leaves in the lent buffers, and the room that it needs.
use Rattle.std.specs.Prelude.{ℕ, ◌+◌, ◌*◌, ◌≤◌, ◌<◌, ◌≡◌, Bool, List, ℤ, Result, Ok, Err}
use Rattle.std.proofs.Common.{arith, ap}
use Rattle.turn.specs.Limits.{max_links}
use Rattle.graph.specs.Graph.{Graph}
use Rattle.next.specs.Next.{unvisited}
use Rattle.walk.specs.Walk.{Walked, stuck, done}
use Rattle.keep.specs.declared.Counts.{Counts}
use Rattle.keep.specs.Tables.{Tables, noted, Within}
use Rattle.turn.specs.declared.Reason.{Reason}
use Rattle.contour.specs.declared.Entered.{Entered}

-- a walk that is entered: the counts after it, and its first link
abbrev entry : Counts → ℕ → Entered
entry counts first = record { counts = counts; first = first }

abbrev pub entered : Counts → ℕ → Result Entered Reason
entered counts first = Ok (entry counts first)

pub entered_same : (c d : Counts) (s f : ℕ) → entered c s ≡ entered d f → (c ≡ d) × (s ≡ f)
entered_same c d s f e = let q : entry c s ≡ entry d f = cc in (ap (λ (x : Entered). x.counts) q, ap (λ (x : Entered). x.first) q)

-- what one walk of the scan leaves, from link s
abbrev pub WalkNoted : Graph → ℕ → Tables → Bool → ℕ → Walked → Result Entered Reason → List ℕ → List ℤ → List ℕ → List ℕ → List ℕ → Type 0
WalkNoted g minimum t hole s (stuck reason) r st' pts' first' len' kind' = r ≡ Err reason
WalkNoted g minimum t hole s (done l st) r st' pts' first' len' kind' =
    let t' : Tables = noted g minimum t (record { hole = hole; steps = l }) in
    (r ≡ entered t'.counts s) × (st' ≡ st) × (pts' ≡ t'.points) × (first' ≡ t'.first) × (len' ≡ t'.len) × (kind' ≡ t'.kind)

-- a walk of the scan leaves fewer links unvisited
abbrev pub Fewer : ℕ → List ℕ → List ℕ → Result Entered Reason → Type 0
Fewer n st st' (Err reason) = Unit
Fewer n st st' (Ok e) = (unvisited st' < unvisited st) × Within n (unvisited st') e.counts

-- room for the points and the contours of n links
pub record Roomy (n points firsts lens kinds : ℕ) : Type 0 where
  pub few : n ≤ max_links
  pub points_room : n * 2 ≤ points
  pub first_room : n ≤ firsts * 3 + 2
  pub len_room : lens ≡ firsts
  pub kind_room : kinds ≡ firsts

-- ---- counts that stay within limits stay within wider ones
pub within_less : (n m more rest : ℕ) (c : Counts) → Within n more c → rest ≤ more → n ≤ m → Within m rest c
within_less n m more rest c w h k = record {
  links = omega (arith, w.links);
  points = w.points;
  contours = w.contours;
  rejected = w.rejected;
  kept_area = w.kept_area;
  rejected_area = w.rejected_area;
}
