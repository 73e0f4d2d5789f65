-- What each public function promises, written once: its contract names it, and any two outcomes that it allows are equal.
use Rattle.std.specs.Prelude.{ℕ, List, ◌≡◌, Bool, true, false, ℤ, Result, Ok, Err}
use Rattle.graph.specs.Graph.{Graph, Lent}
use Rattle.rings.specs.Field.{Field}
use Rattle.walk.specs.Walk.{Walk}
use Rattle.contour.specs.declared.Settings.{Settings}
use Rattle.scan.specs.Scan.{walks, scan}
use Rattle.finish.specs.Finish.{Buffers}
use Rattle.extraction.specs.Extract.{extracted_as}
use Rattle.extraction.specs.Promises.{SameOutcome, same_outcome}
use Rattle.straighten.specs.Runs.{contours_of, corners_of, Stands}
use Rattle.straighten.specs.Promises.{rewritten}
use Rattle.outlines.specs.Outlines.{drawn, outlined}
use Rattle.outlines.specs.Straightening.{AllSpikeless}
use Rattle.turn.specs.declared.Refusal.{Refusal}
use Rattle.keep.specs.declared.Counts.{Counts}

-- ---- what an answer and its table become
pub record Answered : Type 0 where
  pub answer : Result Counts Refusal
  pub points : List ℤ
  pub first : List ℕ
  pub len : List ℕ

abbrev pub answered : Result Counts Refusal → List ℤ → List ℕ → List ℕ → Answered
answered r points first len = record { answer = r; points = points; first = first; len = len }

abbrev pub straight_by : Bool → Result Counts Refusal → List ℤ → List ℕ → List ℕ → Answered
straight_by false r points first len = answered r points first len
straight_by true (Err r) points first len = answered (Err r) points first len
straight_by true (Ok c) points first len =
    let s = rewritten points first len c (corners_of (contours_of points len c.contours)) in
    answered (Ok s.counts) s.points s.first s.len

-- the table of an answer that is done stands in the lists
abbrev pub StandsFor : Result Counts Refusal → List ℤ → List ℕ → List ℕ → Type 0
StandsFor (Err r) points first len = Unit {0}
StandsFor (Ok c) points first len = Stands points first len c.contours

-- ---- extraction of a graph that passes its checks
-- no walk of the scan runs back on itself
abbrev pub SpikelessScan : Graph → Bool → List ℕ → Type 0
SpikelessScan g clockwise st = (ws : List Walk) (after : List ℕ) → scan g clockwise st ≡ walks ws after → AllSpikeless g ws

-- for every graph whose field of ends, points and tops the lists hold, and whose walks do not run back on themselves
abbrev pub ExtractOutlinesSays : (ax ay bx by : List ℤ) (nxt prv lead top : List ℕ) → Settings → Buffers → Result Counts Refusal → Buffers → Type 0
ExtractOutlinesSays ax ay bx by nxt prv lead top settings before r after =
    (g : Graph) → Field g ax ay bx by top nxt prv lead before.state → SpikelessScan g settings.clockwise before.state
    → extracted_as r after ≡ drawn g settings before (scan g settings.clockwise before.state)

pub extract_outlines_once : (ax ay bx by : List ℤ) (nxt prv lead top : List ℕ) (settings : Settings) (before : Buffers)
    → (g : Graph) → Field g ax ay bx by top nxt prv lead before.state → SpikelessScan g settings.clockwise before.state
    → (r s : Result Counts Refusal) (b c : Buffers)
    → ExtractOutlinesSays ax ay bx by nxt prv lead top settings before r b
    → ExtractOutlinesSays ax ay bx by nxt prv lead top settings before s c
    → SameOutcome r s b c
extract_outlines_once ax ay bx by nxt prv lead top settings before g f k r s b c p q = same_outcome (p g f k) (q g f k)

-- ---- extraction of any graph, as its settings ask for it, whatever it works in
abbrev pub Outlines : Lent → List ℕ → Settings → Buffers → Result Counts Refusal → Buffers → Type 0
Outlines g top settings before r after = extracted_as r after ≡ outlined g top settings before

pub outlines_once : (g : Lent) (top : List ℕ) (settings : Settings) (before : Buffers) (r s : Result Counts Refusal) (b c : Buffers)
    → Outlines g top settings before r b → Outlines g top settings before s c → SameOutcome r s b c
outlines_once g top settings before r s b c p q = same_outcome p q
