-- What each public function promises, written once: its contract names it, and any two outcomes that it allows are equal.
use Rattle.std.specs.Prelude.{List, ℕ, Result}
use Rattle.graph.specs.Graph.{Lent}
use Rattle.contour.specs.declared.Settings.{Settings}
use Rattle.finish.specs.Finish.{Buffers}
use Rattle.extraction.specs.Promises.{SameOutcome}
use Rattle.outlines.specs.Promises.{Outlines, outlines_once}
use Rattle.turn.specs.declared.Refusal.{Refusal}
use Rattle.keep.specs.declared.Counts.{Counts}

abbrev pub ExtractSays : Lent → List ℕ → Settings → Buffers → Result Counts Refusal → Buffers → Type 0
ExtractSays = Outlines

pub extract_once : (g : Lent) (top : List ℕ) (settings : Settings) (before : Buffers) (r s : Result Counts Refusal) (b c : Buffers)
    → ExtractSays g top settings before r b → ExtractSays g top settings before s c → SameOutcome r s b c
extract_once = outlines_once
