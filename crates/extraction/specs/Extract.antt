-- Extraction as a whole: checks 1 to 7, the scan, and what each lent buffer then holds (document 01, "Checks and numbers" and "Walking").
use Rattle.std.specs.Prelude.{ℕ, Bool, List, length, replicate, pos, Result, Ok, Err}
use Rattle.laws.specs.Lists.{padded}
use Rattle.graph.specs.Graph.{Graph, Lent, graph_of}
use Rattle.graph.specs.Checks.{checked, room}
use Rattle.walk.specs.Walk.{Walk}
use Rattle.finish.specs.Finish.{Buffers, buffers}
use Rattle.keep.specs.declared.Counts.{Counts}
use Rattle.keep.specs.Tables.{no_counts}
use Rattle.scan.specs.Scan.{Scanned, stopped, walks, scan}
use Rattle.scan.specs.Values.{Values, valued, values_of}
use Rattle.keep.specs.Outcome.{kept, lens, firsts, kinds, all_points, coordinates, states_after, counts_of}
use Rattle.turn.specs.Refusals.{Checked, refused}
use Rattle.turn.specs.Reasons.{number_of}
use Rattle.turn.specs.declared.Reason.{Reason}
use Rattle.turn.specs.declared.Refusal.{Refusal}

-- the answer with document 01's number and values for it, and the whole of what was lent
pub record Extracted : Type 0 where
  pub answer : Result Counts Refusal
  pub values : Values
  pub lent : Buffers

-- what an answer of the code and the buffers come to
abbrev pub extracted_as : Result Counts Refusal → Buffers → Extracted
extracted_as answer lent = record { answer = answer; values = values_of answer; lent = lent }

-- what the rules come to: the counts, or a refusal's reason and place
abbrev pub done : Counts → Buffers → Extracted
done counts lent = record { answer = Ok counts; values = valued 0 0 counts; lent = lent }

-- "After any refusal the counts and totals are 0."
abbrev pub refusal : (reason : Reason) (place : ℕ) → Buffers → Extracted
refusal reason place lent = record { answer = refused reason place; values = valued (number_of reason) place no_counts; lent = lent }

-- "After 8 and 9 the visit states are as before, and the points and contour table are all zero."
abbrev pub zeroed : Buffers → Buffers
zeroed b =
    buffers b.state (replicate (length b.points) (pos 0)) (replicate (length b.first) 0) (replicate (length b.len) 0)
    (replicate (length b.kind) 0)

-- the kept walks' points and table, and the states after all walks. "After success every entry past the last one written is zero."
abbrev pub after_walks : Graph → ℕ → List Walk → Buffers → Buffers
after_walks g minimum ws b =
    buffers (states_after ws b.state) (padded (pos 0) (coordinates (all_points g (kept g minimum ws))) (length b.points))
    (padded 0 (firsts 0 (lens (kept g minimum ws))) (length b.first))
    (padded 0 (lens (kept g minimum ws)) (length b.len))
    (padded 0 (kinds (kept g minimum ws)) (length b.kind))

abbrev pub after_scan : Graph → ℕ → Buffers → Scanned → Extracted
after_scan g minimum b (stopped reason place) = refusal reason place (zeroed b)
after_scan g minimum b (walks ws st) = done (counts_of g minimum ws) (after_walks g minimum ws b)

-- "After 1 to 7 .. all lent memory is as before the call."
abbrev pub after_checks : Graph → Bool → ℕ → Buffers → Checked → Extracted
after_checks g clockwise minimum b (Err r) = refusal r.reason r.place b
after_checks g clockwise minimum b (Ok u) = after_scan g minimum b (scan g clockwise b.state)

unfoldable pub extracted : Lent → List ℕ → Bool → ℕ → Buffers → Extracted
extracted g top clockwise minimum b =
    after_checks (graph_of g top) clockwise minimum b
    (checked g top b.state (room (length b.points) (length b.first) (length b.len) (length b.kind)))
