-- The bytes that the program prints for the lists of a graph: extracted, then answered; and the states that extraction leaves.
use Rattle.std.specs.Prelude.{ℕ, ◌*◌, Bool, List, pos, replicate}
use Rattle.turn.specs.Limits.{max_links}
use Rattle.turn.specs.Refusals.{numbered}
use Rattle.graph.specs.Graph.{Lent}
use Rattle.table.specs.Table.{Table, table, max_contours}
use Rattle.answer_table.specs.ExtractionText.{extraction_text}
use Rattle.finish.specs.Finish.{Buffers, buffers}
use Rattle.extraction.specs.Extract.{extracted}

abbrev pub lent_table : Buffers → Table
lent_table b = table b.points b.first b.len b.kind

unfoldable pub extracted_text : Lent → List ℕ → Bool → ℕ → Buffers → List ℕ
extracted_text g top cw minimum b = let e = extracted g top cw minimum b in extraction_text cw (numbered e.answer) (lent_table e.lent)

unfoldable pub extracted_states : Lent → List ℕ → Bool → ℕ → Buffers → List ℕ
extracted_states g top cw minimum b = (extracted g top cw minimum b).lent.state

-- points and table blank, with room for the largest answer
abbrev pub blank : List ℕ → Buffers
blank state = buffers state (replicate (2 * max_links) (pos 0)) (replicate max_contours 0) (replicate max_contours 0) (replicate max_contours 0)

abbrev pub graph_text : Lent → List ℕ → Bool → ℕ → List ℕ → List ℕ
graph_text g top cw minimum state = extracted_text g top cw minimum (blank state)

abbrev pub graph_states : Lent → List ℕ → Bool → ℕ → List ℕ → List ℕ
graph_states g top cw minimum state = extracted_states g top cw minimum (blank state)
