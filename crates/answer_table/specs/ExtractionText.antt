-- The bytes that the program prints for what extraction gave: what it kept of the table goes to binding.
use Rattle.std.specs.Prelude.{ℕ, ◌*◌, Bool, List, take, Result, Ok, Err}
use Rattle.table.specs.Table.{Table, table}
use Rattle.keep.specs.declared.Counts.{Counts}
use Rattle.print.specs.Answer.{printed_refusal}
use Rattle.writing.specs.Cuts.{Cut}
use Rattle.answer_table.specs.BoundText.{bound_text}
use Rattle.turn.specs.declared.NumberedRefusal.{NumberedRefusal}

abbrev pub kept_part : Counts → Table → Table
kept_part c t = table (take (c.points * 2) t.points) (take c.contours t.first) (take c.contours t.len) (take c.contours t.kind)

-- the table is long enough to be cut so
pub record KeptFits (c : Counts) (t : Table) : Type 0 where
  pub points : Cut (c.points * 2) t.points
  pub first : Cut c.contours t.first
  pub len : Cut c.contours t.len
  pub kind : Cut c.contours t.kind

abbrev pub ExtractionFits : Result Counts NumberedRefusal → Table → Type 0
ExtractionFits (Ok c) t = KeptFits c t
ExtractionFits (Err r) t = Unit

abbrev pub extraction_text : Bool → Result Counts NumberedRefusal → Table → List ℕ
extraction_text cw (Ok c) t = bound_text (kept_part c t) cw
extraction_text cw (Err r) t = printed_refusal r.number r.place
