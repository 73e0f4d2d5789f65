-- The bytes that the program prints for the bytes of a file: it "reads records from standard input", and answers what they say.
use Rattle.std.specs.Prelude.{ℕ, ◌+◌, ◌≤◌, ◌<◌, ◌≡◌, List, leb, pos, length, replicate}
use Rattle.std.proofs.Common.{sym, ap, ap₂, ◌∙◌, arith, le-leb}
use Rattle.std.proofs.lemmas.Bool.{lt-leb}
use Rattle.laws.specs.Test.{pick}
use Rattle.turn.specs.Limits.{max_links}
use Rattle.writing.specs.Put.{at_front}
use Rattle.writing.specs.Write.{Wrote}
use Rattle.format_records.specs.Limits.{max_nodes, max_entries}
use Rattle.format.specs.File.{file_of, FileLists, file_lists}
use Rattle.print.specs.Room.{answer_bytes}
use Rattle.answer_file.specs.FileText.{file_text, file_left}

abbrev pub answer_text : List ℕ → List ℕ
answer_text s = file_text (file_of s)

-- the buffer, and how many of its bytes are the answer
pub record Answered : Type 0 where
  pub out : List ℕ
  pub bytes : ℕ

abbrev pub answered_as : List ℕ → ℕ → Answered
answered_as out bytes = record { out = out; bytes = bytes }

-- a buffer with room for the longest answer holds the text from its start on; into a shorter one nothing is written
abbrev pub answered : List ℕ → List ℕ → Answered
answered s old =
    pick (leb answer_bytes (length old)) (answered_as (at_front (answer_text s) old) (length (answer_text s))) (answered_as old 0)

module _ (s old : List ℕ) where
  pub answered_short : length old < answer_bytes → answered_as old 0 ≡ answered s old
  answered_short h = rw (lt-leb answer_bytes (length old) h)

  whole : answer_bytes ≤ length old → answered s old ≡ answered_as (at_front (answer_text s) old) (length (answer_text s))
  whole h = rw (le-leb answer_bytes (length old) h)

  from_0 : 0 + length (answer_text s) ≡ length (answer_text s)
  from_0 = omega arith

  module _ {new : List ℕ} {r : ℕ} (h : answer_bytes ≤ length old) where
    pub answered_long : Wrote old new 0 r (answer_text s) → answered_as new r ≡ answered s old
    answered_long w = ap₂ answered_as w.bytes (w.next ∙ from_0) ∙ sym (whole h)

    -- with room for it the answer is written
    pub answer_written : answered_as new r ≡ answered s old → Wrote old new 0 r (answer_text s)
    answer_written e = record { next = ap (λ (o : Answered). o.bytes) (e ∙ whole h) ∙ sym from_0; bytes = ap (λ (o : Answered). o.out) (e ∙ whole h) }

-- ---- "It keeps 4,096 visit states, all zero before reading"

abbrev pub zero_states : List ℕ
zero_states = replicate max_links 0

-- the lists that a file is read into, all zero too
abbrev pub zero_lists : FileLists
zero_lists =
    file_lists (replicate max_links (pos 0)) (replicate max_links (pos 0)) (replicate max_links (pos 0)) (replicate max_links (pos 0))
    (replicate max_links 0) (replicate max_links 0) (replicate max_links 0) zero_states (replicate (max_nodes + 1) 0) (replicate max_entries 0)

-- the states when a file is answered
unfoldable pub kept_states : List ℕ → List ℕ
kept_states s = (file_left (file_of s) zero_lists).state
