-- What a file says: the lists of a graph with its settings, or a refusal; and what reading it leaves in the lent buffers.
use Rattle.std.specs.Prelude.{ℕ, ◌+◌, ◌-◌, ◌/◌, ◌≤◌, Bool, List, [], ◌∷◌, map, eqb, ℤ, length, get_or, Result, Ok, Err}
use Rattle.writing.specs.Put.{at_front}
use Rattle.format_numbers.specs.Bytes.{u16_at, u64_at, i32_at}
use Rattle.turn.specs.Limits.{max_links}
use Rattle.format_records.specs.Limits.{max_nodes, max_entries}
use Rattle.format_records.specs.Records.{Form, form, refused, form_of, flat_list}
use Rattle.turn.specs.declared.Refusal.{Refusal}
use Rattle.format.specs.declared.FileCounts.{FileCounts}

-- "start positions (m + 1 of them) into one flat list", the first at e
unfoldable pub starts_of : ℕ → List (List ℕ) → List ℕ
starts_of e [] = e ∷ []
starts_of e (body ∷ rest) = e ∷ starts_of (e + length body / 2) rest

pub record Contents : Type 0 where
  pub clockwise : Bool
  pub minimum : ℕ
  pub ax : List ℤ
  pub ay : List ℤ
  pub bx : List ℤ
  pub by : List ℤ
  pub a_id : List ℕ
  pub b_id : List ℕ
  pub top : List ℕ
  pub state : List ℕ
  pub start : List ℕ
  pub list : List ℕ

-- "direction byte, eight-byte minimum"; "ax, ay, bx, by as signed 32-bit, two 16-bit ids, top, state"
abbrev pub contents_of : List ℕ → List (List ℕ) → List (List ℕ) → Contents
contents_of s links nodes = record {
  clockwise = eqb (get_or s 6 0) 1;
  minimum = u64_at s 7;
  ax = map (λ b. i32_at b 0) links;
  ay = map (λ b. i32_at b 4) links;
  bx = map (λ b. i32_at b 8) links;
  by = map (λ b. i32_at b 12) links;
  a_id = map (λ b. u16_at b 16) links;
  b_id = map (λ b. u16_at b 18) links;
  top = map (λ b. get_or b 20 0) links;
  state = map (λ b. get_or b 21 0) links;
  start = starts_of 0 nodes;
  list = flat_list nodes;
}

pub data File : Type 0 where
  holding : Contents → File
  refused_file : Refusal → File

abbrev pub file_from : List ℕ → Form → File
file_from s (form links nodes) = holding (contents_of s links nodes)
file_from s (refused e) = refused_file e

abbrev pub file_of : List ℕ → File
file_of s = file_from s (form_of s)

-- ---- the lent buffers

pub record FileLists : Type 0 where
  pub ax : List ℤ
  pub ay : List ℤ
  pub bx : List ℤ
  pub by : List ℤ
  pub a_id : List ℕ
  pub b_id : List ℕ
  pub top : List ℕ
  pub state : List ℕ
  pub start : List ℕ
  pub list : List ℕ

abbrev pub file_lists : List ℤ → List ℤ → List ℤ → List ℤ → List ℕ → List ℕ → List ℕ → List ℕ → List ℕ → List ℕ → FileLists
file_lists ax ay bx by a_id b_id top state start list =
    record { ax = ax; ay = ay; bx = bx; by = by; a_id = a_id; b_id = b_id; top = top; state = state; start = start; list = list }

-- room for every file that is not refused
pub record FileRoom (b : FileLists) : Type 0 where
  pub ax : max_links ≤ length b.ax
  pub ay : max_links ≤ length b.ay
  pub bx : max_links ≤ length b.bx
  pub by : max_links ≤ length b.by
  pub a_id : max_links ≤ length b.a_id
  pub b_id : max_links ≤ length b.b_id
  pub top : max_links ≤ length b.top
  pub state : max_links ≤ length b.state
  pub start : max_nodes + 1 ≤ length b.start
  pub list : max_entries ≤ length b.list

-- a graph stands at the front of the buffers, whose tails stay
abbrev pub contents_into : Contents → FileLists → FileLists
contents_into g b =
    file_lists (at_front g.ax b.ax) (at_front g.ay b.ay) (at_front g.bx b.bx) (at_front g.by b.by) (at_front g.a_id b.a_id)
    (at_front g.b_id b.b_id)
    (at_front g.top b.top)
    (at_front g.state b.state)
    (at_front g.start b.start)
    (at_front g.list b.list)

-- the answer, and the buffers
pub record Reading : Type 0 where
  pub answer : Result FileCounts Refusal
  pub lent : FileLists

abbrev pub reading : Result FileCounts Refusal → FileLists → Reading
reading r b = record { answer = r; lent = b }

-- a refusal leaves the buffers alone
abbrev pub read_into : File → FileLists → Reading
read_into (holding g) b =
    reading
    (Ok (record {
      links = length g.a_id;
      nodes = length g.start - 1;
      entries = length g.list;
      clockwise = g.clockwise;
      minimum = g.minimum;
    }))
    (contents_into g b)
read_into (refused_file e) b = reading (Err e) b
