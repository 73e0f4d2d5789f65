-- The form of the file: "four-byte length of the body, two-byte kind, body"; one record of kind 3, then any of kind 1, then any of kind 2.
use Rattle.std.specs.Prelude.{ℕ, zero, suc, ◌+◌, ◌*◌, ◌/◌, ◌%◌, Bool, ◌&&◌, List, [], ◌∷◌, ◌++◌, eqb, ltb, leb, length, get_or, take, drop}
use Rattle.std.specs.Prelude.{Option, Some, None, Result, Ok, Err}
use Rattle.laws.specs.Test.{pick}
use Rattle.format_numbers.specs.Bytes.{u16_at, u32_at, every}
use Rattle.turn.specs.Limits.{max_links}
use Rattle.format_records.specs.Limits.{max_nodes, max_entries, max_records}
use Rattle.format_records.specs.declared.Run.{Run}
use Rattle.turn.specs.declared.Reason.{Reason}
use Rattle.turn.specs.declared.Reason.TheVariants.{TooManyLinks, WrongNodes, WrongFile}
use Rattle.turn.specs.declared.Refusal.{Refusal}
use Rattle.turn.specs.declared.NumberedRefusal.{NumberedRefusal}
use Rattle.turn.specs.Reasons.{number_of}

-- ---- one record, whose first byte is at an offset

abbrev pub length_at : List ℕ → ℕ → ℕ
length_at s at = u32_at s at

abbrev pub kind_at : List ℕ → ℕ → ℕ
kind_at s at = u16_at s (at + 4)

abbrev pub body_at : List ℕ → ℕ → List ℕ
body_at s at = take (length_at s at) (drop (at + 6) s)

-- the offset after it
abbrev pub record_end : List ℕ → ℕ → ℕ
record_end s at = at + 6 + length_at s at

-- a whole head of this kind stands there
abbrev pub headed : ℕ → List ℕ → ℕ → Bool
headed kind s at = leb (at + 6) (length s) && eqb (kind_at s at) kind

-- ---- why a head is refused, if it is

-- "links, 22 bytes"; "a 4,097th link ends the reading with 1"
abbrev pub link_number : ℕ → ℕ → Option Reason
link_number count len = pick (eqb len 22) (pick (ltb count max_links) None (Some TooManyLinks)) (Some WrongFile)

-- "one a node, 16-bit link numbers"; "a 4,097th node or 8,193rd list entry with 5"; `size` is that of the bodies before it, in bytes
abbrev pub node_number : ℕ → ℕ → ℕ → Option Reason
node_number count size len =
    pick (eqb (len % 2) 0) (pick (ltb count max_nodes && leb (size + len) (2 * max_entries)) None (Some WrongNodes)) (Some WrongFile)

abbrev pub head_number : ℕ → ℕ → ℕ → ℕ → Option Reason
head_number kind count size len = pick (eqb kind 1) (link_number count len) (node_number count size len)

-- the limits are judged at the head, whether or not the body is cut; a cut body is 13
abbrev pub body_number : List ℕ → ℕ → Option Reason
body_number s at = pick (leb (record_end s at) (length s)) None (Some WrongFile)

abbrev pub first_number : Option Reason → Option Reason → Option Reason
first_number None b = b
first_number (Some a) b = Some a

unfoldable pub record_number : ℕ → List ℕ → Run → Option Reason
record_number kind s r = first_number (head_number kind r.count r.size (length_at s r.at)) (body_number s r.at)

-- "Place returned": 13 the record's offset, 1 and 5 nothing
abbrev pub place_told : (number : ℕ) → ℕ → ℕ
place_told number at = pick (eqb number 13) at 0

abbrev pub refusal : Reason → ℕ → Refusal
refusal reason at = record { reason = reason; place = place_told (number_of reason) at }

-- the same of any number
abbrev pub numbered_refusal : (number : ℕ) → ℕ → NumberedRefusal
numbered_refusal number at = record { number = number; place = place_told number at }

-- ---- the records of one kind that come one after the other

abbrev pub run_to : ℕ → ℕ → ℕ → Run
run_to at count size = record { at = at; count = count; size = size }

abbrev pub past : List ℕ → Run → Run
past s r = run_to (record_end s r.at) (r.count + 1) (r.size + length_at s r.at)

-- one more of the run, or at fault
abbrev pub next_or_fault : Option Reason → ℕ → Run → Result (Option Run) Refusal
next_or_fault None at next = Ok (Some next)
next_or_fault (Some reason) at next = Err (refusal reason at)

-- the record at the run's end: one more of the run, something else, or at fault
unfoldable pub step_at : ℕ → List ℕ → Run → Result (Option Run) Refusal
step_at kind s r = pick (headed kind s r.at) (next_or_fault (record_number kind s r) r.at (past s r)) (Ok None)

-- the run's end and the bodies of its records, or a refusal
pub data RunBodies : Type 0 where
  ran : Run → List (List ℕ) → RunBodies
  fault : Refusal → RunBodies

abbrev pub with : List ℕ → RunBodies → RunBodies
with b (ran r bs) = ran r (b ∷ bs)
with b (fault e) = fault e

abbrev pub on_step : Result (Option Run) Refusal → (Run → RunBodies) → RunBodies → RunBodies
on_step (Ok (Some r)) go stop = go r
on_step (Ok None) go stop = stop
on_step (Err e) go stop = fault e

-- the rest of a run, in at most so many looks
unfoldable pub run_from : ℕ → ℕ → List ℕ → Run → RunBodies
run_from zero kind s r = ran r []
run_from (suc looks) kind s r = on_step (step_at kind s r) (λ r'. with (body_at s r.at) (run_from looks kind s r')) (ran r [])

-- one look more than a run may have records sees its end
abbrev pub looks : ℕ
looks = suc max_records

abbrev pub run_at : ℕ → List ℕ → ℕ → RunBodies
run_at kind s at = run_from looks kind s (run_to at 0 0)

-- ---- the whole file

-- "Kind 3 first: direction byte (0 counterclockwise, 1 clockwise), eight-byte minimum"
unfoldable pub settings_right : List ℕ → Bool
settings_right s = leb 15 (length s) && (eqb (length_at s 0) 9 && (eqb (kind_at s 0) 3 && leb (get_or s 6 0) 1))

-- the bodies of the links and of the nodes, or the first fault
pub data Form : Type 0 where
  form : List (List ℕ) → List (List ℕ) → Form
  refused : Refusal → Form

abbrev pub on_ran : RunBodies → (Run → List (List ℕ) → Form) → Form
on_ran (ran r bs) go = go r bs
on_ran (fault e) go = refused e

-- after the nodes the file ends; "any other kind, order or a cut record is 13"
abbrev pub nodes_after : List ℕ → List (List ℕ) → ℕ → Form
nodes_after s links at =
    on_ran (run_at 2 s at) (λ r nodes. pick (eqb r.at (length s)) (form links nodes) (refused (refusal WrongFile r.at)))

unfoldable pub form_of : List ℕ → Form
form_of s = pick (settings_right s) (on_ran (run_at 1 s 15) (λ r links. nodes_after s links r.at)) (refused (refusal WrongFile 0))

-- ---- the entries of the nodes

-- a node's body: "16-bit link numbers"
abbrev pub node_entries : List ℕ → List ℕ
node_entries body = every (u16_at body) 2 0 (length body / 2)

unfoldable pub flat_list : List (List ℕ) → List ℕ
flat_list [] = []
flat_list (body ∷ rest) = node_entries body ++ flat_list rest
