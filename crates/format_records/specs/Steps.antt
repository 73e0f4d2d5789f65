-- What a step of a run is, test by test, and what it tells.
use Rattle.std.specs.Prelude.{ℕ, ◌+◌, ◌*◌, ◌%◌, ◌≤◌, ◌<◌, refl, Bool, true, false, ◌&&◌, List, eqb, ltb, leb, length, Option, Some, None, Ok, Err}
use Rattle.std.proofs.Math.Path.{◌≡◌}
use Rattle.std.proofs.Common.{sym, ap, ◌∙◌}
use borrow.Author.Tests.{le-leb, lt-leb, eq-eqb, ne_eqb, ltb-true, leb-true, eqb-true}
use Rattle.laws.specs.Test.{pick, pick_ind, and_true}
use Rattle.turn.specs.Limits.{max_links}
use Rattle.format_records.specs.Limits.{max_nodes, max_entries, max_records}
use Rattle.format_records.specs.Records.{length_at, kind_at, record_end, headed, link_number, node_number, head_number, body_number, first_number}
use Rattle.format_records.specs.Records.{record_number, refusal, run_to, past, next_or_fault, step_at}
use Rattle.format_records.specs.declared.Run.{Run}
use Rattle.turn.specs.declared.Reason.{Reason}
use Rattle.turn.specs.declared.Reason.TheVariants.{TooManyLinks, WrongNodes, WrongFile}
use Rattle.turn.specs.declared.Refusal.{Refusal}

-- ---- forward: the tests decide the step
module _ (kind : ℕ) (s : List ℕ) (r : Run) where
  pub step_cut : length s < r.at + 6 → step_at kind s r ≡ Ok None
  unfolding step_at
  step_cut h = rw (lt-leb (r.at + 6) (length s) h)

  pub step_kind : r.at + 6 ≤ length s → (kind_at s r.at ≡ kind → ⊥) → step_at kind s r ≡ Ok None
  unfolding step_at
  step_kind h k = rw (le-leb (r.at + 6) (length s) h, ne_eqb (kind_at s r.at) kind k)

  pub step_head : (reason : Reason) → r.at + 6 ≤ length s → kind_at s r.at ≡ kind → head_number kind r.count r.size (length_at s r.at) ≡ Some reason
      → step_at kind s r ≡ Err (refusal reason r.at)
  unfolding step_at record_number
  step_head reason h k n = rw (le-leb (r.at + 6) (length s) h, eq-eqb (kind_at s r.at) kind k, n)

  pub step_body : r.at + 6 ≤ length s → kind_at s r.at ≡ kind → head_number kind r.count r.size (length_at s r.at) ≡ None
      → length s < record_end s r.at
      → step_at kind s r ≡ Err (refusal WrongFile r.at)
  unfolding step_at record_number
  step_body h k n b =
      rw (le-leb (r.at + 6) (length s) h, eq-eqb (kind_at s r.at) kind k, n, lt-leb (record_end s r.at) (length s) b)

  pub step_next : r.at + 6 ≤ length s → kind_at s r.at ≡ kind → head_number kind r.count r.size (length_at s r.at) ≡ None
      → record_end s r.at ≤ length s
      → step_at kind s r ≡ Ok (Some (past s r))
  unfolding step_at record_number
  step_next h k n b =
      rw (le-leb (r.at + 6) (length s) h, eq-eqb (kind_at s r.at) kind k, n, le-leb (record_end s r.at) (length s) b)

-- one record, with the length and the reason as they were read
module _ (kind : ℕ) (s : List ℕ) (r : Run) (len : ℕ) (n : Option Reason) (h : r.at + 6 ≤ length s) (k : kind_at s r.at ≡ kind) (l : len ≡ length_at s r.at)
    (e : n ≡ head_number kind r.count r.size len) where
  number_is : n ≡ head_number kind r.count r.size (length_at s r.at)
  number_is = e ∙ ap (head_number kind r.count r.size) l

  pub read_head : (reason : Reason) (f : Refusal) → n ≡ Some reason → f ≡ refusal reason r.at → Err f ≡ step_at kind s r
  read_head reason f z q = ap Err q ∙ sym (step_head kind s r reason h k (sym number_is ∙ z))

  pub read_body : n ≡ None → length s < r.at + 6 + len → Err (refusal WrongFile r.at) ≡ step_at kind s r
  read_body z b = sym (step_body kind s r h k (sym number_is ∙ z) (rw l at b))

  pub read_next : n ≡ None → r.at + 6 + len ≤ length s → Ok (Some (run_to (r.at + 6 + len) (r.count + 1) (r.size + len))) ≡ step_at kind s r
  read_next z b =
      ap (λ m. Ok (Some (run_to (r.at + 6 + m) (r.count + 1) (r.size + m)))) l
      ∙ sym (step_next kind s r h k (sym number_is ∙ z) (rw l at b))

-- ---- back: what the head of a record that is taken tells
pub record Told (kind : ℕ) (s : List ℕ) (r : Run) : Type 0 where
  pub head : r.at + 6 ≤ length s
  pub kind_is : kind_at s r.at ≡ kind
  pub number : head_number kind r.count r.size (length_at s r.at) ≡ None
  pub whole : record_end s r.at ≤ length s

first_none : (a b : Option Reason) → first_number a b ≡ None → (a ≡ None) × (b ≡ None)
first_none None b h = (refl, h)
first_none (Some a) b h = cc

choice_none : (t : Bool) (x : Option Reason) → pick t x (Some WrongFile) ≡ None → (t ≡ true) × (x ≡ None)
choice_none true x h = (refl, h)
choice_none false x h = cc

limit_none : (t : Bool) (reason : Reason) → pick t None (Some reason) ≡ None → t ≡ true
limit_none true reason h = refl
limit_none false reason h = cc

pub link_none : (count len : ℕ) → link_number count len ≡ None → (len ≡ 22) × (count < max_links)
link_none count len h =
    let p = choice_none (eqb len 22) (pick (ltb count max_links) None (Some TooManyLinks)) h in
    (eqb-true len 22 p.0, ltb-true count max_links (limit_none (ltb count max_links) TooManyLinks p.1))

pub node_none : (count size len : ℕ) → node_number count size len ≡ None → (len % 2 ≡ 0) × (count < max_nodes) × (size + len ≤ 2 * max_entries)
node_none count size len h =
    let p = choice_none (eqb (len % 2) 0) (pick (ltb count max_nodes && leb (size + len) (2 * max_entries)) None (Some WrongNodes)) h in
    let q = and_true (ltb count max_nodes) (leb (size + len) (2 * max_entries))
    (limit_none (ltb count max_nodes && leb (size + len) (2 * max_entries)) WrongNodes p.1) in
    (eqb-true (len % 2) 0 p.0, ltb-true count max_nodes q.0, leb-true (size + len) (2 * max_entries) q.1)

-- a run of either kind has at most 4,096 records
pub count_below : (kind count size len : ℕ) → head_number kind count size len ≡ None → count < max_records
count_below kind count size len = pick_ind (eqb kind 1) (link_number count len) (node_number count size len) (λ n. n ≡ None → count < max_records)
    (λ t h. (link_none count len h).1)
    (λ t h. (node_none count size len h).1)

module _ (kind : ℕ) (s : List ℕ) (r x : Run) where
  told : headed kind s r.at ≡ true → record_number kind s r ≡ None → Told kind s r
  unfolding record_number
  told h n =
      let a = and_true (leb (r.at + 6) (length s)) (eqb (kind_at s r.at) kind) h in
      let z = first_none (head_number kind r.count r.size (length_at s r.at)) (body_number s r.at) n in
      record {
        head = leb-true (r.at + 6) (length s) a.0;
        kind_is = eqb-true (kind_at s r.at) kind a.1;
        number = z.0;
        whole = leb-true (record_end s r.at) (length s) (choice_none (leb (record_end s r.at) (length s)) None z.1).0;
      }

  next_from : (n : Option Reason) → headed kind s r.at ≡ true → record_number kind s r ≡ n → next_or_fault n r.at (past s r) ≡ Ok (Some x)
      → (x ≡ past s r) × Told kind s r
  next_from None h n e = (cc, told h n)
  next_from (Some reason) h n e = cc

  pub next_tells : step_at kind s r ≡ Ok (Some x) → (x ≡ past s r) × Told kind s r
  unfolding step_at
  next_tells =
      pick_ind (headed kind s r.at) (next_or_fault (record_number kind s r) r.at (past s r)) (Ok None)
      (λ z. z ≡ Ok (Some x) → (x ≡ past s r) × Told kind s r)
      (λ h e. next_from (record_number kind s r) h refl e)
      (λ h e. cc)
