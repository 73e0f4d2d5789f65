-- Each entry is what the contour's own report answers, and the lists past the contours are as they were; 10 is check 10's, asked with the lists' room.
use Rattle.std.specs.Prelude.{ℕ, ◌≤◌, ◌<◌, ◌≡◌, refl, Bool, true, false, List, length, get_or, Float, Some, None, Err}
use Rattle.std.proofs.Common.{arith, sym, ap, ◌∙◌, lt-ltb}
use Rattle.laws.specs.Test.{pick}
use Rattle.laws.specs.Lists.{front_at, front_rest}
use Rattle.table.specs.Table.{Table, contour, contour_count, kind_of, shape_of, hull_count}
use Rattle.table.specs.TableChecks.{table_checked}
use Rattle.table.specs.Sound.{Sound}
use Rattle.table.specs.Passing.{passes_sound}
use Rattle.lookup.specs.Lookups.{owner_right, record_of, looked_up}
use Rattle.report.specs.Reports.{measured, report_by, reported}
use Rattle.report.specs.declared.records.ReportValues.{ReportValues}
use Rattle.report_all.specs.Columns.{Columns, Room, room_of, entered, entry_at, Counted, counted, all_entered, reporting, filled, reported_all, report_at}
use Rattle.turn.specs.Refusals.{no_fault}
use Rattle.turn.specs.declared.Refusal.{Refusal}

-- ---- one contour of a table that passes check 10
pub report_at_is : (t : Table) (owner : List ℕ) (c shape hulls : ℕ) → Sound t → contour_count t ≤ length owner → c < contour_count t
    → shape ≡ shape_of t c → hulls ≡ hull_count t → report_at t owner c shape hulls ≡ reported t owner c
unfolding reported looked_up
report_at_is t owner c shape hulls s r l p q =
    rw (p, q, lt-ltb c (contour_count t) l, (passes_sound t (length owner)).from (s, r))
    (by (owner_right (kind_of t c) (get_or owner c 0) (shape_of t c) (hull_count t)))
  where
    by : (b : Bool) → pick b (Some (measured (contour t c))) None ≡ report_by (pick b (Some (record_of t owner c)) None) (contour t c)
    by true = refl
    by false = refl

-- ---- what stands in the lists afterwards
-- entry c of five lists
pub record Stands (d : Float) (k : Columns) (c : ℕ) (e : ReportValues) : Type 0 where
  pub area : get_or k.area c d ≡ e.area
  pub left : get_or k.left c d ≡ e.left
  pub bottom : get_or k.bottom c d ≡ e.bottom
  pub right : get_or k.right c d ≡ e.right
  pub top : get_or k.top c d ≡ e.top

-- entry c of five lists is as it was
pub record Stays (d : Float) (k l : Columns) (c : ℕ) : Type 0 where
  pub area : get_or l.area c d ≡ get_or k.area c d
  pub left : get_or l.left c d ≡ get_or k.left c d
  pub bottom : get_or l.bottom c d ≡ get_or k.bottom c d
  pub right : get_or l.right c d ≡ get_or k.right c d
  pub top : get_or l.top c d ≡ get_or k.top c d

module _ (d : Float) (f : ℕ → ReportValues) (n : ℕ) (k : Columns) where
  entry_stands : (c : ℕ) → c < n → Stands d (entered f n k) c (f c)
  entry_stands c l = record {
    area = front_at d (λ i. (f i).area) n k.area c l;
    left = front_at d (λ i. (f i).left) n k.left c l;
    bottom = front_at d (λ i. (f i).bottom) n k.bottom c l;
    right = front_at d (λ i. (f i).right) n k.right c l;
    top = front_at d (λ i. (f i).top) n k.top c l;
  }

  tail_stays : (c : ℕ) → n ≤ c → Stays d k (entered f n k) c
  tail_stays c l = record {
    area = front_rest d (λ i. (f i).area) n k.area c l;
    left = front_rest d (λ i. (f i).left) n k.left c l;
    bottom = front_rest d (λ i. (f i).bottom) n k.bottom c l;
    right = front_rest d (λ i. (f i).right) n k.right c l;
    top = front_rest d (λ i. (f i).top) n k.top c l;
  }

module _ (t : Table) (owner : List ℕ) (k : Columns) where
  -- what check 10 answers decides
  pub all_fine : table_checked t (room_of owner k) ≡ no_fault
      → reporting (filled (contour_count t) (all_entered t owner k).missing) (all_entered t owner k).lists ≡ reported_all t owner k
  unfolding reported_all
  all_fine e = rw e

  pub all_refused : (r : Refusal) → table_checked t (room_of owner k) ≡ Err r → reporting (Err r) k ≡ reported_all t owner k
  unfolding reported_all
  all_refused r e = rw e

  -- the room of the shortest list is room in each
  pub fine_room : table_checked t (room_of owner k) ≡ no_fault → ((Sound t) × (contour_count t ≤ length owner)) × (Room k (contour_count t))
  fine_room e =
      let h = (passes_sound t (room_of owner k)).to e in
      let r = h.1 in
      ((h.0, omega (arith, r)), (omega (arith, r), omega (arith, r), omega (arith, r), omega (arith, r), omega (arith, r)))

  pub all_filled : (missing : ℕ) (after : Columns) → table_checked t (room_of owner k) ≡ no_fault → counted missing after ≡ all_entered t owner k
      → reporting (filled (contour_count t) missing) after ≡ reported_all t owner k
  all_filled missing after e q = ap (λ (x : Counted). reporting (filled (contour_count t) x.missing) x.lists) q ∙ all_fine e

  -- The theorem: where check 10 passes, entry c is what the report of contour c answers, for every contour, and the rest of each list is as it was.
  module _ (d : Float) (e : table_checked t (room_of owner k) ≡ no_fault) where
    pub each_entry : (c : ℕ) → c < contour_count t → Stands d (reported_all t owner k).lists c (entry_at t owner c)
    each_entry c l = rw (sym (all_fine e)) (entry_stands d (entry_at t owner) (contour_count t) k c l)

    pub rest_stays : (c : ℕ) → contour_count t ≤ c → Stays d k (reported_all t owner k).lists c
    rest_stays c l = rw (sym (all_fine e)) (tail_stays d (entry_at t owner) (contour_count t) k c l)
