-- What binding has bound may be printed: its table passed check 10.
use Rattle.std.specs.Prelude.{Result, Ok, Err}
use Prim.Native.Nat.{ℕ, ◌≤◌}
use native.Mathlib.Omega.{arith}
use mathlib.Core.Path.{◌≡◌, refl, sym, ap, ◌∙◌, subst}
use mathlib.Core.Bool.{Bool}
use mathlib.Core.List.{List}
use lib.Dec.{eqb}
use lib.ListN.{length, drop, replicate, length-append, length-drop}
use Rattle.laws.specs.Lists.{over_front}
use Rattle.laws.specs.Test.{pick_ind}
use Rattle.table.specs.Table.{Table, contour_count, max_contours, hull_count}
use Rattle.table.specs.TableChecks.{table_checked}
use Rattle.table.specs.TableLaws.{hulls_few}
use Rattle.turn.specs.Refusals.{first_fine, Checked, no_fault}
use Rattle.table.specs.Sound.{Sound}
use Rattle.table.specs.Passing.{passes_sound, ranges_within}
use Rattle.print.specs.Room.{Printable}
use Rattle.print.specs.Answer as print
use Rattle.answer_table.specs.BoundText.{totals_of, binding_text, outcome_text, bound_text}
use Rattle.anchor.specs.AnchorChecks.{anchors_checked, both_checked}
use Rattle.owners.specs.Owners.{owners_of}
use Rattle.bind.specs.Outcome.{Outcome, outcome, bound_to, dropped_of, handed_by, bound_after, bound}
use Rattle.turn.specs.declared.Refusal.{Refusal}
use Rattle.bind.specs.declared.Bound.{Bound}

abbrev print_table : Table → List ℕ → print.OwnedTable
print_table t owner = print.owned_table t.points t.first t.len t.kind owner

dropped_few : (t : Table) → dropped_of t ≤ contour_count t
dropped_few t = pick_ind (eqb (hull_count t) 0) (contour_count t) 0 (λ (n : ℕ). n ≤ contour_count t) (λ _. omega arith) (λ _. omega arith)

sound_printable : (t : Table) (owner : List ℕ) (shapes dropped : ℕ) → Sound t → contour_count t ≤ length owner → shapes ≤ contour_count t
    → dropped ≤ contour_count t
    → Printable (print_table t owner) (totals_of t shapes dropped)
sound_printable t owner shapes dropped s o h d = record {
  ranges = record {
    first = omega arith;
    len = omega (arith, s.len_long);
    kind = omega (arith, s.kind_long);
    owner = o;
    points = λ c l. omega (arith, ranges_within t s c l);
  };
  follows = s.follows;
  within = s.within;
  long = s.long;
  few = s.few;
  grid = s.grid;
  shapes = h;
  dropped = d;
}

-- what binding answers as bound may be printed
abbrev MayPrint : Table → Result Bound Refusal → List ℕ → Type 0
MayPrint t (Ok b) owner = Printable (print_table t owner) (totals_of t b.shapes b.dropped)
MayPrint t (Err r) owner = Unit

over_front_long : (owners buffer : List ℕ) → length buffer ≤ length (over_front owners buffer)
over_front_long owners buffer = omega (arith, length-append owners (drop (length owners) buffer), length-drop (length owners) buffer)

module _ (t : Table) (cw : Bool) (buffer : List ℕ) where
  handed_may : (s : Sound t) → contour_count t ≤ length buffer → (a : Checked) (owners : List ℕ)
      → MayPrint t (handed_by t a owners buffer).answer (handed_by t a owners buffer).owner
  handed_may s r (Ok u) owners =
      sound_printable t (over_front owners buffer) (hull_count t) (dropped_of t) s (omega (arith, over_front_long owners buffer))
      (omega (arith, hulls_few t.kind, s.kind_long))
      (dropped_few t)
  handed_may s r (Err e) owners = tt

  after_may : (k : Checked) → (k ≡ no_fault → (Sound t) × (contour_count t ≤ length buffer))
      → MayPrint t (bound_after k t cw buffer).answer (bound_after k t cw buffer).owner
  after_may (Err r) h = tt
  after_may (Ok u) h = let p = h refl in handed_may p.0 p.1 (owners_of t cw).answer (owners_of t cw).owners

  bound_may : MayPrint t (bound t cw buffer).answer (bound t cw buffer).owner
  bound_may =
      after_may (both_checked t (length buffer) cw)
      (λ e. (passes_sound t (length buffer)).to (first_fine (table_checked t (length buffer)) (anchors_checked t cw) e))

module _ (t : Table) (cw : Bool) {a : Result Bound Refusal} {owner : List ℕ} (e : outcome a owner ≡ bound t cw (replicate max_contours 0)) where
  pub printable : {shapes dropped : ℕ} → a ≡ bound_to shapes dropped → Printable (print_table t owner) (totals_of t shapes dropped)
  printable h =
      subst (λ (x : Result Bound Refusal). MayPrint t x owner) h
      (subst (λ (o : Outcome). MayPrint t o.answer o.owner) (sym e) (bound_may t cw (replicate max_contours 0)))

  pub bound_text_lem : (x : Result Bound Refusal) → a ≡ x → binding_text t x owner ≡ bound_text t cw
  unfolding bound_text
  bound_text_lem x h = ap (λ (y : Result Bound Refusal). binding_text t y owner) (sym h) ∙ ap (λ (o : Outcome). outcome_text t o) e
