-- After extraction, what it kept of the points and the table fits the buffers.
use Rattle.std.specs.Prelude.{Result, Ok, Err}
use Prim.Native.Nat.{ℕ, suc, ◌-◌, ◌≤◌}
use native.Mathlib.Omega.{arith}
use mathlib.Core.Path.{◌≡◌, refl, sym, ap, ◌∙◌, subst}
use mathlib.Core.Bool.{Bool}
use mathlib.Core.List.{List, [], ◌∷◌}
use lib.IntN.{pos}
use lib.ListN.{length, replicate, length-append, length-map}
use Rattle.graph.specs.Graph.{Lent, graph_of, Graph}
use Rattle.graph.specs.Checks.{checked, room}
use Rattle.walk.specs.Walk.{Walk}
use Rattle.writing.specs.Cuts.{cut}
use Rattle.answer_graph.specs.GraphText.{lent_table, extracted_text, extracted_states}
use Rattle.answer_table.specs.ExtractionText.{ExtractionFits, extraction_text}
use Rattle.scan.specs.Scan.{Scanned, stopped, walks, scan}
use Rattle.keep.specs.Outcome.{lens, firsts, kinds, all_points, coordinates, kept}
use Rattle.finish.specs.Finish.{Buffers}
use Rattle.extraction.specs.Extract.{Extracted, extracted_as, after_scan, after_checks, extracted}
use Rattle.laws.specs.Lists.{padded}
use Rattle.keep.specs.Ledger.{coordinates_length, all_points_length, firsts_length}
use Rattle.turn.specs.Refusals.{Checked, numbered}
use Rattle.turn.specs.declared.NumberedRefusal.{NumberedRefusal}
use Rattle.turn.specs.declared.Refusal.{Refusal}
use Rattle.keep.specs.declared.Counts.{Counts}

padded_long : {A : Type 0} (z : A) (l : List A) (n : ℕ) → length l ≤ length (padded z l n)
padded_long z l n = omega (arith, length-append l (replicate (n - length l) z))

module _ (g : Graph) (minimum : ℕ) (b : Buffers) where
  scan_fits : (o : Scanned) → ExtractionFits (numbered (after_scan g minimum b o).answer) (lent_table (after_scan g minimum b o).lent)
  scan_fits (stopped number place) = tt
  scan_fits (walks ws st) =
      let ks = kept g minimum ws in
      record {
        points = cut _ _
            (omega (
              arith,
              padded_long (pos 0) (coordinates (all_points g ks)) (length b.points),
              coordinates_length (all_points g ks),
              all_points_length g ks,
            ));
        first = cut _ _
            (omega (
              arith,
              padded_long 0 (firsts 0 (lens ks)) (length b.first),
              firsts_length 0 (lens ks),
              length-map ks (λ (w : Walk). length w.steps),
            ));
        len = cut _ _ (omega (arith, padded_long 0 (lens ks) (length b.len), length-map ks (λ (w : Walk). length w.steps)));
        kind = cut _ _ (omega (arith, padded_long 0 (kinds ks) (length b.kind), kinds_length ks));
      }
    where
      kinds_length : (ks : List Walk) → length (kinds ks) ≡ length ks
      kinds_length [] = refl
      kinds_length (w ∷ ks) = ap suc (kinds_length ks)

checks_fit : (g : Graph) (cw : Bool) (minimum : ℕ) (b : Buffers) (k : Checked) → ExtractionFits (numbered (after_checks g cw minimum b k).answer)
    (lent_table (after_checks g cw minimum b k).lent)
checks_fit g cw minimum b (Err r) = tt
checks_fit g cw minimum b (Ok u) = scan_fits g minimum b (scan g cw b.state)

all_fit : (g : Lent) (top : List ℕ) (cw : Bool) (minimum : ℕ) (b : Buffers)
    → ExtractionFits (numbered (extracted g top cw minimum b).answer) (lent_table (extracted g top cw minimum b).lent)
unfolding extracted
all_fit g top cw minimum b =
    checks_fit (graph_of g top) cw minimum b (checked g top b.state (room (length b.points) (length b.first) (length b.len) (length b.kind)))

-- what binding's stage is asked, what it then prints, and the states
module _ (g : Lent) (top : List ℕ) (cw : Bool) (minimum : ℕ) (b : Buffers) {a : Result Counts Refusal} {b' : Buffers}
    (e : extracted_as a b' ≡ extracted g top cw minimum b) where
  pub extraction_fits : {n : Result Counts NumberedRefusal} → n ≡ numbered a → ExtractionFits n (lent_table b')
  extraction_fits h =
      subst (λ (n : Result Counts NumberedRefusal). ExtractionFits n (lent_table b')) (sym h)
      (subst (λ (x : Extracted). ExtractionFits (numbered x.answer) (lent_table x.lent)) (sym e) (all_fit g top cw minimum b))

  pub extracted_text_lem : {n : Result Counts NumberedRefusal} → n ≡ numbered a → extraction_text cw n (lent_table b') ≡ extracted_text g top cw minimum b
  unfolding extracted_text
  extracted_text_lem h =
      ap (λ (n : Result Counts NumberedRefusal). extraction_text cw n (lent_table b')) h
      ∙ ap (λ (y : Extracted). extraction_text cw (numbered y.answer) (lent_table y.lent)) e

  pub extracted_states_lem : b'.state ≡ extracted_states g top cw minimum b
  unfolding extracted_states
  extracted_states_lem = ap (λ (y : Extracted). y.lent.state) e
