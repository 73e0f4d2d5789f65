-- `print_refusal::write_refusal` meets its contract.
use mathlib.Core.List.{◌++◌}
use native.Mathlib.Nat.{le_trans}
use Rattle.print.specs.Lengths.{refusal_short}
use Rattle.print_text.specs.Text.{text}
use Rattle.print_text.specs.Decimal.{said}
use Rattle.print.specs.Answer.{printed_refusal}
use Rattle.writing.specs.Write.{left_from_0, left_after, left_last, piece_fits, last_fits, wrote_cut}
use Rattle.print_refusal.proofs.write_refusal.Goals as goal

pub write_said-a-requires : goal.write_said-a-requires
unfolding printed_refusal
write_said-a-requires c =
    let s = c in
    let a = s.args in
    let p = said (text "refused ") a.number in
    let q = said (text " at ") a.place in
    let l = left_from_0 a.out.now (printed_refusal a.number a.place) (le_trans (refusal_short a.number a.place s.ranges.number.fits s.ranges.place.fits)
    s.requires) in
    piece_fits p (q ++ text "\n") l

pub write_said-b-requires : goal.write_said-b-requires
unfolding printed_refusal
write_said-b-requires c =
    let s = c in
    let a = s.args in
    let p = said (text "refused ") a.number in
    let q = said (text " at ") a.place in
    let l = left_from_0 a.out.now (printed_refusal a.number a.place) (le_trans (refusal_short a.number a.place s.ranges.number.fits s.ranges.place.fits)
    s.requires) in
    piece_fits q (text "\n") (left_after p (q ++ text "\n") l c.write_said-a.ensures)

pub write_text-requires : goal.write_text-requires
unfolding printed_refusal
write_text-requires c =
    let s = c in
    let a = s.args in
    let p = said (text "refused ") a.number in
    let q = said (text " at ") a.place in
    let l = left_from_0 a.out.now (printed_refusal a.number a.place) (le_trans (refusal_short a.number a.place s.ranges.number.fits s.ranges.place.fits)
    s.requires) in
    last_fits (text "\n") (left_after q (text "\n") (left_after p (q ++ text "\n") l c.write_said-a.ensures) c.write_said-b.ensures)

pub returns : goal.returns
unfolding printed_refusal
returns c =
    let s = c in
    let a = s.args in
    let p = said (text "refused ") a.number in
    let q = said (text " at ") a.place in
    let l = left_from_0 a.out.now (printed_refusal a.number a.place) (le_trans (refusal_short a.number a.place s.ranges.number.fits s.ranges.place.fits)
    s.requires) in
    let w = left_last (text "\n") (left_after q (text "\n") (left_after p (q ++ text "\n") l c.write_said-a.ensures) c.write_said-b.ensures)
    c.write_text.ensures in record {
      write_refusal_says = w;
      cut = wrote_cut w;
    }
