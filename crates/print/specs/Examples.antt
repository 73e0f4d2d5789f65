-- E2's answer as document 01 prints it, and a line of each other sort.
use Rattle.std.specs.Prelude.{◌-◌, ◌≡◌, refl, [], ◌∷◌, pos, negsuc}
use Rattle.turn.specs.Limits.{max_coordinate}
use Rattle.table.specs.Table.{dropped_owner}
use Rattle.print_text.specs.Text.{text}
use Rattle.print_text.specs.Decimal.{digits, decimal}
use Rattle.print.specs.Answer.{owned_table, point_lines, contours_from, printed, printed_refusal}
use Rattle.print_lines.specs.Lines.{header, contour_line, point_line}

square : printed
    (owned_table (pos 0 ∷ pos 4 ∷ pos 0 ∷ pos 0 ∷ pos 4 ∷ pos 0 ∷ pos 4 ∷ pos 4 ∷ []) (0 ∷ []) (4 ∷ []) (0 ∷ []) (0 ∷ []))
    (record { contours = 1; shapes = 1; points = 4; dropped = 0 })
    ≡ text "contours 1 shapes 1 points 4 dropped 0\n0 hull 0 4\n0 4\n0 0\n4 0\n4 4\n"
unfolding digits header contour_line point_line point_lines contours_from
square = refl

hole : contour_line 1 1 0 4 ≡ text "1 hole 0 4\n"
unfolding digits contour_line
hole = refl

dropped : contour_line 1 1 dropped_owner 4 ≡ text "1 dropped 65535 4\n"
unfolding digits contour_line
dropped = refl

refused : printed_refusal 3 2 ≡ text "refused 3 at 2\n"
unfolding digits printed_refusal
refused = refl

extremes : point_line (negsuc (max_coordinate - 1)) (pos max_coordinate) ≡ text "-524288 524288\n"
unfolding digits point_line
extremes = refl

largest : decimal 18446744073709551615 ≡ text "18446744073709551615"
unfolding digits
largest = refl
