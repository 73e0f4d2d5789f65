-- The checks come first: what extraction leaves, as its settings ask for it, by their answer.
use Rattle.std.specs.Prelude.{ℕ, ◌≡◌, Bool, true, false, List, length}
use Rattle.std.proofs.Common.{sym}
use Rattle.std.proofs.Math.Path.{ap}
use Rattle.laws.specs.Test.{pick}
use Rattle.graph.specs.Graph.{Lent, graph_of}
use Rattle.graph.specs.Checks.{room, checked}
use Rattle.contour.specs.declared.Settings.{Settings}
use Rattle.scan.specs.Scan.{scan}
use Rattle.finish.specs.Finish.{Buffers}
use Rattle.extraction.specs.Extract.{extracted_as, after_scan, extracted}
use Rattle.extraction.specs.Lends as plain
use Rattle.outlines.specs.Outlines.{straight_scan, straight_checks, extracted_straight, drawn, outlined}
use Rattle.turn.specs.Refusals.{Checked, refused, no_fault}
use Rattle.turn.specs.declared.Reason.{Reason}

module _ (g : Lent) (top : List ℕ) (settings : Settings) (b : Buffers) where
  abbrev checks : Checked
  checks = checked g top b.state (room (length b.points) (length b.first) (length b.len) (length b.kind))

  abbrev cw : Bool
  cw = settings.clockwise

  abbrev minimum : ℕ
  minimum = settings.minimum

  straight_refusal : (reason : Reason) (place : ℕ) → checks ≡ refused reason place
      → extracted_as (refused reason place) b ≡ extracted_straight g top cw minimum b
  unfolding extracted_straight
  straight_refusal reason place e = ap (straight_checks (graph_of g top) cw minimum b) (sym e)

  straight_fine : checks ≡ no_fault → straight_scan (graph_of g top) minimum b (scan (graph_of g top) cw b.state) ≡ extracted_straight g top cw minimum b
  unfolding extracted_straight
  straight_fine e = ap (straight_checks (graph_of g top) cw minimum b) (sym e)

  pub after_refusal : (reason : Reason) (place : ℕ) → checks ≡ refused reason place → extracted_as (refused reason place) b ≡ outlined g top settings b
  after_refusal reason place e = by settings.drop_straight
    where
      by : (d : Bool) → extracted_as (refused reason place) b ≡ pick d (extracted_straight g top cw minimum b) (extracted g top cw minimum b)
      by true = straight_refusal reason place e
      by false = plain.after_refusal g top cw minimum b reason place e

  pub after_fine : checks ≡ no_fault → drawn (graph_of g top) settings b (scan (graph_of g top) cw b.state) ≡ outlined g top settings b
  after_fine e = by settings.drop_straight
    where
      by : (d : Bool) → pick d (straight_scan (graph_of g top) minimum b (scan (graph_of g top) cw b.state))
          (after_scan (graph_of g top) minimum b (scan (graph_of g top) cw b.state))
          ≡ pick d (extracted_straight g top cw minimum b) (extracted g top cw minimum b)
      by true = straight_fine e
      by false = plain.after_fine g top cw minimum b e
