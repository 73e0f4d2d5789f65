-- The third demand, proved; and each of its conclusions by itself, of the walks that the scan ends with.
use Rattle.std.specs.Prelude.{ℕ, ◌≡◌, Bool, List, ◌+ℤ◌}
use Rattle.std.proofs.Common.{sym, ◌∙◌, subst}
use Rattle.graph.specs.Graph.{Graph}
use Rattle.extraction.specs.Theorems.{kept_and_rejected}
use Rattle.scan.specs.Scan.{Scanned, stopped, walks, scan}
use Rattle.keep.specs.Outcome.{kept, rejected, areas, total}
use Rattle.tour.specs.Statement.{Toured, ThirdDemand, link_total}
use Rattle.tour.proofs.Round.{next_turns}
use Rattle.tour.proofs.Theorem.{tour}
use Rattle.tour.specs.Passing.{sound}
use Rattle.turn.specs.declared.Reason.{Reason}

pub third_demand : ThirdDemand
third_demand g top st r cw e t = let ok = sound g top st r e in tour _ st ok (next_turns _ st ok t) cw

-- the totals of kept and of rejected walks, by any minimum, are the total over the links
pub kept_total : (g : Graph) (cw : Bool) (st : List ℕ) (minimum : ℕ) (t : Toured g cw st)
    → total (areas g (kept g minimum t.found)) +ℤ total (areas g (rejected g minimum t.found)) ≡ link_total g cw st
kept_total g cw st minimum t = kept_and_rejected g minimum t.found ∙ t.area

-- the scan of such a graph is never refused
pub not_stopped : (g : Graph) (cw : Bool) (st : List ℕ) → Toured g cw st → (reason : Reason) (place : ℕ) → scan g cw st ≡ stopped reason place → ⊥
not_stopped g cw st t reason place e = subst IsWalks (sym t.done ∙ e) tt
  where
    IsWalks : Scanned → Type 0
    IsWalks (stopped reason place) = ⊥
    IsWalks (walks ws after) = Unit {0}
