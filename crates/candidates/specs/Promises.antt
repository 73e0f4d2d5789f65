-- What each public function promises, written once: its contract names it, and any two outcomes that it allows are equal.
use Rattle.std.specs.Prelude.{ℕ, ◌<◌, ◌≡◌, List, length, get_or}
use Rattle.std.proofs.Common.{arith, sym, ◌∙◌}
use Rattle.laws.specs.Unique.{Determines}
use Rattle.turn.specs.Points.{OnGrid}
use Rattle.table.specs.TableChecks.{start_in}
use Rattle.table.specs.Passing.{Located, cover}
use Rattle.table.specs.Fronts.{kept_once}
use Rattle.edges.specs.declared.Edge.{Edge}
use Rattle.candidates.specs.EdgeLists.{EdgeLists, listed_edge, Ranges, ranges, RoundInto}

abbrev pub ListedEdgeSays : EdgeLists → ℕ → Edge → Type 0
ListedEdgeSays g k r = (r ≡ listed_edge g k) × (OnGrid r.left) × (OnGrid r.right)

pub listed_edge_once : (g : EdgeLists) (k : ℕ) → Determines (ListedEdgeSays g k)
listed_edge_once g k r s p q = p.0 ∙ sym q.0

-- over both lists at entry, then both at exit
abbrev pub ListEdgesSays : (first len next of next' of' : List ℕ) → Type 0
ListEdgesSays first len next of next' of' = RoundInto first len (length first) next of next' of'

pub list_edges_once : (first len next of next₁ of₁ next₂ of₂ : List ℕ) → Ranges first len
    → ListEdgesSays first len next of next₁ of₁ → ListEdgesSays first len next of next₂ of₂ → (next₁ ≡ next₂) × (of₁ ≡ of₂)
list_edges_once first len next of next₁ of₁ next₂ of₂ r p q = (
  kept_once 0 _ next next₁ p.next_kept next₂ q.next_kept (λ k l. same_next k (held k l)),
  kept_once 0 _ of of₁ p.of_kept of₂ q.of_kept (λ k l. same_of k (held k l)),
)
  where
    -- every place before the end of the last range is some contour's
    held : (k : ℕ) → k < start_in first len (length first) → (c : ℕ) × Located (ranges first len) k c
    held k l = cover (ranges first len) r.follow (length first) k (omega arith) l

    same_next : (k : ℕ) → (c : ℕ) × Located (ranges first len) k c → get_or next₁ k 0 ≡ get_or next₂ k 0
    same_next k (c, h) = p.round.next_is c k h.below h.from h.to ∙ sym (q.round.next_is c k h.below h.from h.to)

    same_of : (k : ℕ) → (c : ℕ) × Located (ranges first len) k c → get_or of₁ k 0 ≡ get_or of₂ k 0
    same_of k (c, h) = p.round.of_is c k h.below h.from h.to ∙ sym (q.round.of_is c k h.below h.from h.to)
