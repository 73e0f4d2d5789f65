-- What each public function promises, written once: its contract names it, and any two outcomes that it allows are equal.
use Rattle.std.specs.Prelude.{ℕ, ◌<◌, ◌≡◌, Bool, List, get_or}
use Rattle.std.proofs.Common.{sym, ◌∙◌}
use Rattle.table.specs.Table.{Table}
use Rattle.table.specs.Fronts.{KeptFrom, kept_once}
use Rattle.anchor.specs.Anchors.{Anchors, listed_anchor}
use Rattle.nearest.specs.Search.{search_under}
use Rattle.nearest.specs.SearchLists.{giving}

-- over `under` at entry, then at exit
abbrev pub ContoursUnderSays : Table → (above clockwise : Bool) → List ℕ → Anchors → ℕ → (under under' : List ℕ) → Type 0
ContoursUnderSays t above clockwise mute h m under under' =
    ((j : ℕ) → j < m → get_or under' j 0 ≡ search_under t above clockwise (giving mute) (listed_anchor h j)) × (KeptFrom 0 m under under')

pub contours_under_once : (t : Table) (above clockwise : Bool) (mute : List ℕ) (h : Anchors) (m : ℕ) (under under₁ under₂ : List ℕ)
    → ContoursUnderSays t above clockwise mute h m under under₁ → ContoursUnderSays t above clockwise mute h m under under₂ → under₁ ≡ under₂
contours_under_once t above clockwise mute h m under under₁ under₂ p q =
    kept_once 0 m under under₁ p.1 under₂ q.1 (λ j l. p.0 j l ∙ sym (q.0 j l))
