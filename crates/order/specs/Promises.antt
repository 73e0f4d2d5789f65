-- What each public function promises, written once: its contract names it, and any two outcomes that it allows are equal.
use Rattle.std.specs.Prelude.{ℕ, ◌≡◌, Bool, List}
use Rattle.std.proofs.Common.{sym, ◌∙◌}
use Rattle.table.specs.Table.{Table, contour_count}
use Rattle.table.specs.Fronts.{kept_once}
use Rattle.anchor.specs.declared.Anchor.{Anchor}
use Rattle.anchor.specs.Anchors.{Anchors, blank, anchor_at}
use Rattle.order.specs.HoleLists.{GatheredInto, OrderedInto}

-- over `who` and the anchors at entry, then the answer m and the two lists at exit
abbrev pub GatherHolesSays : Table → Bool → (who : List ℕ) → (list : List Anchor) → (m : ℕ) → (who' : List ℕ) → (list' : List Anchor) → Type 0
GatherHolesSays t clockwise who list m who' list' = GatheredInto t clockwise (contour_count t) m who list who' list'

pub gather_holes_once : (t : Table) (clockwise : Bool) (who : List ℕ) (list : List Anchor) (m₁ m₂ : ℕ) (who₁ who₂ : List ℕ) (list₁ list₂ : List Anchor)
    → GatherHolesSays t clockwise who list m₁ who₁ list₁ → GatherHolesSays t clockwise who list m₂ who₂ list₂
    → (m₁ ≡ m₂) × (who₁ ≡ who₂) × (list₁ ≡ list₂)
gather_holes_once t clockwise who list m₁ m₂ who₁ who₂ list₁ list₂ p q' = (
  as_many,
  kept_once 0 m₁ who who₁ p.who_kept who₂ q.who_kept (λ j l. p.found.who_is j l ∙ sym (q.found.who_is j l)),
  kept_once blank m₁ list list₁ p.anchors_kept list₂ q.anchors_kept
      (λ j l. sym (anchor_at list₁ j) ∙ p.found.at j l ∙ sym (q.found.at j l) ∙ anchor_at list₂ j),
)
  where
    as_many : m₁ ≡ m₂
    as_many = p.found.all ∙ sym q'.found.all

    q : GatherHolesSays t clockwise who list m₁ who₂ list₂
    q = rw as_many q'

-- over `ord` at entry, then at exit
abbrev pub OrderHolesSays : Anchors → (who : List ℕ) → (m : ℕ) → (ord ord' : List ℕ) → Type 0
OrderHolesSays h who m ord ord' = OrderedInto h who m ord ord'

pub order_holes_once : (h : Anchors) (who : List ℕ) (m : ℕ) (ord ord₁ ord₂ : List ℕ)
    → OrderHolesSays h who m ord ord₁ → OrderHolesSays h who m ord ord₂ → ord₁ ≡ ord₂
order_holes_once h who m ord ord₁ ord₂ p q = kept_once 0 m ord ord₁ p.kept ord₂ q.kept (λ i l. p.done i l ∙ sym (q.done i l))
