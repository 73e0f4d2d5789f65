-- What each public function promises, written once: its contract names it, and any two outcomes that it allows are equal, list by list.
use Rattle.std.specs.Prelude.{ℕ, ◌≡◌, List}
use Rattle.std.proofs.Common.{sym, ◌∙◌}
use Rattle.laws.specs.Unique.{same_part}
use Rattle.writing.specs.Put.{at_front}
use Rattle.format_lists.specs.Columns.{Columns, links_into}
use Rattle.format_lists.specs.NodeLists.{starts_from, entries_from}

-- the eight columns, before and after
abbrev pub FillLinksSays : List ℕ → ℕ → Columns → Columns → Type 0
FillLinksSays s n before after = after ≡ links_into s n before

pub fill_links_once : (s : List ℕ) (n : ℕ) (before x y : Columns) → FillLinksSays s n before x → FillLinksSays s n before y
    → (x.ax ≡ y.ax) × (x.ay ≡ y.ay) × (x.bx ≡ y.bx) × (x.by ≡ y.by) × (x.a_id ≡ y.a_id) × (x.b_id ≡ y.b_id) × (x.top ≡ y.top)
    × (x.state ≡ y.state)
fill_links_once s n before x y p q = (
  same_part (λ (c : Columns). c.ax) p q,
  same_part (λ (c : Columns). c.ay) p q,
  same_part (λ (c : Columns). c.bx) p q,
  same_part (λ (c : Columns). c.by) p q,
  same_part (λ (c : Columns). c.a_id) p q,
  same_part (λ (c : Columns). c.b_id) p q,
  same_part (λ (c : Columns). c.top) p q,
  same_part (λ (c : Columns). c.state) p q,
)

-- starts and list before, then after
abbrev pub FillNodesSays : List ℕ → ℕ → ℕ → List ℕ → List ℕ → List ℕ → List ℕ → Type 0
FillNodesSays s from m oldStart oldList start list =
    (start ≡ at_front (starts_from s m from 0) oldStart) × (list ≡ at_front (entries_from s m from) oldList)

pub fill_nodes_once : (s : List ℕ) (from m : ℕ) (oldStart oldList start list start' list' : List ℕ)
    → FillNodesSays s from m oldStart oldList start list → FillNodesSays s from m oldStart oldList start' list' → (start ≡ start') × (list ≡ list')
fill_nodes_once s from m oldStart oldList start list start' list' p q = (p.0 ∙ sym q.0, p.1 ∙ sym q.1)
