-- What each public function promises, written once: its contract names it, and any two outcomes that it allows are equal.
use Rattle.std.specs.Prelude.{List, ◌≡◌, ℤ, ℕ, Result, Ok}
use Rattle.std.proofs.Common.{sym, ◌∙◌, arith}
use Rattle.graph.specs.Graph.{Graph}
use Rattle.rings.specs.Field.{Field, Fielded}
use Rattle.keep.specs.declared.Counts.{Counts}
use Rattle.keep.specs.Tables.{Tables, tables, no_counts}
use Rattle.contour.specs.declared.Settings.{Settings}
use Rattle.scan.specs.Scan.{Scanned, stopped, walks, scan}
use Rattle.scan.specs.Notes.{ScanLeaves}
use Rattle.turn.specs.Refusals.{refused}
use Rattle.turn.specs.declared.Reason.{Reason}
use Rattle.turn.specs.declared.Refusal.{Refusal}

-- for every graph whose field of ends, points and tops the lists hold
abbrev pub ScanLinksSays : (ax ay bx by : List ℤ) (nxt prv lead top : List ℕ) (settings : Settings) (state : List ℕ) (points : List ℤ)
    (first len kind : List ℕ) → Result Counts Refusal → List ℕ → List ℤ → List ℕ → List ℕ → List ℕ → Type 0
ScanLinksSays ax ay bx by nxt prv lead top settings state points first len kind r state' points' first' len' kind' =
    (g : Graph) → Field g ax ay bx by top nxt prv lead state
    → ScanLeaves g settings.minimum (tables points first len kind no_counts) (scan g settings.clockwise state) r state' points' first' len' kind'

refused_not_done : (reason : Reason) (place : ℕ) (c : Counts) → refused reason place ≡ Ok c → ⊥
refused_not_done reason place c e = let z : ◌≡◌ {A = ℕ} 0 1 = cc in omega arith

-- two outcomes have one answer and, where the scan is done, the same states, points and table
pub record SameScan (r s : Result Counts Refusal) (st st' : List ℕ) (pts pts' : List ℤ) (f f' l l' k k' : List ℕ) : Type 0 where
  pub answer : r ≡ s
  pub buffers : (c : Counts) → r ≡ Ok c → (st ≡ st') × (pts ≡ pts') × (f ≡ f') × (l ≡ l') × (k ≡ k')

leaves_once : (g : Graph) (minimum : ℕ) (t : Tables) (o : Scanned) (r s : Result Counts Refusal) (st st' : List ℕ) (pts pts' : List ℤ) (f f' l l' k k' : List ℕ)
    → ScanLeaves g minimum t o r st pts f l k → ScanLeaves g minimum t o s st' pts' f' l' k' → SameScan r s st st' pts pts' f f' l l' k k'
leaves_once g minimum t (stopped reason place) r s st st' pts pts' f f' l l' k k' p q = record {
  answer = p ∙ sym q;
  buffers = λ c e. absurd (refused_not_done reason place c (sym p ∙ e));
}
leaves_once g minimum t (walks ws left) r s st st' pts pts' f f' l l' k k' p q = record {
  answer = p.0 ∙ sym q.0;
  buffers = λ c e. (p.1 ∙ sym q.1, p.2 ∙ sym q.2, p.3 ∙ sym q.3, p.4 ∙ sym q.4, p.5 ∙ sym q.5);
}

-- that there is such a graph is required
pub scan_links_once : (ax ay bx by : List ℤ) (nxt prv lead top : List ℕ) (settings : Settings) (state : List ℕ) (points : List ℤ)
    (first len kind : List ℕ) → Fielded ax ay bx by top nxt prv lead state
    → (r s : Result Counts Refusal) (st st' : List ℕ) (pts pts' : List ℤ) (f f' l l' k k' : List ℕ)
    → ScanLinksSays ax ay bx by nxt prv lead top settings state points first len kind r st pts f l k
    → ScanLinksSays ax ay bx by nxt prv lead top settings state points first len kind s st' pts' f' l' k'
    → SameScan r s st st' pts pts' f f' l l' k k'
scan_links_once ax ay bx by nxt prv lead top settings state points first len kind h r s st st' pts pts' f f' l l' k k' p q =
    leaves_once h.graph settings.minimum (tables points first len kind no_counts) (scan h.graph settings.clockwise state) r s st st'
    pts pts' f f' l l' k k' (p h.graph h.field) (q h.graph h.field)
