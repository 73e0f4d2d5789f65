-- What each public function promises, written once: its contract names it, and any two outcomes that it allows are equal.
use Rattle.std.specs.Prelude.{ℕ, Bool, List, ℤ, Option, Some, None, Result}
use Rattle.std.proofs.Common.{sym, ◌∙◌}
use Rattle.graph.specs.Graph.{Graph}
use Rattle.next.specs.Next.{first_link}
use Rattle.rings.specs.Field.{Field}
use Rattle.keep.specs.declared.Counts.{Counts}
use Rattle.keep.specs.Tables.{Tables, tables}
use Rattle.contour.specs.declared.Settings.{Settings}
use Rattle.contour.specs.Promises.{SameNote, stuck_not_entered, noted_once}
use Rattle.scan.specs.Scan.{walk_of}
use Rattle.scan.specs.Notes.{FirstNoted}
use Rattle.scan.specs.Held.{Held, Standing}
use Rattle.turn.specs.declared.Reason.{Reason}
use Rattle.turn.specs.declared.Reason.TheVariants.{NoNextLink}
use Rattle.contour.specs.declared.Entered.{Entered}

-- for every graph whose field of ends, points and tops the lists hold, and of which `held` is told rightly
abbrev pub ScanWalkSays : (ax ay bx by : List ℤ) (nxt prv lead top : List ℕ) (settings : Settings) (state : List ℕ) (points : List ℤ)
    (first len kind : List ℕ) (k : ℕ) (held : Option ℕ) (c : Counts) → Result Entered Reason → List ℕ → List ℤ → List ℕ → List ℕ → List ℕ → Type 0
ScanWalkSays ax ay bx by nxt prv lead top settings state points first len kind k held c r state' points' first' len' kind' =
    (g : Graph) → Field g ax ay bx by top nxt prv lead state → Held g state k held
    → FirstNoted g settings.clockwise settings.minimum (tables points first len kind c) state (first_link g state k) r
    state' points' first' len' kind'

first_once : (g : Graph) (cw : Bool) (minimum : ℕ) (t : Tables) (state : List ℕ) (n : Option ℕ) (r s : Result Entered Reason) (st st' : List ℕ)
    (pts pts' : List ℤ) (f f' l l' k k' : List ℕ)
    → FirstNoted g cw minimum t state n r st pts f l k → FirstNoted g cw minimum t state n s st' pts' f' l' k'
    → SameNote r s st st' pts pts' f f' l l' k k'
first_once g cw minimum t state None r s st st' pts pts' f f' l l' k k' p q = record {
  answer = p ∙ sym q;
  buffers = λ c d e. absurd (stuck_not_entered NoNextLink c d (sym p ∙ e));
}
first_once g cw minimum t state (Some from) r s st st' pts pts' f f' l l' k k' p q =
    noted_once g minimum t (g.top from) from (walk_of g cw state from) r s st st' pts pts' f f' l l' k k' p q

-- that there is such a graph is required
pub scan_walk_once : (ax ay bx by : List ℤ) (nxt prv lead top : List ℕ) (settings : Settings) (state : List ℕ) (points : List ℤ)
    (first len kind : List ℕ) (at : ℕ) (held : Option ℕ) (c : Counts) → Standing ax ay bx by top nxt prv lead state at held
    → (r s : Result Entered Reason) (st st' : List ℕ) (pts pts' : List ℤ) (f f' l l' k k' : List ℕ)
    → ScanWalkSays ax ay bx by nxt prv lead top settings state points first len kind at held c r st pts f l k
    → ScanWalkSays ax ay bx by nxt prv lead top settings state points first len kind at held c s st' pts' f' l' k'
    → SameNote r s st st' pts pts' f f' l l' k k'
scan_walk_once ax ay bx by nxt prv lead top settings state points first len kind at held c h r s st st' pts pts' f f' l l' k k' p q =
    let g = h.fielded.graph in
    first_once g settings.clockwise settings.minimum (tables points first len kind c) state (first_link g state at) r s st st' pts pts'
    f f' l l' k k' (p g h.fielded.field h.holds) (q g h.fielded.field h.holds)
