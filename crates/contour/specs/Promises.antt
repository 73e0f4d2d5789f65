-- What each public function promises, written once: its contract names it, and any two outcomes that it allows are equal.
use Rattle.std.specs.Prelude.{List, ◌≡◌, Bool, not, ℤ, ℕ, Result, Err}
use Rattle.std.proofs.Common.{sym, ◌∙◌, arith}
use Rattle.std.specs.Bool.{beq}
use Rattle.graph.specs.Graph.{Graph}
use Rattle.rings.specs.Field.{Steers, Reads}
use Rattle.walk.specs.Walk.{Walked, stuck, done, walk_from, mark_of}
use Rattle.keep.specs.declared.Counts.{Counts}
use Rattle.keep.specs.Tables.{Tables, tables}
use Rattle.contour.specs.declared.Settings.{Settings}
use Rattle.contour.specs.Notes.{WalkNoted, entered}
use Rattle.turn.specs.declared.Reason.{Reason}
use Rattle.contour.specs.declared.Entered.{Entered}

-- for every graph whose field of ends and whose points the lists hold
abbrev pub NoteContourSays : (ax ay bx by : List ℤ) (nxt prv : List ℕ) (settings : Settings) (hole : Bool) (state : List ℕ) (points : List ℤ)
    (first len kind : List ℕ) (s : ℕ) (c : Counts) → Result Entered Reason → List ℕ → List ℤ → List ℕ → List ℕ → List ℕ → Type 0
NoteContourSays ax ay bx by nxt prv settings hole state points first len kind s c r state' points' first' len' kind' =
    (g : Graph) → Steers g nxt prv state → Reads g ax ay bx by
    → WalkNoted g settings.minimum (tables points first len kind c) hole s
    (walk_from g (not (beq hole settings.clockwise)) (beq hole settings.clockwise) (mark_of hole) state s) r
    state' points' first' len' kind'

pub stuck_not_entered : (reason : Reason) (c : Counts) (s : ℕ) → Err reason ≡ entered c s → ⊥
stuck_not_entered reason c s e = let z : ◌≡◌ {A = ℕ} 0 1 = cc in omega arith

-- two outcomes have one answer and, where the walk is entered, the same states, points and table
pub record SameNote (r s : Result Entered Reason) (st st' : List ℕ) (pts pts' : List ℤ) (f f' l l' k k' : List ℕ) : Type 0 where
  pub answer : r ≡ s
  pub buffers : (c : Counts) (from : ℕ) → r ≡ entered c from → (st ≡ st') × (pts ≡ pts') × (f ≡ f') × (l ≡ l') × (k ≡ k')

pub noted_once : (g : Graph) (minimum : ℕ) (t : Tables) (hole : Bool) (from : ℕ) (o : Walked) (r s : Result Entered Reason) (st st' : List ℕ)
    (pts pts' : List ℤ) (f f' l l' k k' : List ℕ)
    → WalkNoted g minimum t hole from o r st pts f l k → WalkNoted g minimum t hole from o s st' pts' f' l' k'
    → SameNote r s st st' pts pts' f f' l l' k k'
noted_once g minimum t hole from (stuck reason) r s st st' pts pts' f f' l l' k k' p q = record {
  answer = p ∙ sym q;
  buffers = λ c d e. absurd (stuck_not_entered reason c d (sym p ∙ e));
}
noted_once g minimum t hole from (done steps left) r s st st' pts pts' f f' l l' k k' p q = record {
  answer = p.0 ∙ sym q.0;
  buffers = λ c d e. (p.1 ∙ sym q.1, p.2 ∙ sym q.2, p.3 ∙ sym q.3, p.4 ∙ sym q.4, p.5 ∙ sym q.5);
}

-- that there is such a graph is required
pub note_contour_once : (ax ay bx by : List ℤ) (nxt prv : List ℕ) (settings : Settings) (hole : Bool) (state : List ℕ) (points : List ℤ)
    (first len kind : List ℕ) (from : ℕ) (c : Counts) (g : Graph) → Steers g nxt prv state → Reads g ax ay bx by
    → (r s : Result Entered Reason) (st st' : List ℕ) (pts pts' : List ℤ) (f f' l l' k k' : List ℕ)
    → NoteContourSays ax ay bx by nxt prv settings hole state points first len kind from c r st pts f l k
    → NoteContourSays ax ay bx by nxt prv settings hole state points first len kind from c s st' pts' f' l' k'
    → SameNote r s st st' pts pts' f f' l l' k k'
note_contour_once ax ay bx by nxt prv settings hole state points first len kind from c g steers reads r s st st' pts pts' f f' l l' k k' p q =
    noted_once g settings.minimum (tables points first len kind c) hole from
    (walk_from g (not (beq hole settings.clockwise)) (beq hole settings.clockwise) (mark_of hole) state from) r s st st' pts pts'
    f f' l l' k k' (p g steers reads) (q g steers reads)
