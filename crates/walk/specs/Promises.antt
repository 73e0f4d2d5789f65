-- What each public function promises, written once: its contract names it, and any two outcomes that it allows are equal.
use Rattle.std.specs.Prelude.{List, ◌≡◌, ℤ, ℕ, Result, Ok, Err}
use Rattle.std.proofs.Common.{sym, ◌∙◌, arith}
use Rattle.graph.specs.Graph.{Graph}
use Rattle.rings.specs.Field.{Steers, Reads}
use Rattle.walk.specs.declared.Course.{Course}
use Rattle.walk.specs.declared.Finished.{Finished}
use Rattle.walk.specs.Walk.{Walked, stuck, done, walk_from}
use Rattle.walk.specs.Code.{WalkLeaves}
use Rattle.turn.specs.declared.Reason.{Reason}

-- for every graph whose field of ends and whose points the lists hold
abbrev pub FindContourSays : (ax ay bx by : List ℤ) (nxt prv : List ℕ) (course : Course) (state : List ℕ) (points : List ℤ) (at s : ℕ)
    → Result Finished Reason → List ℕ → List ℤ → Type 0
FindContourSays ax ay bx by nxt prv course state points at s r state' points' =
    (g : Graph) → Steers g nxt prv state → Reads g ax ay bx by
    → WalkLeaves g points at (walk_from g course.forward course.sense course.mark state s) r state' points'

stuck_not_done : (reason : Reason) (f : Finished) → Err reason ≡ Ok f → ⊥
stuck_not_done reason f e = let z : ◌≡◌ {A = ℕ} 0 1 = cc in omega arith

-- two outcomes have one answer and, where the walk is done, the same states and points
abbrev pub SameWalk : Result Finished Reason → Result Finished Reason → (st st' : List ℕ) (pts pts' : List ℤ) → Type 0
SameWalk r s st st' pts pts' = (r ≡ s) × ((f : Finished) → r ≡ Ok f → (st ≡ st') × (pts ≡ pts'))

leaves_once : (g : Graph) (points : List ℤ) (at : ℕ) (w : Walked) (r s : Result Finished Reason) (st st' : List ℕ) (pts pts' : List ℤ)
    → WalkLeaves g points at w r st pts → WalkLeaves g points at w s st' pts' → SameWalk r s st st' pts pts'
leaves_once g points at (stuck reason) r s st st' pts pts' p q =
    (p ∙ sym q, λ f e. absurd (stuck_not_done reason f (sym p ∙ e)))
leaves_once g points at (done l left) r s st st' pts pts' p q =
    (p.0 ∙ sym q.0, λ f e. (p.1 ∙ sym q.1, p.2 ∙ sym q.2))

-- that there is such a graph is required
pub find_contour_once : (ax ay bx by : List ℤ) (nxt prv : List ℕ) (course : Course) (state : List ℕ) (points : List ℤ) (at k : ℕ)
    (g : Graph) → Steers g nxt prv state → Reads g ax ay bx by
    → (r s : Result Finished Reason) (st st' : List ℕ) (pts pts' : List ℤ)
    → FindContourSays ax ay bx by nxt prv course state points at k r st pts
    → FindContourSays ax ay bx by nxt prv course state points at k s st' pts'
    → SameWalk r s st st' pts pts'
find_contour_once ax ay bx by nxt prv course state points at k g steers reads r s st st' pts pts' p q =
    leaves_once g points at (walk_from g course.forward course.sense course.mark state k) r s st st' pts pts'
    (p g steers reads) (q g steers reads)
