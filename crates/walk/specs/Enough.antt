-- Of any graph: the fuel of a walk is enough, so that more changes nothing.
use Prim.Native.Nat.{ℕ, zero, suc, ◌<◌}
use Rattle.std.proofs.Common.{arith}
use Rattle.std.specs.Prelude.{◌≡◌, refl, Bool, set, eqb, Option, Some, None}
use Rattle.std.proofs.Math.Path.{ap}
use mathlib.Core.List.{List, []}
use Rattle.laws.specs.Test.{pick}
use Rattle.graph.specs.Graph.{Graph}
use Rattle.next.specs.Next.{unvisited, other, next_link}
use Rattle.walk.specs.Walk.{Walked, stuck, done, cons_step, on_next, step_from, walk_on}
use Rattle.walk.specs.States.{Unvisited, Mark, unvisited_set}
use Rattle.onward.specs.Named.{Among, next_among}
use Rattle.turn.specs.declared.Reason.TheVariants.{WrongLastLink}

pub no_fewer : (st : List ℕ) → unvisited st < 0 → ⊥
no_fewer st h = omega arith

-- ---- a walk
module _ (g : Graph) (w : Bool) (home last mark : ℕ) (m : Mark mark) where
  same_next : (p q : ℕ → ℕ → List ℕ → Walked) (v : ℕ) (st l : List ℕ) → ((v e f : ℕ) → Unvisited st f → p v e (set st f mark) ≡ q v e (set st f mark))
      → (o : Option ℕ) → Among st l o
      → on_next (λ f. cons_step (step_from g v f) (p (other g v f) f (set st f mark))) o
      ≡ on_next (λ f. cons_step (step_from g v f) (q (other g v f) f (set st f mark))) o
  same_next p q v st l h None a = refl
  same_next p q v st l h (Some f) a = ap (cons_step (step_from g v f)) (h (other g v f) f f a.1)

  pub walk_enough : (fuel fuel' v e : ℕ) (st : List ℕ) → unvisited st < fuel → unvisited st < fuel'
      → walk_on fuel g w home last mark v e st ≡ walk_on fuel' g w home last mark v e st
  unfolding walk_on
  walk_enough zero fuel' v e st h k = absurd (no_fewer st h)
  walk_enough (suc fuel) zero v e st h k = absurd (no_fewer st k)
  walk_enough (suc fuel) (suc fuel') v e st h k =
      ap (λ r. pick (eqb e last) (pick (eqb v home) (done [] st) (stuck WrongLastLink)) r)
      (same_next (λ v e st. walk_on fuel g w home last mark v e st) (λ v e st. walk_on fuel' g w home last mark v e st) v st (g.entries v)
      (λ u d f o. walk_enough fuel fuel' u d (set st f mark) (less f o h) (less f o k))
      (next_link g w st v e) (next_among g w st v e))
    where
      less : {n : ℕ} (f : ℕ) → Unvisited st f → unvisited st < suc n → unvisited (set st f mark) < n
      less f o h = omega (arith, unvisited_set st f mark o m)
