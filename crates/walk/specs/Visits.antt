-- Of any graph: a walk marks unvisited links only, one after the other, and one at least.
use Prim.Native.Nat.{ℕ, zero, suc, ◌+◌, ◌<◌}
use Rattle.std.proofs.Common.{arith, sym, ap, ap₂, ◌∙◌, eq-eqb, ne_eqb}
use Rattle.std.proofs.Math.Decide.{ℕ_discrete}
use Rattle.std.specs.Prelude.{◌≡◌, refl, Bool, true, false, not, length, set, eqb, Option, Some, None}
use mathlib.Core.List.{List, [], ◌∷◌}
use Rattle.laws.specs.Test.{pick, pick_true, pick_false, pick_ind}
use Rattle.graph.specs.Graph.{Graph}
use Rattle.next.specs.Next.{is_unvisited, unvisited, other, next_link}
use Rattle.walk.specs.Walk.{Step, Walked, stuck, done, cons_step, on_next, step_from, walk_on, walk_from, marked, mark_of}
use Rattle.walk.specs.States.{Unvisited, Mark, set_other, set_same, unvisited_set}
use Rattle.onward.specs.Named.{Among, next_among}
use Rattle.turn.specs.declared.Reason.TheVariants.{WrongLastLink}

-- ---- walks that mark unvisited links only
abbrev pub Fresh : ℕ → List ℕ → List Step → Type 0
Fresh m st [] = Unit {0}
Fresh m st (s ∷ l) = Unvisited st s.link × Fresh m (set st s.link m) l

-- each visits as many links as it has steps
pub fresh_count : (m : ℕ) (st : List ℕ) (l : List Step) → Mark m → Fresh m st l → unvisited st ≡ length l + unvisited (marked m l st)
fresh_count m st [] n f = omega arith
fresh_count m st (s ∷ l) n f = omega (arith, unvisited_set st s.link m f.0 n, fresh_count m (set st s.link m) l n f.1)

-- how often a walk has link k
abbrev pub times_in : ℕ → List Step → ℕ
times_in k [] = 0
times_in k (s ∷ l) = pick (eqb s.link k) 1 0 + times_in k l

abbrev pub one : Bool → ℕ
one b = pick b 1 0

step_times : (k m : ℕ) (st : List ℕ) (f : ℕ) → Unvisited st f → Mark m → pick (eqb f k) 1 0 + one (is_unvisited (set st f m) k) ≡ one (is_unvisited st k)
step_times k m st f o n = elim (ℕ_discrete k f) [ yes q ↦ same q | no d ↦ differs d ]
  where
    same : k ≡ f → pick (eqb f k) 1 0 + one (is_unvisited (set st f m) k) ≡ one (is_unvisited st k)
    same q = ap₂ ◌+◌ (pick_true 1 0 (eq-eqb f k (sym q))) (ap one (ap (is_unvisited (set st f m)) q ∙ set_same st f m o n))
        ∙ sym (ap one (ap (is_unvisited st) q ∙ o))

    differs : (k ≡ f → ⊥) → pick (eqb f k) 1 0 + one (is_unvisited (set st f m) k) ≡ one (is_unvisited st k)
    differs d = omega (arith, pick_false {A = ℕ} {b = eqb f k} 1 0 (ne_eqb f k (λ q. d (sym q))), ap one (set_other st f m k d))

pub fresh_times : (k m : ℕ) (st : List ℕ) (l : List Step) → Mark m → Fresh m st l → times_in k l + one (is_unvisited (marked m l st) k) ≡ one
    (is_unvisited st k)
fresh_times k m st [] n f = omega arith
fresh_times k m st (s ∷ l) n f = omega (arith, step_times k m st s.link f.0 n, fresh_times k m (set st s.link m) l n f.1)

-- ---- a walk
abbrev pub Leaves : ℕ → List ℕ → Walked → Type 0
Leaves m st (stuck reason) = Unit {0}
Leaves m st (done l after) = (after ≡ marked m l st) × Fresh m st l

leaves_cons : (m : ℕ) (st : List ℕ) (s : Step) (o : Walked) → Unvisited st s.link → Leaves m (set st s.link m) o → Leaves m st (cons_step s o)
leaves_cons m st s (stuck reason) o h = tt
leaves_cons m st s (done l after) o h = (h.0, (o, h.1))

module _ (g : Graph) (w : Bool) (home last mark : ℕ) where
  leaves_next : (go : ℕ → ℕ → List ℕ → Walked) (v : ℕ) (st : List ℕ) → ((v e : ℕ) (st : List ℕ) → Leaves mark st (go v e st))
      → (l : List ℕ) (o : Option ℕ) → Among st l o
      → Leaves mark st (on_next (λ f. cons_step (step_from g v f) (go (other g v f) f (set st f mark))) o)
  leaves_next go v st h l None a = tt
  leaves_next go v st h l (Some f) a = leaves_cons mark st (step_from g v f) (go (other g v f) f (set st f mark)) a.1 (h (other g v f) f (set st f mark))

  pub walk_leaves : (fuel v e : ℕ) (st : List ℕ) → Leaves mark st (walk_on fuel g w home last mark v e st)
  unfolding walk_on
  walk_leaves zero v e st = tt
  walk_leaves (suc fuel) v e st =
      pick_ind (eqb e last) (pick (eqb v home) (done [] st) (stuck WrongLastLink)) _ (Leaves mark st)
      (λ p. pick_ind (eqb v home) (done [] st) (stuck WrongLastLink) (Leaves mark st) (λ q. (refl, tt)) (λ q. tt))
      (λ n. leaves_next (λ v e st. walk_on fuel g w home last mark v e st) v st (walk_leaves fuel) (g.entries v) (next_link g w st v e) (next_among g w st v e))

-- a whole walk has a link at least
abbrev pub Visits : ℕ → List ℕ → Walked → Type 0
Visits m st (stuck reason) = Unit {0}
Visits m st (done l after) = (after ≡ marked m l st) × Fresh m st l × (0 < length l)

visits_cons : (m : ℕ) (st : List ℕ) (s : Step) (o : Walked) → Unvisited st s.link → Leaves m (set st s.link m) o → Visits m st (cons_step s o)
visits_cons m st s (stuck reason) o h = tt
visits_cons m st s (done l after) o h = (h.0, (o, h.1), omega arith)

pub from_visits : (g : Graph) (forward sense : Bool) (mark : ℕ) (st : List ℕ) (s : ℕ) → Unvisited st s → Visits mark st (walk_from g forward sense mark st s)
unfolding walk_from
from_visits g forward sense mark st s o = by (next_link g (not sense) (set st s mark) (pick forward (g.a_node s) (g.b_node s)) s)
  where
    home : ℕ
    home = pick forward (g.a_node s) (g.b_node s)

    ahead : ℕ
    ahead = pick forward (g.b_node s) (g.a_node s)

    by : (o : Option ℕ)
        → Visits mark st
        (on_next (λ last. cons_step (record { link = s; forward = forward })
        (walk_on (suc (unvisited (set st s mark))) g sense home last mark ahead s (set st s mark))) o)
    by None = tt
    by (Some last) =
        visits_cons mark st (record { link = s; forward = forward })
        (walk_on (suc (unvisited (set st s mark))) g sense home last mark ahead s (set st s mark)) o
        (walk_leaves g sense home last mark (suc (unvisited (set st s mark))) ahead s (set st s mark))

pub visits_fewer : (m : ℕ) (st : List ℕ) (l : List Step) (after : List ℕ) → Mark m → Visits m st (done l after) → unvisited after < unvisited st
visits_fewer m st l after n h = omega (arith, fresh_count m st l n h.1, ap unvisited h.0, h.2)

pub mark_of_lem : (hole : Bool) → Mark (mark_of hole)
mark_of_lem true = refl
mark_of_lem false = refl
