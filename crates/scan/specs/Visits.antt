-- Of any graph: the states that a scan leaves are those of its walks, it leaves no link unvisited,
-- and it has walked each link that was unvisited once, and no other.
use Prim.Native.Nat.{ℕ, zero, suc, ◌+◌, ◌<◌}
use native.Mathlib.Omega.{arith}
use Rattle.std.specs.Prelude.{◌≡◌, refl, Bool, true, false, not, length, ltb, Option, Some, None}
use Rattle.std.proofs.Common.{ap, subst}
use mathlib.Core.List.{List, [], ◌∷◌}
use Rattle.laws.specs.Test.{pick, pick_ind, true≢false, not_true}
use Rattle.laws.specs.Lowest.{some_of, none_of}
use Rattle.graph.specs.Graph.{Graph}
use Rattle.next.specs.Next.{is_unvisited, unvisited, first_link}
use Rattle.next.specs.States.{unvisited_below}
use Rattle.walk.specs.Walk.{Walk, Walked, stuck, done, marked, mark_of}
use Rattle.scan.specs.Scan.{sense_of, walk_of, Scanned, stopped, walks, cons_walk, after_walk, scan_at, lowest_unvisited, scan_on, scan}
use Rattle.keep.specs.Outcome.{states_after, lens, sum}
use Rattle.walk.specs.States.{Unvisited, NoneUnvisited, none_unvisited}
use Rattle.walk.specs.Named.{LinkUnvisited, first_is_unvisited}
use Rattle.walk.specs.Visits.{Fresh, fresh_count, times_in, one, fresh_times, Visits, from_visits, visits_fewer, mark_of_lem}

-- ---- walks that mark unvisited links only
abbrev pub AllFresh : List ℕ → List Walk → Type 0
AllFresh st [] = Unit {0}
AllFresh st (w ∷ ws) = Fresh (mark_of w.hole) st w.steps × AllFresh (marked (mark_of w.hole) w.steps st) ws

pub walks_count : (st : List ℕ) (ws : List Walk) → AllFresh st ws → unvisited st ≡ sum (lens ws) + unvisited (states_after ws st)
walks_count st [] f = omega arith
walks_count st (w ∷ ws) f =
    let m : ℕ = mark_of w.hole in
    omega (arith, fresh_count m st w.steps (mark_of_lem w.hole) f.0, walks_count (marked m w.steps st) ws f.1)

-- how often all walks have link k
abbrev pub times : ℕ → List Walk → ℕ
times k [] = 0
times k (w ∷ ws) = times_in k w.steps + times k ws

pub walks_times : (k : ℕ) (st : List ℕ) (ws : List Walk) → AllFresh st ws → times k ws + one (is_unvisited (states_after ws st) k) ≡ one (is_unvisited st k)
walks_times k st [] f = omega arith
walks_times k st (w ∷ ws) f =
    let m : ℕ = mark_of w.hole in
    omega (arith, fresh_times k m st w.steps (mark_of_lem w.hole) f.0, walks_times k (marked m w.steps st) ws f.1)

-- ---- the scan
pub lowest_unvisited_lem : (st : List ℕ) → ltb (lowest_unvisited st) (length st) ≡ true → Unvisited st (lowest_unvisited st)
lowest_unvisited_lem st e = (some_of (is_unvisited st) (length st) e).passes

pub lowest_none : (st : List ℕ) → ltb (lowest_unvisited st) (length st) ≡ false → NoneUnvisited st
lowest_none st e k = not_true (is_unvisited st k) (λ o. true≢false o (none_of (is_unvisited st) (length st) e k (unvisited_below st k o)))

abbrev pub LeavesAll : List ℕ → Scanned → Type 0
LeavesAll st (stopped reason place) = Unit {0}
LeavesAll st (walks ws after) = (after ≡ states_after ws st) × AllFresh st ws × NoneUnvisited after

module _ (g : Graph) (cw : Bool) where
  all_cons : (w : Walk) (st : List ℕ) (o : Scanned) → Fresh (mark_of w.hole) st w.steps → LeavesAll (marked (mark_of w.hole) w.steps st) o
      → LeavesAll st (cons_walk w o)
  all_cons w st (stopped reason place) f h = tt
  all_cons w st (walks ws after) f h = (h.0, (f, h.1), h.2)

  after_walk_lem : (go : List ℕ → Scanned) (st : List ℕ) (k : ℕ) (hole : Bool) (o : Walked) → Visits (mark_of hole) st o
      → ((after : List ℕ) → unvisited after < unvisited st → LeavesAll after (go after)) → LeavesAll st (after_walk k hole go o)
  after_walk_lem go st k hole (stuck reason) v h = tt
  after_walk_lem go st k hole (done l after) v h =
      all_cons (record { hole = hole; steps = l }) st (go after) v.1
      (subst (λ a. LeavesAll a (go after)) v.0 (h after (visits_fewer (mark_of hole) st l after (mark_of_lem hole) v)))

  at_first : (go : List ℕ → Scanned) (st : List ℕ) (k : ℕ) (o : Option ℕ) → LinkUnvisited st o
      → ((after : List ℕ) → unvisited after < unvisited st → LeavesAll after (go after)) → LeavesAll st (scan_at g cw go st k o)
  at_first go st k None i h = tt
  at_first go st k (Some s) i h =
      after_walk_lem go st k (g.top s) (walk_of g cw st s) (from_visits g (not (sense_of g cw s)) (sense_of g cw s) (mark_of (g.top s)) st s i) h

  pub scan_leaves : (fuel : ℕ) (st : List ℕ) → unvisited st < fuel → LeavesAll st (scan_on fuel g cw st)
  unfolding scan_on
  scan_leaves zero st h = absurd (few st h)
    where
      few : (st : List ℕ) → unvisited st < 0 → ⊥
      few st h = omega arith
  scan_leaves (suc fuel) st h =
      pick_ind (ltb (lowest_unvisited st) (length st)) _ (walks [] st) (LeavesAll st)
      (λ t. at_first (λ after. scan_on fuel g cw after) st (lowest_unvisited st) (first_link g st (lowest_unvisited st))
      (first_is_unvisited g st (lowest_unvisited st) (lowest_unvisited_lem st t))
      (λ after l. scan_leaves fuel after (omega arith)))
      (λ n. (refl, tt, lowest_none st n))

-- ---- what a scan that is not refused has done
pub record Scan (st : List ℕ) (ws : List Walk) (after : List ℕ) : Type 0 where
  -- the states that it leaves are those of its walks
  pub states : after ≡ states_after ws st
  -- none of them is 0
  pub none : NoneUnvisited after
  -- "On success, links walked is the number of states that were 0 at entry."
  pub count : sum (lens ws) ≡ unvisited st
  -- it has walked each link that was unvisited exactly once, and no other
  pub once : (k : ℕ) → times k ws ≡ pick (is_unvisited st k) 1 0
  -- in the order of the walks, each link was unvisited when it was walked
  pub fresh : AllFresh st ws

pub scanned : (g : Graph) (cw : Bool) (st : List ℕ) (ws : List Walk) (after : List ℕ) → scan g cw st ≡ walks ws after → Scan st ws after
scanned g cw st ws after e =
    let h : LeavesAll st (walks ws after) = subst (LeavesAll st) e (scan_leaves g cw (suc (unvisited st)) st (omega arith)) in
    let none : NoneUnvisited (states_after ws st) = subst NoneUnvisited h.0 h.2 in
    record {
      states = h.0;
      none = h.2;
      count = omega (arith, walks_count st ws h.1, none_unvisited (states_after ws st) none);
      once = λ k. omega (arith, walks_times k st ws h.1, ap one (none k));
      fresh = h.1;
    }
