-- Where the loop over a linked ring starts, and that what it ends with is the next link by rule 3.
use Rattle.std.specs.Prelude.{ℕ, ◌≤◌, ◌<◌, ◌≡◌, Bool, true, false, List, length, Option}
use Rattle.std.proofs.Common.{sym, subst}
use Rattle.laws.specs.Test.{true_is}
use Rattle.turn.specs.Angular.{irreflexive}
use Rattle.graph.specs.Graph.{Graph}
use Rattle.graph.specs.Checks.{away_from}
use Rattle.next.specs.Next.{is_unvisited, met_first, next_link}
use Rattle.next.specs.Choice.{Mem}
use Rattle.rings.specs.Ends.{end_of}
use Rattle.rings.specs.RingOrder.{Spoke, Spread}
use Rattle.rings.specs.Sorted.{sorted_short}
use Rattle.rings.specs.Rotation.{round_from}
use Rattle.rings.proofs.Rotation.{of_round}
use Rattle.rings.specs.Rings.{Ring}
use Rattle.rings.proofs.Rings.{round_met, not_round}
use Rattle.rings.specs.NextByRing.{Marked}
use Rattle.rings.proofs.NextByRing.{next_by_ring}
use Rattle.rings.specs.Linked.{Ringed, step_of}
use Rattle.rings.proofs.Linked.{linked_round}
use Rattle.rings.specs.Follow.{Left, from_start}

-- At a `Cross` whose ring is linked, from end `home` of a visited link e of it:
-- the answer is the next link. (Rule 4 asks it of the opposite sense.)
module _ {g : Graph} {state : List ℕ} {v n : ℕ} (sp : Spread g state v) (below : (k : ℕ) → Mem k (g.entries v) → k < n)
    (cross : length (g.entries v) ≡ 2 → ⊥) {nxt prv : ℕ → ℕ} (at_node : Ringed g state v nxt prv)
    (st : List ℕ) (marked : Marked g state v st) {home : ℕ} (e : ℕ) (is_home : end_of g v e ≡ home)
    (spoke : Spoke g state v e) (visited : is_unvisited st e ≡ false) (sense : Bool) where
  abbrev l : List ℕ
  l = at_node.links

  abbrev round : List ℕ
  round = round_from sense e l

  r : Ring g state v l
  r = at_node.ring

  m : Mem e l
  m = r.every e spoke

  inside : (x : ℕ) → Mem x round → x < n
  inside x i = below x (r.only x (of_round sense e l i)).listed

  short : length round ≤ n
  short = sorted_short (λ x y. met_first g sense v e x y ≡ true) round n
      (λ x _ t. irreflexive sense (away_from g v e) (away_from g v x) (true_is t)) (round_met sp r e m sense) inside

  pub loop_start : Left g v home (step_of sense nxt prv) n st (next_link g sense st v e) home
  loop_start =
      subst (λ (a : Option ℕ). Left g v home (step_of sense nxt prv) n st a home)
      (sym (next_by_ring sp r cross st marked e m visited sense))
      (from_start g v home (step_of sense nxt prv) e is_home {rest = round} (linked_round at_node.linked e m sense)
      (not_round sp r e m sense)
      (below e spoke.listed) inside short)
