-- Where the loop for rule 1 starts: at the a end of the scan's link,
-- with that link in hand; what it ends with is the first link.
use Rattle.std.specs.Prelude.{ℕ, ◌≤◌, ◌<◌, ◌≡◌, refl, Bool, true, List, ◌∷◌, length}
use Rattle.std.proofs.Common.{sym, ◌∙◌, subst, eq-eqb}
use Rattle.laws.specs.Test.{pick_true}
use Rattle.graph.specs.Graph.{Graph}
use Rattle.graph.specs.Fine.{FineLinks, FineLists, OnePoint}
use Rattle.next.specs.Next.{is_unvisited, first_link}
use Rattle.next.specs.Choice.{Mem}
use Rattle.rings.specs.Ends.{a_end, b_end, end_of, end_below}
use Rattle.rings.specs.RingOrder.{Spread}
use Rattle.rings.proofs.RingOrder.{ring_irreflexive}
use Rattle.rings.specs.Sorted.{Sorted, sorted_short, sorted_parts}
use Rattle.rings.specs.Rotation.{after, ahead, split, of_after}
use Rattle.rings.specs.Rings.{InOrder, Ring}
use Rattle.rings.specs.NextByRing.{Marked}
use Rattle.rings.specs.Linked.{Ringed}
use Rattle.rings.proofs.FirstByRing.{first_by_ring, none_ends}
use Rattle.rings.specs.Climb.{AtLast, Above, climb_start}
use Rattle.rings.proofs.Climb.{last_from}

-- k is the lowest unvisited link, and its a is at a `Cross` whose ring
-- is linked; `wraps` tells the ring's last end from the others
module _ {g : Graph} {m : ℕ} (links : FineLinks g m) (lists : FineLists g m) (point : OnePoint g) {state : List ℕ}
    (k : ℕ) (below : k < g.n)
    (sp : Spread g state (g.a_node k)) {nxt prv : ℕ → ℕ} (at_node : Ringed g state (g.a_node k) nxt prv)
    (wraps : ℕ → Bool) (last : AtLast (λ x. wraps (end_of g (g.a_node k) x)) at_node.links)
    (cross : length (g.entries (g.a_node k)) ≡ 2 → ⊥)
    (st : List ℕ) (marked : Marked g state (g.a_node k) st) (o : is_unvisited st k ≡ true)
    (lowest : (x : ℕ) → is_unvisited st x ≡ true → k ≤ x) where
  abbrev v : ℕ
  v = g.a_node k

  abbrev l : List ℕ
  l = at_node.links

  r : Ring g state v l
  r = at_node.ring

  in_ring : Mem k l
  in_ring = r.every k (record { listed = lists.at_a k below; unskipped = marked k (lists.at_a k below) o })

  of_ring : (x : ℕ) → Mem x l → x < g.n
  of_ring x i = lists.below v x (r.only x i).listed

  a_end_lem : end_of g v k ≡ a_end k
  a_end_lem = pick_true (a_end k) (b_end k) (eq-eqb (g.a_node k) v refl)

  short : length (after k l) ≤ g.n
  short = sorted_short (InOrder g v) (after k l) g.n
      (λ x i. ring_irreflexive g v x (sp.strict x (r.only x (of_after k l i))))
      (sorted_parts (InOrder g v) (ahead k l) (k ∷ after k l)
      (subst (Sorted (InOrder g v)) (split k l in_ring) r.sorted)).right.1
      (λ x i. of_ring x (of_after k l i))

  pub first_start : Above g v nxt wraps g.n st (first_link g st k) (a_end k) k
  first_start = subst (λ h. Above g v nxt wraps g.n st (first_link g st k) h k) a_end_lem (record {
    here = end_below g v k g.n below;
    rest = after k l;
    climbs = climb_start g v nxt wraps l at_node.linked.next last k in_ring;
    below = λ x i. of_ring x (of_after k l i);
    short = short;
    is =
        sym (first_by_ring links lists point k below st o (none_ends links lists point k below st o lowest) cross r
        marked ∙ last_from st l k in_ring o);
  })
