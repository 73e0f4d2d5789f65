-- Where a walk goes on, by rule 3, from an end where it stands.
use Rattle.std.specs.Prelude.{ℕ, ◌≤◌, ◌<◌, ◌≡◌, Bool, List, length, get_or, Option, Some, None}
use Rattle.std.proofs.Common.{sym, ap, ap₂, ◌∙◌, subst}
use Rattle.graph.specs.Graph.{Graph}
use Rattle.graph.specs.Fine.{FineLinks}
use Rattle.next.specs.Next.{next_link}
use Rattle.rings.specs.Ends.{link_of, far, node_of_end, end_of, far_far, far_link, end_of_node}

-- a walk stands at end h: its link is there, and is marked
abbrev pub Arrived : List ℕ → ℕ → Type 0
Arrived st h = (link_of h < length st) × (2 ≤ get_or st (link_of h) 0)

-- from end h the next link leads to its far end, and is left from its end at h's node; or there is none
abbrev pub GoesTo : Graph → Bool → List ℕ → ℕ → Option ℕ → Type 0
GoesTo g sense st h None = next_link g sense st (node_of_end g h) (link_of h) ≡ None
GoesTo g sense st h (Some to) =
    (next_link g sense st (node_of_end g h) (link_of h) ≡ Some (link_of to)) × (node_of_end g (far to) ≡ node_of_end g h)

-- it is the far end of an unvisited link
abbrev pub EndsUnvisited : List ℕ → Option ℕ → Type 0
EndsUnvisited st None = Unit
EndsUnvisited st (Some to) = (link_of to < length st) × (get_or st (link_of to) 1 ≡ 0)

-- ---- it goes to end `to`: of the link that is left at node v
module _ {g : Graph} {m : ℕ} (l : FineLinks g m) (v to : ℕ) (below : link_of to < g.n) (node : node_of_end g (far to) ≡ v) where
  pub near_end : end_of g v (link_of to) ≡ far to
  near_end = ap₂ (end_of g) (sym node) (sym (far_link to)) ∙ end_of_node l (far to) (subst (λ k. k < g.n) (sym (far_link to)) below)

  pub far_end : to ≡ far (end_of g v (link_of to))
  far_end = sym (ap far near_end ∙ far_far to)
