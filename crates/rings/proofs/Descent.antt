-- Rule 1 asked again, as the code reads it off the lists: down the ring from the link that it named before.
use Rattle.std.specs.Prelude.{ℕ, ◌<◌, ◌≡◌, true, false, List, get_or, Option}
use Rattle.std.proofs.Common.{sym, ap, ◌∙◌, subst}
use Rattle.graph.specs.Graph.{Graph}
use Rattle.next.specs.Next.{is_unvisited, next_link}
use Rattle.rings.specs.Ends.{a_end, node_of_end, a_link, a_node_lem}
use Rattle.rings.specs.Follow.{Left}
use Rattle.rings.specs.Field.{prev_of, Steers, Again}
use Rattle.rings.proofs.Steering.{later_same}
use Rattle.rings.specs.Descent.{Descends}

pub descends : {g : Graph} {nxt prv t : List ℕ} {k f : ℕ} → Steers g nxt prv t → Again g nxt t k f → is_unvisited t f ≡ false
    → Descends g prv t k f
descends {g} {nxt} {prv} {t} {k} {f} s a visited = record {
  visited = visited;
  left =
      subst (λ (n : Option ℕ). Left g (g.a_node k) (a_end f) (prev_of prv) g.n t n (a_end f)) (sym a.next)
      (subst (λ v. Left g v (a_end f) (prev_of prv) g.n t (next_link g true t v f) (a_end f)) (a_node_lem g f ∙ a.node)
      (subst (λ x. Left g (node_of_end g (a_end f)) (a_end f) (prev_of prv) g.n t (next_link g true t (node_of_end g (a_end f)) x) (a_end f)) (a_link f)
      (s.cross (a_end f) (subst (λ x. x < g.n) (sym (a_link f)) a.below) (λ e. a.unskipped (ap (λ x. get_or t x 0) (sym (a_link f)) ∙ e))
      a.marked t (later_same t) (ap (is_unvisited t) (a_link f) ∙ visited) true)));
}
