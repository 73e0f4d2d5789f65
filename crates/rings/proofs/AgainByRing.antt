-- Rule 1 asked again at a `Cross`, once the link that it named is visited: by the ring
-- it is rule 3, clockwise from that link. All that stands after it in the ring stays visited.
use Rattle.std.specs.Prelude.{ℕ, ◌≤◌, ◌<◌, ◌≡◌, refl, true, false, length, Some}
use Rattle.std.proofs.Common.{sym, ap, ◌∙◌, subst, ⊎_elim}
use mathlib.Core.List.Memᴰ
use mathlib.Core.List.{List, [], ◌∷◌, reverse, reverse_aux-append}
use Rattle.laws.specs.Test.{not_true}
use Rattle.graph.specs.Graph.{Graph}
use Rattle.graph.specs.Fine.{FineLinks, FineLists, OnePoint}
use Rattle.next.specs.Next.{is_unvisited, first_link}
use Rattle.next.specs.Choice.{Mem}
use Rattle.rings.specs.RingOrder.{Spread}
use Rattle.rings.specs.Sorted.{of_reverse}
use Rattle.rings.specs.Rotation.{after, ahead, backward, split, first_unvisited, last_unvisited, first_later}
use Rattle.rings.specs.Rings.{Ring}
use Rattle.rings.proofs.Rings.{not_round}
use Rattle.rings.specs.NextByRing.{Marked}
use Rattle.rings.proofs.NextByRing.{next_by_ring}
use Rattle.rings.proofs.FirstByRing.{NoneEnds, first_by_ring, none_ends}
use Rattle.rings.specs.Climb.{last_or}
use Rattle.rings.proofs.Climb.{last_from}
use Rattle.rings.specs.AgainByRing.{NamedAgain, Shut, Unvisited, first_unvisited_lem, last_among, same_first, shut_first}

-- ---- the last unvisited link of a list, once that one is visited, is the first met back from it
module _ (s t l : List ℕ) (opens : (x : ℕ) → is_unvisited t x ≡ true → is_unvisited s x ≡ true) (f : ℕ)
    (named : last_unvisited s l ≡ Some f) (visited : is_unvisited t f ≡ false) (once : Mem f (after f l) → ⊥) where
  here : Unvisited s (reverse l) f
  here = first_unvisited_lem s (reverse l) f named

  in_list : Mem f l
  in_list = of_reverse l here.among

  over : last_or s f (after f l) ≡ f
  over = let q : Some (last_or s f (after f l)) ≡ Some f = sym (last_from s l f in_list here.fresh) ∙ named in cc

  shut : Shut t (after f l)
  shut x m = not_true (is_unvisited t x)
      (λ o. once (subst (λ y. Mem y (after f l)) over (last_among s f (after f l) x m (opens x o))))

  last_again : last_unvisited t l ≡ first_unvisited t (backward f l)
  last_again =
      ap (last_unvisited t) (split f l in_list) ∙ ap (first_unvisited t) (reverse_aux-append (ahead f l) (f ∷ after f l) [])
      ∙ shut_first t (after f l) (f ∷ reverse (ahead f l)) shut ∙ first_later t f (reverse (ahead f l)) visited
      ∙ same_first t (ahead f l) [] (reverse (after f l)) (sym (shut_first t (after f l) [] shut))
      ∙ ap (first_unvisited t) (sym (reverse_aux-append (after f l) (ahead f l) []))

module _ {g : Graph} {m : ℕ} (links : FineLinks g m) (lists : FineLists g m) (point : OnePoint g) (k : ℕ) (below : k < g.n)
    {state : List ℕ} (sp : Spread g state (g.a_node k)) {l : List ℕ} (ring : Ring g state (g.a_node k) l)
    (cross : length (g.entries (g.a_node k)) ≡ 2 → ⊥)
    (s t : List ℕ) (in_s : Marked g state (g.a_node k) s) (in-t : Marked g state (g.a_node k) t)
    (opens : (x : ℕ) → is_unvisited t x ≡ true → is_unvisited s x ≡ true) (o : is_unvisited t k ≡ true)
    (lowest : (x : ℕ) → is_unvisited s x ≡ true → k ≤ x) (f : ℕ) (named : first_link g s k ≡ Some f) where
  abbrev v : ℕ
  v = g.a_node k

  none_in_s : NoneEnds g s v
  none_in_s = none_ends links lists point k below s (opens k o) lowest

  last_is_f : last_unvisited s l ≡ Some f
  last_is_f = sym (first_by_ring links lists point k below s (opens k o) none_in_s cross ring in_s) ∙ named

  found : Unvisited s (reverse l) f
  found = first_unvisited_lem s (reverse l) f last_is_f

  in_ring : Mem f l
  in_ring = of_reverse l found.among

  pub first_again : is_unvisited t f ≡ false → NamedAgain g s t l k f
  first_again visited = record {
    fresh = found.fresh;
    among = in_ring;
    starts =
        let i = (ring.only f in_ring).listed in
        ⊎_elim (λ q. q) (λ q. absurd (none_in_s f i found.fresh q)) (lists.only v f i);
    next =
        first_by_ring links lists point k below t o (λ x i u. none_in_s x i (opens x u)) cross ring in-t
        ∙ last_again s t l opens f last_is_f visited
        (λ i. not_round sp ring f in_ring false f (Memᴰ.append_left (ahead f l) i) refl)
        ∙ sym (next_by_ring sp ring cross t in-t f in_ring visited true);
  }
