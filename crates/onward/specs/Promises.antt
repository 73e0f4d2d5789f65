-- What each public function promises, written once: its contract names it, and any two outcomes that it allows are equal.
use Rattle.std.specs.Prelude.{ℕ, ◌<◌, ◌≡◌, refl, Bool, List, Option, Some, None}
use Rattle.std.proofs.Common.{sym, ap, ◌∙◌, subst, arith}
use Rattle.graph.specs.Graph.{Graph}
use Rattle.next.specs.Next.{next_link}
use Rattle.next.specs.States.{unvisited_below}
use Rattle.rings.specs.Ends.{link_of, far, node_of_end, end_of}
use Rattle.rings.specs.Field.{Steers}
use Rattle.onward.specs.Goes.{GoesTo, far_end}
use Rattle.onward.specs.Named.{Among, next_among}

-- for every graph whose field of ends the lists hold
abbrev pub NextEndSays : (nxt prv state : List ℕ) (sense : Bool) (h : ℕ) → Option ℕ → Type 0
NextEndSays nxt prv state sense h r = (g : Graph) → Steers g nxt prv state → GoesTo g sense state h r

nothing_not_link : (k : ℕ) → None ≡ Some k → ⊥
nothing_not_link k e = let z : ◌≡◌ {A = ℕ} 0 1 = cc in omega arith

module _ (nxt prv state : List ℕ) (sense : Bool) (h : ℕ) (g : Graph) (s : Steers g nxt prv state) where
  abbrev named : Option ℕ
  named = next_link g sense state (node_of_end g h) (link_of h)

  there : (k : ℕ) → named ≡ Some k → k < g.n
  there k e = subst (λ n. k < n) (sym s.size)
      (unvisited_below state k (subst (Among state (g.entries (node_of_end g h))) e (next_among g sense state (node_of_end g h) (link_of h))).1)

  goes_once : (r t : Option ℕ) → GoesTo g sense state h r → GoesTo g sense state h t → r ≡ t
  goes_once None None p q = refl
  goes_once None (Some b) p q = absurd (nothing_not_link (link_of b) (sym p ∙ q.0))
  goes_once (Some a) None p q = absurd (nothing_not_link (link_of a) (sym q ∙ p.0))
  goes_once (Some a) (Some b) p q =
      let e : Some (link_of a) ≡ Some (link_of b) = sym p.0 ∙ q.0 in
      let same : link_of a ≡ link_of b = cc in
      ap Some (far_end s.links (node_of_end g h) a (there (link_of a) p.0) p.1
      ∙ ap (λ k. far (end_of g (node_of_end g h) k)) same
      ∙ sym (far_end s.links (node_of_end g h) b (there (link_of b) q.0) q.1))

-- that there is such a graph is required
pub next_end_once : (nxt prv state : List ℕ) (sense : Bool) (h : ℕ) (g : Graph) → Steers g nxt prv state → (r s : Option ℕ)
    → NextEndSays nxt prv state sense h r → NextEndSays nxt prv state sense h s → r ≡ s
next_end_once nxt prv state sense h g steers r s p q = goes_once nxt prv state sense h g steers r s (p g steers) (q g steers)
