-- Rule 1 by the ring: at a `Cross` where no unvisited link ends, as at the
-- scan's, the first link is the last unvisited one of the ring.
use Rattle.std.specs.Prelude.{ℕ, ◌≤◌, ◌<◌, ◌≡◌, refl, ◌⊎◌, Bool, true, false, List, [], ◌∷◌, reverse, pos, length, Some}
use Rattle.std.proofs.Common.{sym, ap, ◌∙◌, subst, inl, inr, ⊎_elim, eq-eqb}
use mathlib.Core.List.Memᴰ
use Rattle.std.specs.Int.Signed.{lt_z}
use Rattle.laws.specs.Test.{pick, true≢false}
use Rattle.turn.specs.declared.Point.{Point}
use Rattle.turn.specs.Points.{before, from_to, cross}
use Rattle.graph.specs.Graph.{Graph}
use Rattle.graph.specs.Fine.{FineLinks, FineLists, OnePoint}
use Rattle.next.specs.Next.{is_unvisited, topmost, first_link}
use Rattle.next.specs.Choice.{Mem}
use Rattle.next.specs.Topmost.{Starts, Topmost, counterclockwise, first_at_cross, first_among, first_topmost}
use Rattle.rings.specs.Ends.{starts_at}
use Rattle.rings.specs.RingOrder.{in_turn}
use Rattle.rings.specs.Sorted.{Order, Sorted, of_reverse, in_reverse, sorted_reverse}
use Rattle.rings.specs.Rotation.{first_unvisited, last_unvisited, first_found, first_later}
use Rattle.rings.specs.Rings.{InOrder, Ring}
use Rattle.rings.specs.NextByRing.{Marked}

-- the first unvisited link of a sorted list is the one that no other stands before
first_of : (R : Order) (st l : List ℕ) (r : ℕ) → Sorted R l → Mem r l → is_unvisited st r ≡ true
    → ((x : ℕ) → Mem x l → is_unvisited st x ≡ true → R x r → ⊥) → first_unvisited st l ≡ Some r
first_of R st [] r s m o h = absurd (Memᴰ.not-nil m)
first_of R st (x ∷ l) r s m o h =
    at (is_unvisited st x) refl (Memᴰ.cases_cons m)
    (λ k. first_of R st l r s.1 k o (λ y i. h y (Memᴰ.tail i)))
  where
    at : (b : Bool) → is_unvisited st x ≡ b → (r ≡ x) ⊎ Mem r l → (Mem r l → first_unvisited st l ≡ Some r)
        → first_unvisited st (x ∷ l) ≡ Some r
    at true t (inl q) rest = first_found st x l t ∙ ap Some (sym q)
    at true t (inr k) rest = absurd (h x (Memᴰ.head refl) t (s.0 r k))
    at false n (inl q) rest = absurd (true≢false o (subst (λ y. is_unvisited st y ≡ false) (sym q) n))
    at false n (inr k) rest = first_later st x l n ∙ rest k

-- of two links that start at a node the ring order is the turn of their b's
in_order : (g : Graph) (v r x : ℕ) → g.a_node r ≡ v → g.a_node x ≡ v → g.a x ≡ g.a r → InOrder g v r x
    → counterclockwise (g.a r) (g.b r) (g.b x) ≡ true
in_order g v r x nr nx p h =
    subst (λ q. lt_z (pos 0) (cross (from_to (g.a r) (g.b r)) (from_to q (g.b x))) ≡ true) p
    (by (starts_at g v r) (starts_at g v x) (eq-eqb (g.a_node r) v nr) (eq-eqb (g.a_node x) v nx) h)
  where
    by : (s t : Bool) → s ≡ true → t ≡ true
        → in_turn s t (lt_z (pos 0) (cross (pick s (from_to (g.a r) (g.b r)) (from_to (g.b r) (g.a r)))
        (pick t (from_to (g.a x) (g.b x)) (from_to (g.b x) (g.a x))))) ≡ true
        → lt_z (pos 0) (cross (from_to (g.a r) (g.b r)) (from_to (g.a x) (g.b x))) ≡ true
    by true true ps pt h = h
    by true false ps pt h = absurd (true≢false pt refl)
    by false t ps pt h = absurd (true≢false ps refl)

-- no unvisited link has its b at node v
abbrev pub NoneEnds : Graph → List ℕ → ℕ → Type 0
NoneEnds g st v = (x : ℕ) → Mem x (g.entries v) → is_unvisited st x ≡ true → g.b_node x ≡ v → ⊥

module _ {g : Graph} {m : ℕ} (links : FineLinks g m) (lists : FineLists g m) (point : OnePoint g) (k : ℕ)
    (below : k < g.n)
    (st : List ℕ) (o : is_unvisited st k ≡ true) where
  abbrev v : ℕ
  v = g.a_node k

  module _ (none : NoneEnds g st v) where
    starts : (x : ℕ) → Mem x (g.entries v) → is_unvisited st x ≡ true → g.a_node x ≡ v
    starts x i t = ⊎_elim (λ q. q) (λ q. absurd (none x i t q)) (lists.only v x i)

    there : (x : ℕ) → Mem x (g.entries v) → is_unvisited st x ≡ true → Starts g (g.a k) x
    there x i t =
        let b = lists.below v x i in
        record { here = point.aa x k b below (starts x i t); onward = links.strict x b }

    pub first_by_ring : (length (g.entries v) ≡ 2 → ⊥) → {state l : List ℕ} → Ring g state v l → Marked g state v st
        → first_link g st k ≡ last_unvisited st l
    first_by_ring cross {state} {l} ring marked =
        first_at_cross g st k cross ∙ sym (first_of (λ x y. InOrder g v y x) st (reverse l) r
        (sorted_reverse (λ x y. InOrder g v y x) l ring.sorted)
        (in_reverse l (ring.every r (record { listed = among; unskipped = marked r among top.unvisited })))
        top.unvisited
        (λ x i t h. let j = (ring.only x (of_reverse l i)).listed in
        top.none_above x j t (in_order g v r x (starts r among top.unvisited) (starts x j t)
        ((there x j t).here ∙ sym top.starts.here) h)))
      where
        r : ℕ
        r = topmost g st k k (g.entries v)

        among : Mem r (g.entries v)
        among = first_among g st k cross (lists.at_a k below)

        top : Topmost g st (g.a k) (g.entries v) r
        top = first_topmost g st k cross (g.a k) o (there k (lists.at_a k below) o) there

  -- where k is the lowest unvisited link: a link that ended there would start before k, and come before it (check 4)
  pub none_ends : ((x : ℕ) → is_unvisited st x ≡ true → k ≤ x) → NoneEnds g st v
  none_ends lowest x i t q =
      let b = lists.below v x i in
      true≢false (subst (λ (p : Point). before (g.a x) p ≡ true) (sym (point.ab k x below b (sym q)))
      (links.strict x b)) (links.order k x (lowest x t) b)
