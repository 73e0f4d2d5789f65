-- Where every node of a fine graph is laid, the lists steer a walk and name the first links.
use Rattle.std.specs.Prelude.{ℕ, suc, ◌*◌, ◌≤◌, ◌<◌, ◌≡◌, refl, ◌⊎◌, Bool, true, false, length, get_or, Some}
use Rattle.std.proofs.Common.{arith, sym, ◌∙◌, subst, inl, inr, ⊎_elim, eq-eqb}
use Rattle.std.proofs.Math.Decide.{ℕ_discrete}
use Rattle.std.proofs.Math.Path.{ap}
use mathlib.Core.List.Memᴰ
use mathlib.Core.List.{List, [], ◌∷◌}
use Rattle.laws.specs.Test.{pick_ind, pick_true}
use Rattle.turn.specs.Limits.{max_links}
use Rattle.graph.specs.Graph.{Graph}
use Rattle.graph.specs.Fine.{FineLinks, FineLists, OnePoint, FineBand}
use Rattle.next.specs.States.{unvisited_read}
use Rattle.next.specs.Next.{is_unvisited, only_unvisited, next_link, first_at, first_link, node_of}
use Rattle.next.specs.Choice.{Mem, next_of_first, next_of_second}
use Rattle.rings.specs.Ends.{a_end, b_end, link_of, is_a, far, node_of_end, end_of, a_link, a_node_lem}
use Rattle.rings.specs.Ends.{far_far, far_link, end_link, end_below, entry_end, end_of_node, far_below}
use Rattle.rings.specs.RingOrder.{Spoke, Spread, spread_fine}
use Rattle.rings.specs.NextByRing.{Marked, marked_entry}
use Rattle.rings.specs.Linked.{Ringed}
use Rattle.rings.proofs.RingLoop.{loop_start}
use Rattle.rings.proofs.FirstLoop.{first_start}
use Rattle.rings.specs.AgainByRing.{NamedAgain}
use Rattle.rings.proofs.AgainByRing.{first_again}
use Rattle.rings.specs.Field.{cross_mark, next_of, prev_of, wraps_at, named, LaidBridge, LaidCross, Laid, Later, Across, Steers, Again, Firsts}
use Rattle.rings.specs.Steering.{Pair}

-- states are later than themselves
pub later_same : (st : List ℕ) → Later st st
later_same st = record { len = refl; stays = λ k e. e; skips = λ k e. e; opens = λ k o. o }

pub a_pair : (l : List ℕ) → length l ≡ 2 → Pair l
a_pair [] e = absurd (none e)
  where
    none : ◌≡◌ {A = ℕ} 0 2 → ⊥
    none e = omega arith
a_pair (x ∷ []) e = absurd (none e)
  where
    none : ◌≡◌ {A = ℕ} 1 2 → ⊥
    none e = omega arith
a_pair (x ∷ (y ∷ [])) e = record { one = x; two = y; is = refl }
a_pair (x ∷ (y ∷ (z ∷ l))) e = absurd (none e)
  where
    none : ◌≡◌ {A = ℕ} (suc (suc (suc (length l)))) 2 → ⊥
    none e = omega arith

module _ {g : Graph} {m : ℕ} {top state : List ℕ} (links : FineLinks g m) (lists : FineLists g m) (point : OnePoint g)
    (band : FineBand g top state) (few : g.n ≤ max_links) {nxt prv lead : List ℕ}
    (laid : (v : ℕ) → v < m → Laid g state v nxt prv lead) where
  -- ---- an end h and its node
  module _ (h : ℕ) (below : link_of h < g.n) where
    abbrev v : ℕ
    v = node_of_end g h

    abbrev e : ℕ
    e = link_of h

    is_end : end_of g v e ≡ h
    is_end = end_of_node links h below

    listed : Mem e (g.entries v)
    listed = pick_ind (is_a h) (g.a_node e) (g.b_node e) (λ u. Mem e (g.entries u)) (λ _. lists.at_a e below)
        (λ _. lists.at_b e below)

    at_node : Laid g state v nxt prv lead
    at_node = laid v (lists.inside v e listed)

    -- what stands at the end of a `Bridge` with the entries x and y, of which e is one: the far end of the other
    module _ (x y : ℕ) (is : g.entries v ≡ x ∷ (y ∷ [])) where
      pair : LaidBridge g v x y nxt lead
      pair = at_node.bridge x y is

      in_x : Mem x (g.entries v)
      in_x = subst (Mem x) (sym is) (Memᴰ.head refl)

      in_y : Mem y (g.entries v)
      in_y = subst (Mem y) (sym is) (Memᴰ.tail (Memᴰ.head refl))

      differ : x ≡ y → ⊥
      differ q = zero_one (lists.no_twice v 0 1 (subst (λ l. 0 < length l) (sym is) (omega arith))
          (subst (λ l. 1 < length l) (sym is) (omega arith))
          (subst (λ l. get_or l 0 0 ≡ get_or l 1 0) (sym is) q))
        where
          zero_one : ◌≡◌ {A = ℕ} 0 1 → ⊥
          zero_one e = omega arith

      which : (e ≡ x) ⊎ (e ≡ y)
      which = ⊎_elim inl (λ i. ⊎_elim inr (λ j. absurd (Memᴰ.not-nil j)) (Memᴰ.cases_cons i))
          (Memᴰ.cases_cons (subst (Mem e) is listed))

      -- of an entry k: its far end
      far_inside : (k : ℕ) → Mem k (g.entries v) → far (end_of g v k) < 2 * g.n
      far_inside k i = far_below (end_of g v k) g.n (end_below g v k g.n (lists.below v k i))

      holds_far : (k : ℕ) → get_or nxt h 0 ≡ far (end_of g v k) → Mem k (g.entries v)
          → ((s : List ℕ) (sense : Bool) → next_link g sense s v e ≡ only_unvisited s k) → Across g nxt h
      holds_far k q i next = record {
        inside = subst (λ z. z < 2 * g.n) (sym q) (far_inside k i);
        node = ap (λ z. node_of_end g (far z)) q ∙ ap (node_of_end g) (far_far (end_of g v k)) ∙ entry_end lists v k i;
        next = λ s sense. next s sense ∙ ap (only_unvisited s) (sym (ap link_of q ∙ far_link (end_of g v k) ∙ end_link g v k));
      }

      across : Across g nxt h
      across = ⊎_elim
          (λ q. holds_far y (ap (λ z. get_or nxt z 0) (sym is_end ∙ ap (end_of g v) q) ∙ pair.onto) in_y
          (λ s sense. next_of_first g sense s v e x y is q))
          (λ q. holds_far x (ap (λ z. get_or nxt z 0) (sym is_end ∙ ap (end_of g v) q) ∙ pair.back) in_x
          (λ s sense. next_of_second g sense s v e x y is (λ p. differ (sym p ∙ q))))
          which

    module _ (unskipped : get_or state e 0 ≡ 1 → ⊥) where
      spoke : Spoke g state v e
      spoke = record { listed = listed; unskipped = unskipped }

      -- an end with no mark is a `Bridge`'s, one with a mark a `Cross`'s
      not_cross : get_or nxt h 0 < cross_mark → (length (g.entries v) ≡ 2 → ⊥) → ⊥
      not_cross l n =
          let c = at_node.cross n in
          omega (arith, l, subst (λ z. cross_mark ≤ get_or nxt z 0) is_end (c.marked e (c.ring.every e spoke)))

      over : get_or nxt h 0 < cross_mark → Across g nxt h
      over l = by (ℕ_discrete (length (g.entries v)) 2)
        where
          by : Dec (length (g.entries v) ≡ 2) → Across g nxt h
          by (yes q) = let p = a_pair (g.entries v) q in across p.one p.two p.is
          by (no n) = absurd (not_cross l n)

    is_cross : (get_or nxt h 0 < cross_mark → ⊥) → length (g.entries v) ≡ 2 → ⊥
    is_cross n q =
        let p = a_pair (g.entries v) q in
        let i = (across p.one p.two p.is).inside in
        n (omega (arith, i, few))

  -- ---- the walk
  open_then : (s : List ℕ) → Later state s → (v : ℕ) → Marked g state v s
  open_then s later v = marked_entry g state v s later.opens

  abbrev ringed : (v : ℕ) → LaidCross g state v nxt prv → Ringed g state v (next_of nxt) (prev_of prv)
  ringed v c = record { links = c.links; ring = c.ring; linked = c.linked }

  spread : (v : ℕ) → Spread g state v
  spread = spread_fine links lists band

  module _ (size : g.n ≡ length state) (nxt_long : 2 * g.n ≤ length nxt) where
    pub steers : 2 * g.n ≤ length prv → Steers g nxt prv state
    steers prv_long = record {
      few = few;
      size = size;
      nxt_long = nxt_long;
      prv_long = prv_long;
      nodes = m;
      links = links;
      only = lists.only;
      bridge = over;
      cross = λ h below unskipped marked s later visited sense.
          let n = is_cross h below marked in
          let v = node_of_end g h in
          loop_start (spread v) (λ k i. lists.below v k i) n (ringed v ((at_node h below).cross n)) s (open_then s later v)
          (link_of h) (is_end h below) (spoke h below unskipped) visited sense;
    }

    -- ---- the first links
    abbrev a_below : (k : ℕ) → k < g.n → link_of (a_end k) < g.n
    a_below k l = subst (λ z. z < g.n) (sym (a_link k)) l

    first_pair : (k : ℕ) (l : k < g.n) (x y : ℕ) → g.entries (node_of_end g (a_end k)) ≡ x ∷ (y ∷ []) → (s : List ℕ)
        → first_link g s k ≡ only_unvisited s (named g lead nxt k)
    unfolding first_link
    first_pair k l x y is s =
        ap (λ (r : List ℕ). first_at g s k (node_of r)) (sym (ap g.entries (a_node_lem g k)) ∙ is)
        ∙ ap (only_unvisited s) (sym ((pair (a_end k) (a_below k l) x y is).leads k
        (subst (λ z. (z ≡ x) ⊎ (z ≡ y)) (a_link k) (which (a_end k) (a_below k l) x y is)) (sym (a_node_lem g k))))

    pub firsts : g.n ≤ length lead → Firsts g nxt lead state
    firsts lead_long = record {
      few = few;
      size = size;
      nxt_long = nxt_long;
      lead_long = lead_long;
      bridge = λ k l unskipped free.
          let b = a_below k l in
          let u = subst (λ z. get_or state z 0 ≡ 1 → ⊥) (sym (a_link k)) unskipped in
          let i = (over (a_end k) b u free).inside in (
            omega (arith, i),
            λ s. by_pair k l u free s,
          );
      cross = λ k l marked s later o lowest.
          let c = at_cross k l marked in
          first_start links lists point k l (spread (g.a_node k)) (ringed (g.a_node k) c) (wraps_at nxt) c.last
          (subst (λ v. length (g.entries v) ≡ 2 → ⊥) (a_node_lem g k) (is_cross (a_end k) (a_below k l) marked)) s
          (open_then s later (g.a_node k)) o lowest;
      again = asked_again;
    }
      where
        by_pair : (k : ℕ) (l : k < g.n) → (get_or state (link_of (a_end k)) 0 ≡ 1 → ⊥) → get_or nxt (a_end k) 0 < cross_mark
            → (s : List ℕ) → first_link g s k ≡ only_unvisited s (named g lead nxt k)
        by_pair k l u free s = go (ℕ_discrete (length (g.entries (node_of_end g (a_end k)))) 2)
          where
            go : Dec (length (g.entries (node_of_end g (a_end k))) ≡ 2)
                → first_link g s k ≡ only_unvisited s (named g lead nxt k)
            go (yes q) = let p = a_pair (g.entries (node_of_end g (a_end k))) q in first_pair k l p.one p.two p.is s
            go (no n) = absurd (not_cross (a_end k) (a_below k l) u free n)

        at_cross : (k : ℕ) (l : k < g.n) → (get_or nxt (a_end k) 0 < cross_mark → ⊥) → LaidCross g state (g.a_node k) nxt prv
        at_cross k l marked =
            subst (λ v. LaidCross g state v nxt prv) (a_node_lem g k)
            ((at_node (a_end k) (a_below k l)).cross (is_cross (a_end k) (a_below k l) marked))

        asked_again : (k : ℕ) → k < g.n → (get_or nxt (a_end k) 0 < cross_mark → ⊥) → (s t : List ℕ) → Later state t → Later s t
            → is_unvisited t k ≡ true → ((x : ℕ) → is_unvisited s x ≡ true → k ≤ x) → (f : ℕ) → first_link g s k ≡ Some f
            → is_unvisited t f ≡ false → Again g nxt t k f
        asked_again k l marked s t later since o lowest f named visited = record {
          below = lists.below v f (c.ring.only f by_ring.among).listed;
          unskipped = λ e. zero_one (sym (unvisited_read s f by_ring.fresh) ∙ since.skips f e);
          marked = λ h. omega (
            arith,
            h,
            subst (λ z. cross_mark ≤ get_or nxt z 0)
                (pick_true (a_end f) (b_end f) (eq-eqb (g.a_node f) v by_ring.starts)) (c.marked f by_ring.among),
          );
          node = by_ring.starts;
          next = by_ring.next;
        }
          where
            zero_one : ◌≡◌ {A = ℕ} 0 1 → ⊥
            zero_one e = omega arith

            v : ℕ
            v = g.a_node k

            c : LaidCross g state v nxt prv
            c = at_cross k l marked

            -- what is unvisited in s was not skipped at entry: it would be skipped in t, and so in s
            in_s : Marked g state v s
            in_s x _ u e = zero_one (sym (unvisited_read s x u) ∙ since.skips x (later.stays x e))

            by_ring : NamedAgain g s t c.links k f
            by_ring = first_again links lists point k l (spread v) c.ring
                (subst (λ u. length (g.entries u) ≡ 2 → ⊥) (a_node_lem g k) (is_cross (a_end k) (a_below k l) marked)) s t in_s (open_then t later v)
                since.opens o lowest f named visited
