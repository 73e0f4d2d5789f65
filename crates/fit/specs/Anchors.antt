-- Check 11: every hole's anchor is the least point of its walk, and the anchors come in order.
use Prim.Native.Nat.{ℕ, zero, suc, ◌≤◌, ◌<◌}
use Rattle.std.proofs.Common.{arith, sym, ap, ◌∙◌, subst, ⊎_elim}
use Rattle.std.proofs.Math.Decide.{ℕ_discrete, dec_le}
use Rattle.std.specs.Prelude.{◌≡◌, Bool, true, false, not, length, set, ltb, Option, Some, None}
use Rattle.std.proofs.Math.Path.{refl}
use mathlib.Core.List.{List, [], ◌∷◌, Memᴰ}
use Rattle.laws.specs.Test.{pick, pick_ind, true≢false}
use Rattle.laws.specs.Lowest.{NoneBelow, some_of}
use Rattle.turn.specs.Points.{before, clockwise}
use Rattle.graph.specs.Graph.{Graph, Lent, graph_of}
use Rattle.graph.specs.Checks.{Room}
use Rattle.graph.specs.Fine.{FineGraph}
use Rattle.next.specs.Next.{is_unvisited, unvisited, only_unvisited, next_link, first_link, topmost}
use Rattle.next.specs.States.{unvisited_below}
use Rattle.next.specs.Topmost.{first_at_bridge, first_at_cross, first_among}
use Rattle.walk.specs.Walk.{Step, Walk, Walked, stuck, done, cons_step, on_next, walk_on, walk_from, marked, mark_of}
use Rattle.scan.specs.Scan.{sense_of, walk_of, Scanned, stopped, walks, cons_walk, after_walk, scan_at, lowest_unvisited, scan_on}
use Rattle.walk.specs.Named.{LinkUnvisited, first_is_unvisited}
use Rattle.walk.specs.Visits.{Visits, from_visits}
use Rattle.outlines.specs.Grid.{marked_length}

-- ---- rule 1 names an entry of the node
module _ (g : Graph) (st : List ℕ) (k : ℕ) (m : Memᴰ k (g.entries (g.a_node k))) where
  only_is : (c s : ℕ) → only_unvisited st c ≡ Some s → s ≡ c
  only_is c s = pick_ind (is_unvisited st c) (Some c) None (λ n. n ≡ Some s → s ≡ c) (λ _ e. cc) (λ _ e. let x : ◌≡◌ {A = ℕ} 0 1 = cc in absurd (no x))
    where
      no : ◌≡◌ {A = ℕ} 0 1 → ⊥
      no x = omega arith

  by_list : (l : List ℕ) → g.entries (g.a_node k) ≡ l → (s : ℕ) → first_link g st k ≡ Some s → length l ≡ 2 → Memᴰ s l
  by_list [] q s e h = absurd (no h)
    where
      no : ◌≡◌ {A = ℕ} 0 2 → ⊥
      no h = omega arith
  by_list (x ∷ []) q s e h = absurd (no h)
    where
      no : ◌≡◌ {A = ℕ} 1 2 → ⊥
      no h = omega arith
  by_list (x ∷ (y ∷ [])) q s e h =
      let c : ℕ = pick (clockwise (g.a x) (g.b x) (g.b y)) x y in
      let i : s ≡ c = only_is c s (sym (first_at_bridge g st k x y q) ∙ e) in
      subst (λ u. Memᴰ u (x ∷ (y ∷ []))) (sym i) (pick_ind (clockwise (g.a x) (g.b x) (g.b y)) x y (λ u. Memᴰ u (x ∷ (y ∷ [])))
      (λ _. Memᴰ.head refl) (λ _. Memᴰ.tail (Memᴰ.head refl)))
  by_list (x ∷ (y ∷ (z ∷ l))) q s e h = absurd (no (length l) h)
    where
      no : (n : ℕ) → suc (suc (suc n)) ≡ 2 → ⊥
      no n h = omega arith

  pub first_in : (s : ℕ) → first_link g st k ≡ Some s → Memᴰ s (g.entries (g.a_node k))
  first_in s e = elim (ℕ_discrete (length (g.entries (g.a_node k))) 2) [ yes h ↦ by_list (g.entries (g.a_node k)) refl s e h | no n ↦ cross n ]
    where
      cross : (length (g.entries (g.a_node k)) ≡ 2 → ⊥) → Memᴰ s (g.entries (g.a_node k))
      cross n =
          let q : Some (topmost g st k k (g.entries (g.a_node k))) ≡ Some s = sym (first_at_cross g st k n) ∙ e in
          let i : topmost g st k k (g.entries (g.a_node k)) ≡ s = cc in
          subst (λ u. Memᴰ u (g.entries (g.a_node k))) i (first_among g st k n m)

-- ---- how a walk begins: with a link whose a is least among the unvisited
pub record Begins (g : Graph) (cw : Bool) (st : List ℕ) (w : Walk) : Type 0 where
  pub link : ℕ
  pub rest : List Step
  pub steps_are : w.steps ≡ record { link = link; forward = not (sense_of g cw link) } ∷ rest
  pub hole_is : w.hole ≡ g.top link
  pub unvisited_one : is_unvisited st link ≡ true
  pub least : (j : ℕ) → is_unvisited st j ≡ true → before (g.a j) (g.a link) ≡ false

abbrev pub AllBegin : Graph → Bool → List ℕ → List Walk → Type 0
AllBegin g cw st [] = Unit {0}
AllBegin g cw st (w ∷ ws) = Begins g cw st w × AllBegin g cw (marked (mark_of w.hole) w.steps st) ws

-- the first step of a walk
abbrev First : Step → Walked → Type 0
First s (stuck number) = Unit {0}
First s (done l after) = (r : List Step) × (l ≡ s ∷ r)

first_cons : (s : Step) (o : Walked) → First s (cons_step s o)
first_cons s (stuck number) = tt
first_cons s (done l after) = (l, refl)

from_first : (g : Graph) (forward sense : Bool) (mark : ℕ) (st : List ℕ) (s : ℕ) → First (record { link = s; forward = forward })
    (walk_from g forward sense mark st s)
unfolding walk_from
from_first g forward sense mark st s = by (next_link g (not sense) (set st s mark) (pick forward (g.a_node s) (g.b_node s)) s)
  where
    home : ℕ
    home = pick forward (g.a_node s) (g.b_node s)

    ahead : ℕ
    ahead = pick forward (g.b_node s) (g.a_node s)

    by : (o : Option ℕ) → First (record { link = s; forward = forward })
        (on_next (λ last. cons_step (record { link = s; forward = forward })
        (walk_on (suc (unvisited (set st s mark))) g sense home last mark ahead s (set st s mark))) o)
    by None = tt
    by (Some last) =
        first_cons (record { link = s; forward = forward }) (walk_on (suc (unvisited (set st s mark))) g sense home last mark ahead s (set st s mark))

module _ (g : Lent) (top st₀ : List ℕ) (r : Room) (f : FineGraph g top st₀ r) (cw : Bool) where
  abbrev G : Graph
  G = graph_of g top

  -- the lowest unvisited link's a is least; a link at that node has it too
  module _ (st : List ℕ) (long : length st ≡ G.n) (k : ℕ) (o : is_unvisited st k ≡ true) (low : NoneBelow (is_unvisited st) k) where
    from_k : (j : ℕ) → is_unvisited st j ≡ true → k ≤ j
    from_k j oj = elim (dec_le k j) [ yes h ↦ h | no n ↦ absurd (true≢false oj (low j (below n))) ]
      where
        below : (k ≤ j → ⊥) → j < k
        below n = omega arith

    in_graph : (j : ℕ) → is_unvisited st j ≡ true → j < G.n
    in_graph j oj = rw (sym long) (unvisited_below st j oj)

    not_before : (j : ℕ) → is_unvisited st j ≡ true → before (G.a j) (G.a k) ≡ false
    not_before j oj = f.links.order k j (from_k j oj) (in_graph j oj)

    same_a : (s : ℕ) → is_unvisited st s ≡ true → Memᴰ s (G.entries (G.a_node k)) → G.a s ≡ G.a k
    same_a s os m = ⊎_elim
        (λ (q : G.a_node s ≡ G.a_node k). f.one_point.aa s k (in_graph s os) (in_graph k o) q)
        (λ (q : G.b_node s ≡ G.a_node k).
        let p : G.a k ≡ G.b s = f.one_point.ab k s (in_graph k o) (in_graph s os) (sym q) in
        absurd (true≢false (subst (λ u. before (G.a s) u ≡ true) (sym p) (f.links.strict s (in_graph s os))) (not_before s os)))
        (f.lists.only (G.a_node k) s m)

    pub begins : (s : ℕ) → first_link G st k ≡ Some s → (j : ℕ) → is_unvisited st j ≡ true → before (G.a j) (G.a s) ≡ false
    begins s e j oj =
        let os : is_unvisited st s ≡ true = subst (LinkUnvisited st) e (first_is_unvisited G st k o) in
        subst (λ u. before (G.a j) u ≡ false) (sym (same_a s os (first_in G st k (f.lists.at_a k (in_graph k o)) s e))) (not_before j oj)

  abbrev pub Led : List ℕ → Scanned → Type 0
  Led st (stopped number place) = Unit {0}
  Led st (walks ws after) = AllBegin G cw st ws

  led_cons : (w : Walk) (st : List ℕ) (o : Scanned) → Begins G cw st w → Led (marked (mark_of w.hole) w.steps st) o → Led st (cons_walk w o)
  led_cons w st (stopped number place) b h = tt
  led_cons w st (walks ws after) b h = (b, h)

  led_after : (go : List ℕ → Scanned) (st : List ℕ) (k s : ℕ) (o : Walked) → is_unvisited st s ≡ true
      → ((j : ℕ) → is_unvisited st j ≡ true → before (G.a j) (G.a s) ≡ false)
      → First (record { link = s; forward = not (sense_of G cw s) }) o → Visits (mark_of (G.top s)) st o
      → ((after : List ℕ) → length after ≡ length st → Led after (go after)) → Led st (after_walk k (G.top s) go o)
  led_after go st k s (stuck number) os l fs v h = tt
  led_after go st k s (done u after) os l fs v h =
      let w : Walk = record { hole = G.top s; steps = u } in
      led_cons w st (go after) (record { link = s; rest = fs.0; steps_are = fs.1; hole_is = refl; unvisited_one = os; least = l })
      (subst (λ a. Led a (go after)) v.0 (h after (ap length v.0 ∙ marked_length (mark_of (G.top s)) u st)))

  led_at : (go : List ℕ → Scanned) (st : List ℕ) (k : ℕ) (n : Option ℕ) → first_link G st k ≡ n → length st ≡ G.n → is_unvisited st k ≡ true
      → NoneBelow (is_unvisited st) k
      → ((after : List ℕ) → length after ≡ length st → Led after (go after)) → Led st (scan_at G cw go st k n)
  led_at go st k None e long o low h = tt
  led_at go st k (Some s) e long o low h =
      let os : is_unvisited st s ≡ true = subst (LinkUnvisited st) e (first_is_unvisited G st k o) in
      led_after go st k s (walk_of G cw st s) os (begins st long k o low s e) (from_first G (not (sense_of G cw s)) (sense_of G cw s) (mark_of (G.top s)) st s)
      (from_visits G (not (sense_of G cw s)) (sense_of G cw s) (mark_of (G.top s)) st s os) h

  pub scan_begins : (fuel : ℕ) (st : List ℕ) → length st ≡ G.n → Led st (scan_on fuel G cw st)
  unfolding scan_on
  scan_begins zero st long = tt
  scan_begins (suc fuel) st long =
      pick_ind (ltb (lowest_unvisited st) (length st)) _ (walks [] st) (Led st)
      (λ t. let q = some_of (is_unvisited st) (length st) t in
      led_at (λ after. scan_on fuel G cw after) st (lowest_unvisited st) (first_link G st (lowest_unvisited st)) refl long q.passes q.lowest_one
      (λ after e. scan_begins fuel after (e ∙ long)))
      (λ n. tt)
