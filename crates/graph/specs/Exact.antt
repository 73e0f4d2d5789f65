-- `checked` calls a graph fine exactly where it passes: where each condition of document 01's checks 1 to 7 fails everywhere.
use Rattle.std.specs.Prelude.{ℕ, ◌+◌, ◌/◌, ◌≤◌, ◌<◌, ◌≡◌, refl, Bool, true, false, ◌||◌, List, length, get_or}
use Rattle.std.proofs.Common.{arith, sym}
use Rattle.std.proofs.Math.Decide.{dec_le}
use Rattle.laws.specs.Lowest.{some}
use Rattle.turn.specs.Limits.{max_links}
use Rattle.turn.specs.Points.{before, OnGrid}
use Rattle.turn.specs.Angle.{same_direction}
use Rattle.graph.specs.Graph.{Lent, link_count, node_count}
use Rattle.laws.specs.Count.{count}
use Rattle.graph.specs.Checks.{Room, a_of, b_of, node_at, entries_of, unlike, few_points, unlike_band, few_contours, link_wrong, bad_starts, bad_nodes}
use Rattle.graph.specs.Checks.{apart_at, alike_at, nodes_checked, each_checked, links_checked, checked}
use Rattle.graph.specs.Passes.{Even, EndAt, entry, end_point_of, away_of, Passes}
use Rattle.laws.specs.Fails.{Iff, Fails, then, both, or_fails, some_fails, lt_fails, ne_fails}
use Rattle.graph.specs.Tests.{two_fails, even, band_even, contours, placed, named, flagged, in_order, rising, no_stray, together, unlike_ways}
use Rattle.turn.specs.Refusals.{refuses, both_fine, no_fault}

module _ (g : Lent) (top state : List ℕ) (r : Room) where
  -- what the checks say one after the other
  abbrev Shape : Type 0
  Shape = ((((Even g) × (1 ≤ length g.start)) × (link_count g ≤ r.points / 2)) × ((length top ≡ link_count g) × (length state ≡ link_count g)))
      × (((r.lens ≡ r.firsts) × (r.kinds ≡ r.firsts)) × (link_count g / 3 ≤ r.firsts))

  abbrev Link : ℕ → Type 0
  Link k = ((((OnGrid (a_of g k)) × (OnGrid (b_of g k))) × (before (a_of g k) (b_of g k) ≡ true))
      × (((get_or g.a_id k 0 < node_count g) × (get_or g.b_id k 0 < node_count g)) × (get_or g.a_id k 0 ≡ get_or g.b_id k 0 → ⊥)))
      × ((get_or top k 0 ≤ 1) × (get_or state k 0 ≤ 1))

  abbrev Lists : Type 0
  Lists = ((bad_starts g.start g.list ≡ false)
      × ((v : ℕ) → v < node_count g → (i : ℕ) → i < length (entries_of g v) → EndAt g.a_id g.b_id v (entry g v i)))
      × ((k : ℕ) → k < link_count g → (count k (entries_of g (get_or g.a_id k 0)) ≡ 1) × (count k (entries_of g (get_or g.b_id k 0)) ≡ 1))

  abbrev Points : Type 0
  Points = (v : ℕ) → v < node_count g → (j : ℕ) → j < length (entries_of g v) → (i : ℕ) → i < j → end_point_of g v (entry g v i) ≡ end_point_of g v
      (entry g v j)

  abbrev Ways : Type 0
  Ways = (v : ℕ) → v < node_count g → (j : ℕ) → j < length (entries_of g v) → (i : ℕ) → i < j
      → (get_or state (entry g v i) 0 ≡ 1 → ⊥) → (get_or state (entry g v j) 0 ≡ 1 → ⊥) → same_direction (away_of g v (entry g v i))
      (away_of g v (entry g v j)) ≡ false

  shape : Fails (unlike g || few_points (link_count g) r.points || unlike_band (link_count g) top state
      || few_contours (link_count g) r.firsts r.lens r.kinds) Shape
  shape = or_fails (or_fails (or_fails (even g) (lt_fails _ _)) (band_even (link_count g) top state)) (contours (link_count g) r.firsts r.lens r.kinds)

  links : Fails (some (link_wrong g top state) (link_count g)) ((k : ℕ) → k < link_count g → Link k)
  links = some_fails (link_count g)
      (λ k. or_fails (or_fails (placed (a_of g k) (b_of g k)) (named (node_count g) (get_or g.a_id k 0) (get_or g.b_id k 0)))
      (flagged (get_or top k 0) (get_or state k 0)))

  itself : (b : Bool) → Fails b (b ≡ false)
  itself b = record { to = λ e. e; from = λ e. e }

  lists : Fails (bad_nodes g.a_id g.b_id g.start g.list) Lists
  lists =
      or_fails (or_fails (itself (bad_starts g.start g.list))
      (some_fails (node_count g) (λ v. some_fails (length (entries_of g v)) (λ i. no_stray g.a_id g.b_id v (entry g v i)))))
      (some_fails (link_count g) (λ k. or_fails (ne_fails _ _) (ne_fails _ _)))

  points : Fails (some (apart_at (a_of g) (b_of g) (node_at g.a_id) (entries_of g)) (node_count g)) Points
  points = some_fails (node_count g) (λ v. two_fails (length (entries_of g v)) (λ i j. together (a_of g) (b_of g) (node_at g.a_id) v (entry g v i)
      (entry g v j)))

  ways : Fails (some (alike_at (a_of g) (b_of g) (node_at g.a_id) state (entries_of g)) (node_count g)) Ways
  ways = some_fails (node_count g)
      (λ v. two_fails (length (entries_of g v)) (λ i j. unlike_ways (a_of g) (b_of g) (node_at g.a_id) state v (entry g v i) (entry g v j)))

  nothing : {P : Type 0} → Iff (P × (no_fault ≡ no_fault)) P
  nothing = record { to = λ p. p.0; from = λ p. (p, refl) }

  pub by_nodes : Iff (nodes_checked g state ≡ no_fault) (Lists × (Points × Ways))
  unfolding nodes_checked
  by_nodes = then (refuses _ _ _ _) (both lists (then (refuses _ _ _ _) (both points (then (refuses _ _ _ _) (then nothing ways)))))

  by_each : Iff (each_checked g top state ≡ no_fault)
      (((k : ℕ) → k < link_count g → Link k) × ((k : ℕ) → k + 1 < link_count g → before (a_of g (k + 1)) (a_of g k) ≡ false))
  unfolding each_checked
  by_each = then (refuses _ _ _ _) (both links (then (refuses _ _ _ _) (then nothing (in_order (a_of g) (link_count g)))))

  abbrev LinksFine : Type 0
  LinksFine = (link_count g ≤ max_links)
      × (Shape × (((k : ℕ) → k < link_count g → Link k) × ((k : ℕ) → k + 1 < link_count g → before (a_of g (k + 1)) (a_of g k) ≡ false)))

  pub by_links : Iff (links_checked g top state r ≡ no_fault) LinksFine
  unfolding links_checked
  by_links =
      then (refuses _ _ _ _) (both (lt_fails max_links (link_count g)) (then (refuses _ _ _ _) (both shape by_each)))

  abbrev All : Type 0
  All = LinksFine × (Lists × (Points × Ways))

  all : Iff (checked g top state r ≡ no_fault) All
  unfolding checked
  all = then (both_fine (links_checked g top state r) (nodes_checked g state)) (both by_links by_nodes)

  -- two entries in either order
  any_two : Points → (v i j : ℕ) → v < node_count g → i < length (entries_of g v) → j < length (entries_of g v) → end_point_of g v (entry g v i)
      ≡ end_point_of g v (entry g v j)
  any_two h v i j l li lj = go (dec_le j i) (dec_le i j)
    where
      go : Dec (j ≤ i) → Dec (i ≤ j) → end_point_of g v (entry g v i) ≡ end_point_of g v (entry g v j)
      go (no p) q = h v l j lj i (omega arith)
      go (yes p) (no q) = sym (h v l i li j (omega arith))
      go (yes p) (yes q) = let e : i ≡ j = omega arith in rw e

  passes : All → Passes g top state r
  passes h =
      let few = h.0.0 in
      let s = h.0.1.0 in
      let k = h.0.1.1.0 in
      let o = h.0.1.1.1 in
      let l = h.1.0 in
      let p = h.1.1 in
      record {
        shared = record {
          few = few;
          even = s.0.0.0.0;
          room = s.0.0.1;
          a_grid = λ i b. (k i b).0.0.0.0;
          b_grid = λ i b. (k i b).0.0.0.1;
          strict = λ i b. (k i b).0.0.1;
          a_node_lem = λ i b. (k i b).0.1.0.0;
          b_node_lem = λ i b. (k i b).0.1.0.1;
          two_nodes = λ i b. (k i b).0.1.1;
          order = o;
          rising = (rising g.start g.list s.0.0.0.1).to l.0.0;
          ends = λ v i b c. l.0.1 v b i c;
          once_a = λ i b. (l.1 i b).0;
          once_b = λ i b. (l.1 i b).1;
          one_point = any_two p.0;
        };
        band = record {
          top_long = s.0.1.0;
          state_long = s.0.1.1;
          lens_long = s.1.0.0;
          kinds_long = s.1.0.1;
          room = s.1.1;
          top_flag = λ i b. (k i b).1.0;
          state_flag = λ i b. (k i b).1.1;
          spread = λ v i j b c d. p.1 v b j d i c;
        };
      }

  unpack : Passes g top state r → All
  unpack h =
      let s = h.shared in
      let b = h.band in
      let lengths : Shape = ((((s.even, s.rising.any), s.room), (b.top_long, b.state_long)), ((b.lens_long, b.kinds_long), b.room)) in
      let each : (k : ℕ) → k < link_count g
      → Link k =
      λ k l. (
        (((s.a_grid k l, s.b_grid k l), s.strict k l), ((s.a_node_lem k l, s.b_node_lem k l), s.two_nodes k l)),
        (b.top_flag k l, b.state_flag k l),
      ) in
      let starts = (rising g.start g.list s.rising.any).from s.rising in (
        (s.few, (lengths, (each, s.order))),
        (
          ((starts, λ v l i c. s.ends v i l c), λ k l. (s.once_a k l, s.once_b k l)),
          ((λ v l j lj i li. s.one_point v i j l (omega arith) lj), λ v l j lj i li. b.spread v i j l li lj),
        ),
      )

  pub exact : Iff (checked g top state r ≡ no_fault) (Passes g top state r)
  exact = then all (record { to = passes; from = unpack })
