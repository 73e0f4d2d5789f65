-- The lists that the code makes give a sound table's edges.
use Rattle.std.specs.Prelude.{ℕ, ◌≤◌, ◌<◌, ◌≡◌, refl, Bool, List, length, get_or}
use Rattle.std.proofs.Common.{arith}
use Rattle.turn.specs.Limits.{max_links}
use Rattle.table.specs.Table.{Table, point_count, contour_count, first_of, range_end, contour_of, next}
use Rattle.table.specs.Passing.{located, sound_follows, contours_few, next_within}
use Rattle.table.specs.Sound.{Sound}
use Rattle.candidates.specs.EdgeLists.{EdgeLists, listed_edge, edge_lists, Fit, Ranges, ranges, Round}
use Rattle.candidates.specs.Candidates.{edge}

pub listed_contour : (g : EdgeLists) (k : ℕ) → (listed_edge g k).contour ≡ get_or g.of k 0
unfolding listed_edge
listed_contour g k = refl

-- ---- the ranges of a sound table
module _ (t : Table) (s : Sound t) where
  pub ranges_of : Ranges t.first t.len
  ranges_of = record {
    same = s.len_long;
    few = omega (arith, contours_few t s);
    follow = sound_follows t s;
    within = λ c h. omega (arith, s.within c h, s.few);
  }

-- ---- the lists that the code has made
module _ (t : Table) (s : Sound t) (next' of : List ℕ) (r : Round (ranges t.first t.len) (contour_count t) next' of) where
  pub of_is : (k : ℕ) → k < point_count t → get_or of k 0 ≡ contour_of t k
  of_is k l = let h = located t s k l in r.of_is (contour_of t k) k h.below h.from h.to

  pub next_is : (k : ℕ) → k < point_count t → get_or next' k 0 ≡ next t (contour_of t k) k
  next_is k l = let h = located t s k l in r.next_is (contour_of t k) k h.below h.from h.to

  pub of_few : (k : ℕ) → k < point_count t → get_or of k 0 < max_links
  of_few k l = rw (of_is k l) (omega (arith, (located t s k l).below, contours_few t s))

  pub next_below : (k : ℕ) → k < point_count t → next t (contour_of t k) k < point_count t
  next_below k l =
      let h = located t s k l in
      omega (arith, (next_within (first_of t (contour_of t k)) (range_end t (contour_of t k)) k h.from h.to).1, s.within (contour_of t k) h.below)

  module _ (right : Bool) where
    abbrev g : EdgeLists
    g = edge_lists t.points next' of t.kind right

    pub edges_same : (k : ℕ) → k < point_count t → listed_edge g k ≡ edge t right k
    unfolding listed_edge edge
    edges_same k l = rw (of_is k l, next_is k l)

    pub fit : max_links ≤ length next' → max_links ≤ length of → Fit g (point_count t)
    fit n o = record {
      room = omega (arith, s.whole);
      grid = s.grid;
      next_room = omega (arith, s.few);
      of_room = omega (arith, s.few);
      next = λ k l. rw (next_is k l) (next_below k l);
      kind = λ k l. rw (of_is k l) (omega (arith, (located t s k l).below, s.kind_long));
    }
