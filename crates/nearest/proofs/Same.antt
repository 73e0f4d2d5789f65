-- The search looks at the first n edges alone, so that what it finds among the lists is what it finds in the table.
use Prim.Native.Nat.{ℕ, zero, suc, ◌+◌, ◌-◌, ◌≤◌, ◌<◌}
use mathlib.Core.Path.{◌≡◌, refl, ap, ◌∙◌}
use mathlib.Core.Bool.{Bool, true, false, not, beq}
use mathlib.Core.List.{List}
use native.Mathlib.Omega.{arith}
use lib.ListN.{length, get_or}
use lib.Dec.{eqb}
use Rattle.laws.specs.Test.{pick}
use Rattle.table.specs.Table.{Table, point_count, contour_count}
use Rattle.table.specs.Passing.{located}
use Rattle.table.specs.Sound.{Sound}
use Rattle.anchor.specs.declared.Anchor.{Anchor}
use Rattle.anchor.specs.Anchors.{Anchors, listed_anchor}
use Rattle.edges.specs.declared.Edge.{Edge}
use Rattle.candidates.specs.Candidates.{edge, rightward}
use Rattle.candidates.specs.EdgeLists.{EdgeLists, edge_lists, listed_edge, ranges, Round}
use Rattle.candidates.specs.EdgeListLaws.{listed_contour, of_is, edges_same}
use Rattle.nearest.specs.Search.{kept, offered, keep, nearest, contour_under}
use Rattle.nearest.specs.SearchLists.{giving, named, Flags, Numbers, Nearests}
use Rattle.nearest.specs.Least.{nearest_le}

-- the way that candidates are walked, as the code has it
pub unlike : (above clockwise : Bool) → not (beq above clockwise) ≡ rightward above clockwise
unlike true true = refl
unlike true false = refl
unlike false true = refl
unlike false false = refl

-- ---- edges that are equal below n give one answer
module _ (e f : ℕ → Edge) (gives : ℕ → Bool) (a : Anchor) (n : ℕ) (same : (k : ℕ) → k < n → e k ≡ f k) where
  keep_same : (k b : ℕ) → k < n → b ≤ n → keep e gives a k b ≡ keep f gives a k b
  unfolding keep offered kept
  keep_same k zero h l = rw (same k h)
  keep_same k (suc b) h l = let q : suc b - 1 ≡ b = omega arith in rw (q, same k h, same b (omega arith))

  up_to : (k : ℕ) → k ≤ n → nearest e gives a k ≡ nearest f gives a k
  unfolding nearest
  up_to zero h = refl
  up_to (suc k) h =
      let l = nearest_le e gives a k in
      keep_same k (nearest e gives a k) (omega arith) (omega arith) ∙ ap (keep f gives a k) (up_to k (omega arith))

  named_same : (b : ℕ) → b ≤ n → pick (eqb b 0) 0 ((e (b - 1)).contour + 1) ≡ pick (eqb b 0) 0 ((f (b - 1)).contour + 1)
  named_same zero l = refl
  named_same (suc b) l = let q : suc b - 1 ≡ b = omega arith in rw (q, same b (omega arith))

  pub answer_same : contour_under e gives a n ≡ contour_under f gives a n
  unfolding contour_under
  answer_same =
      named_same (nearest e gives a n) (nearest_le e gives a n)
      ∙ ap (λ (b : ℕ). pick (eqb b 0) 0 ((f (b - 1)).contour + 1)) (up_to n (omega arith))

-- ---- the lists that the code has made
module _ (t : Table) (s : Sound t) (next' of : List ℕ) (r : Round (ranges t.first t.len) (contour_count t) next' of) where
  pub flags : (mute : List ℕ) → contour_count t ≤ length mute → Flags of mute (point_count t)
  flags mute h k l = rw (of_is t s next' of r k l) (omega (arith, (located t s k l).below))

  module _ (right : Bool) where
    abbrev g : EdgeLists
    g = edge_lists t.points next' of t.kind right

    module _ (mute : List ℕ) (h : Anchors) (m : ℕ) (best : List ℕ) (n : Nearests g mute (point_count t) h m best) where
      pub best_numbers : Numbers best m (point_count t)
      best_numbers j l = rw (n j l) (nearest_le (listed_edge g) (giving mute) (listed_anchor h j) (point_count t))

      listed : (a : Anchor) (b : ℕ) → b ≡ nearest (listed_edge g) (giving mute) a (point_count t) → named of b
          ≡ contour_under (listed_edge g) (giving mute) a (point_count t)
      unfolding contour_under
      listed a b e = rw (← e, listed_contour g (b - 1))

      -- what the search answers
      pub searched : (under : List ℕ) → ((j : ℕ) → j < m → get_or under j 0 ≡ named of (get_or best j 0))
          → (j : ℕ) → j < m → get_or under j 0 ≡ contour_under (edge t right) (giving mute) (listed_anchor h j) (point_count t)
      searched under u j l =
          u j l ∙ listed (listed_anchor h j) (get_or best j 0) (n j l)
          ∙ answer_same (listed_edge g) (edge t right) (giving mute) (listed_anchor h j) (point_count t) (edges_same t s next' of r right)
