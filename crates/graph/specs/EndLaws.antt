-- The ends at a node: each entry compared with the first, ends within the bounds, pairs of entries, and links that are parallel.
use Rattle.std.specs.Prelude.{ℕ, ◌+◌, ◌*◌, ◌≤◌, ◌<◌, ◌≡◌, refl, Bool, true, false, not, ◌||◌, ◌&&◌, List, [], ◌∷◌, eqb, length, get_or, ℤ, pos, neg_ℤ}
use Rattle.std.proofs.Common.{arith, sym, ◌∙◌}
use Rattle.laws.specs.Test.{pick, pick_ind, true≢false, not_true, true_is}
use Rattle.laws.specs.Ring.{ring, Ex, var, ◌:-◌, ◌:*◌, neg}
use Rattle.laws.specs.Sign.{Sgn, mns, zer, pls, sgn, flip, eq_s, eq_s_eq, sgn_neg, sgn_zer}
use Rattle.laws.specs.Lowest.{NoneBelow, some, some_yes, some_no}
use Rattle.turn.specs.declared.Point.{Point}
use Rattle.turn.specs.Points.{OnGrid, from_to, cross, dot}
use Rattle.turn.specs.Angle.{same_direction}
use Rattle.graph.specs.Checks.{end_at, away, apart, apart_in, skipped, alike, some_two}
use Rattle.laws.specs.Fails.{Fails}
use Rattle.graph.specs.Tests.{together, two_fails}

module _ (a b : ℕ → Point) (a_node : ℕ → ℕ) (l : List ℕ) (v : ℕ) where
  -- no two differ exactly where each later one is the earlier one
  pairs : Fails (apart_in a b a_node l v) ((j : ℕ) → j < length l → (i : ℕ) → i < j → end_at a b a_node v (get_or l i 0) ≡ end_at a b a_node v (get_or l j 0))
  pairs = two_fails (length l) (λ i j. together a b a_node v (get_or l i 0) (get_or l j 0))

  pub none_apart : NoneBelow (λ j. apart a b a_node v (get_or l 0 0) (get_or l j 0)) (length l) → apart_in a b a_node l v ≡ false
  none_apart h = pairs.from (λ j lj i li. sym (same i (omega arith)) ∙ same j lj)
    where
      same : (i : ℕ) → i < length l → end_at a b a_node v (get_or l 0 0) ≡ end_at a b a_node v (get_or l i 0)
      same i k = (together a b a_node v (get_or l 0 0) (get_or l i 0)).to (h i k)

  pub one_apart : (i : ℕ) → 1 ≤ i → i < length l → apart a b a_node v (get_or l 0 0) (get_or l i 0) ≡ true → apart_in a b a_node l v ≡ true
  one_apart i h k e = by (apart_in a b a_node l v) (λ n. true≢false e ((together a b a_node v (get_or l 0 0) (get_or l i 0)).from (pairs.to n i k 0 h)))
    where
      by : (t : Bool) → (t ≡ false → ⊥) → t ≡ true
      by true n = refl
      by false n = absurd (n refl)

  pub self : apart a b a_node v (get_or l 0 0) (get_or l 0 0) ≡ false
  self = (together a b a_node v (get_or l 0 0) (get_or l 0 0)).from refl

pub end_on_grid : (a b : ℕ → Point) (a_node : ℕ → ℕ) (v k : ℕ) → OnGrid (a k) → OnGrid (b k) → OnGrid (end_at a b a_node v k)
end_on_grid a b a_node v k h g = pick_ind (eqb (a_node k) v) (a k) (b k) OnGrid (λ e. h) (λ e. g)

-- the way from one end to the other, as the code reads it
pub ends_away : (a b : ℕ → Point) (a_node : ℕ → ℕ) (v k : ℕ) → from_to (end_at a b a_node v k) (end_at b a a_node v k) ≡ away a b a_node v k
ends_away a b a_node v k = by (eqb (a_node k) v)
  where
    by : (s : Bool) → from_to (pick s (a k) (b k)) (pick s (b k) (a k)) ≡ pick s (from_to (a k) (b k)) (from_to (b k) (a k))
    by true = refl
    by false = refl

-- ---- pairs: what the loops over them have to show
pub pair_found : (test : ℕ → ℕ → Bool) (n i j : ℕ) → i < j → j < n → NoneBelow (λ t. some (λ s. test s t) t) j → NoneBelow (λ s. test s j) i → test i j ≡ true
    → some_two test n ≡ true
pair_found test n i j li lj hj hi e = some_yes (λ t. some (λ s. test s t) t) n j lj hj (some_yes (λ s. test s j) j i li hi e)

pub no_pair : (test : ℕ → ℕ → Bool) (n : ℕ) → NoneBelow (λ t. some (λ s. test s t) t) n → some_two test n ≡ false
no_pair test n h = some_no (λ t. some (λ s. test s t) t) n h

-- ---- parallel links: which of their ends are at the node plays no role
flip_zer : (s : Sgn) → eq_s (flip s) zer ≡ eq_s s zer
flip_zer mns = refl
flip_zer zer = refl
flip_zer pls = refl

module _ (p q r u : Point) where
  abbrev at : List ℤ
  at = p.x ∷ p.y ∷ q.x ∷ q.y ∷ r.x ∷ r.y ∷ u.x ∷ u.y ∷ []

  -- the cross product of the vectors from points i to j and k to l of the four
  abbrev cross_e : ℕ → ℕ → ℕ → ℕ → Ex
  cross_e i j k l = (var (2 * j) :- var (2 * i)) :* (var (2 * l + 1) :- var (2 * k + 1)) :- (var (2 * j + 1) :- var (2 * i + 1)) :* (var (2 * l) :- var (2 * k))

  turned_second : cross (from_to p q) (from_to u r) ≡ neg_ℤ (cross (from_to p q) (from_to r u))
  turned_second = ring at (cross_e 0 1 3 2) (neg (cross_e 0 1 2 3)) tt

  turned_first : cross (from_to q p) (from_to r u) ≡ neg_ℤ (cross (from_to p q) (from_to r u))
  turned_first = ring at (cross_e 1 0 2 3) (neg (cross_e 0 1 2 3)) tt

  turned_both : cross (from_to q p) (from_to u r) ≡ cross (from_to p q) (from_to r u)
  turned_both = ring at (cross_e 1 0 3 2) (cross_e 0 1 2 3) tt

  parallel : (s t : Bool) → eq_s (sgn (cross (pick s (from_to p q) (from_to q p)) (pick t (from_to r u) (from_to u r)))) zer
      ≡ eq_s (sgn (cross (from_to p q) (from_to r u))) zer
  parallel true true = refl
  parallel true false = rw (turned_second, sgn_neg (cross (from_to p q) (from_to r u))) (flip_zer (sgn (cross (from_to p q) (from_to r u))))
  parallel false true = rw (turned_first, sgn_neg (cross (from_to p q) (from_to r u))) (flip_zer (sgn (cross (from_to p q) (from_to r u))))
  parallel false false = rw turned_both

pub not_parallel : (a b : ℕ → Point) (a_node : ℕ → ℕ) (state : List ℕ) (v e f : ℕ) → (cross (from_to (a e) (b e)) (from_to (a f) (b f)) ≡ pos 0 → ⊥)
    → false ≡ alike a b a_node state v e f
not_parallel a b a_node state v e f n =
    by (skipped state e) (skipped state f) (eq_s (sgn (cross (away a b a_node v e) (away a b a_node v f))) zer)
    (eq_s (sgn (dot (away a b a_node v e) (away a b a_node v f))) pls) (parallel (a e) (b e) (a f) (b f) (eqb (a_node e) v) (eqb (a_node f) v) ∙ apart_lines)
  where
    apart_lines : eq_s (sgn (cross (from_to (a e) (b e)) (from_to (a f) (b f)))) zer ≡ false
    apart_lines =
        not_true (eq_s (sgn (cross (from_to (a e) (b e)) (from_to (a f) (b f)))) zer)
        (λ h. n (sgn_zer (cross (from_to (a e) (b e)) (from_to (a f) (b f))) (eq_s_eq (true_is h))))

    by : (s t d g : Bool) → d ≡ false → false ≡ not s && not t && (d && g)
    by true t d g h = refl
    by false true d g h = refl
    by false false d g h = rw h

-- a skipped link is alike none; of two unskipped ones the directions tell
module _ (a b : ℕ → Point) (a_node : ℕ → ℕ) (state : List ℕ) (v e f : ℕ) where
  pub one_skipped : skipped state e || skipped state f ≡ true → false ≡ alike a b a_node state v e f
  one_skipped = by (skipped state e) (skipped state f) (same_direction (away a b a_node v e) (away a b a_node v f))
    where
      by : (s t d : Bool) → s || t ≡ true → false ≡ not s && not t && d
      by true t d e = refl
      by false true d e = refl
      by false false d e = absurd (true≢false e refl)

  pub none_skipped : skipped state e || skipped state f ≡ false → same_direction (away a b a_node v e) (away a b a_node v f) ≡ alike a b a_node state v e f
  none_skipped = by (skipped state e) (skipped state f) (same_direction (away a b a_node v e) (away a b a_node v f))
    where
      by : (s t d : Bool) → s || t ≡ false → d ≡ not s && not t && d
      by true t d e = absurd (true≢false refl e)
      by false true d e = absurd (true≢false refl e)
      by false false d e = refl
