-- What each test of the checks says, both ways: it fails exactly where the plain fact holds.
use Rattle.std.specs.Prelude.{ℕ, zero, suc, ◌+◌, ◌-◌, ◌/◌, ◌≤◌, ◌<◌, ◌≡◌, refl, Bool, true, false, not, ◌&&◌, ◌⊎◌, List, ltb, eqb, length, get_or}
use Rattle.std.proofs.Common.{arith, inl, inr, ⊎_elim, ne_eqb, lt-ltb}
use Rattle.std.proofs.lemmas.Bool.{eqb-false}
use Rattle.laws.specs.Test.{and_false, true≢false}
use Rattle.laws.specs.Fails.{Fails, then, lt_fails, le_fails, eq_fails, ne_fails, not_fails, or_fails, some_fails}
use Rattle.laws.specs.Lowest.{some, NoneBelow, none_of, some_no}
use Rattle.turn.specs.declared.Point.{Point}
use Rattle.turn.specs.Points.{before, OnGrid}
use Rattle.turn.specs.Angle.{same_direction}
use Rattle.graph.specs.Graph.{Lent}
use Rattle.graph.specs.Checks.{unlike, unlike_band, few_contours, misplaced, misnamed, misflagged, out_of_order, bad_starts, stray, some_two, end_at}
use Rattle.graph.specs.Checks.{away, apart, skipped, alike}
use Rattle.graph.specs.Passes.{Even, Rising, EndAt}
use Rattle.turn.specs.PointOrder.{on_grid}
use Rattle.graph.specs.PointLaws.{same_point, not_differ}

-- ---- two of n places
pub two_fails : {test : ℕ → ℕ → Bool} {P : ℕ → ℕ → Type 0} (n : ℕ) → ((i j : ℕ) → Fails (test i j) (P i j))
    → Fails (some_two test n) ((j : ℕ) → j < n → (i : ℕ) → i < j → P i j)
two_fails n h = some_fails n (λ j. some_fails j (λ i. h i j))

-- ---- 2
pub even : (g : Lent) → Fails (unlike g) ((Even g) × (1 ≤ length g.start))
even g =
    then
    (or_fails (or_fails (or_fails (or_fails (or_fails (ne_fails _ _) (ne_fails _ _)) (ne_fails _ _)) (ne_fails _ _)) (ne_fails _ _))
    (eq_fails (length g.start) 0))
    (record {
      to = λ h. (record { ax = h.0.0.0.0.0; ay = h.0.0.0.0.1; bx = h.0.0.0.1; by = h.0.0.1; b_id = h.0.1 }, above (length g.start) h.1);
      from = λ h. (((((h.0.ax, h.0.ay), h.0.bx), h.0.by), h.0.b_id), λ e. none (length g.start) e h.1);
    })
  where
    above : (s : ℕ) → (s ≡ 0 → ⊥) → 1 ≤ s
    above s h = omega arith

    none : (s : ℕ) → s ≡ 0 → 1 ≤ s → ⊥
    none s e h = omega arith

pub band_even : (n : ℕ) (top state : List ℕ) → Fails (unlike_band n top state) ((length top ≡ n) × (length state ≡ n))
band_even n top state = or_fails (ne_fails _ _) (ne_fails _ _)

pub contours : (n firsts lens kinds : ℕ) → Fails (few_contours n firsts lens kinds) (((lens ≡ firsts) × (kinds ≡ firsts)) × (n / 3 ≤ firsts))
contours n firsts lens kinds = or_fails (or_fails (ne_fails _ _) (ne_fails _ _)) (lt_fails _ _)

-- ---- 3
pub placed : (a b : Point) → Fails (misplaced a b) (((OnGrid a) × (OnGrid b)) × (before a b ≡ true))
placed a b = or_fails (or_fails (on_grid a) (on_grid b)) (not_fails (before a b))

pub named : (m a_id b_id : ℕ) → Fails (misnamed m a_id b_id) (((a_id < m) × (b_id < m)) × (a_id ≡ b_id → ⊥))
named m a_id b_id = or_fails (or_fails (le_fails m a_id) (le_fails m b_id)) (eq_fails a_id b_id)

pub flagged : (top state : ℕ) → Fails (misflagged top state) ((top ≤ 1) × (state ≤ 1))
flagged top state = or_fails (lt_fails 1 top) (lt_fails 1 state)

-- ---- 4
pub in_order : (a : ℕ → Point) (n : ℕ) → Fails (some (out_of_order a) n) ((k : ℕ) → k + 1 < n → before (a (k + 1)) (a k) ≡ false)
in_order a n = record { to = λ e k l. after k (none_of (out_of_order a) n e (k + 1) l); from = λ h. some_no (out_of_order a) n (at h) }
  where
    after : (k : ℕ) → out_of_order a (k + 1) ≡ false → before (a (k + 1)) (a k) ≡ false
    after k e =
        let p : k + 1 - 1 ≡ k = omega arith in
        let q : ltb 0 (k + 1) ≡ true = lt-ltb 0 (k + 1) (omega arith) in
        simp (p, q) at e

    at : ((k : ℕ) → k + 1 < n → before (a (k + 1)) (a k) ≡ false) → NoneBelow (out_of_order a) n
    at h zero l = refl
    at h (suc k) l =
        let e : k + 1 ≡ suc k = omega arith in
        let p : suc k - 1 ≡ k = omega arith in
        let q : ltb 0 (suc k) ≡ true = lt-ltb 0 (suc k) (omega arith) in
        simp (p, q) (simp e at (h k (omega arith)))

-- ---- 5
pub rising : (start list : List ℕ) → 1 ≤ length start → Fails (bad_starts start list) (Rising start list)
rising start list l =
    then (or_fails (or_fails (ne_fails _ _) (ne_fails _ _)) (some_fails (length start - 1) (λ v. lt_fails _ _)))
    (record {
      to = λ h. record { any = l; first = h.0.0; last = h.0.1; step = h.1 };
      from = λ h. ((h.first, h.last), h.step);
    })

pub no_stray : (a_id b_id : List ℕ) (v e : ℕ) → Fails (stray a_id b_id v e) (EndAt a_id b_id v e)
no_stray a_id b_id v e =
    then (or_fails (le_fails (length a_id) e) (ends (get_or a_id e 0) (get_or b_id e 0)))
    (record { to = λ h. record { below = h.0; end = h.1 }; from = λ h. (h.below, h.end) })
  where
    ends : (a b : ℕ) → Fails (not (eqb a v) && not (eqb b v)) ((a ≡ v) ⊎ (b ≡ v))
    ends a b = record {
      to = λ h. ⊎_elim (λ p. inl ((ne_fails a v).to p)) (λ p. inr ((ne_fails b v).to p)) (and_false _ _ h);
      from = λ h. no _ _ (⊎_elim (λ p. inl ((ne_fails a v).from p)) (λ p. inr ((ne_fails b v).from p)) h);
    }
      where
        no : (s t : Bool) → (s ≡ false) ⊎ (t ≡ false) → s && t ≡ false
        no true t (inl e) = absurd (true≢false refl e)
        no true t (inr e) = e
        no false t h = refl

-- ---- 6
pub together : (a b : ℕ → Point) (a_node : ℕ → ℕ) (v e f : ℕ) → Fails (apart a b a_node v e f) (end_at a b a_node v e ≡ end_at a b a_node v f)
together a b a_node v e f = record { to = same_point _ _; from = not_differ _ _ }

-- ---- 7
pub unlike_ways : (a b : ℕ → Point) (a_node : ℕ → ℕ) (state : List ℕ) (v e f : ℕ)
    → Fails (alike a b a_node state v e f) ((get_or state e 0 ≡ 1 → ⊥) → (get_or state f 0 ≡ 1 → ⊥)
    → same_direction (away a b a_node v e) (away a b a_node v f) ≡ false)
unlike_ways a b a_node state v e f = record {
  to = λ h p q. simp (ne_eqb _ 1 p, ne_eqb _ 1 q) at h;
  from = λ h. by (skipped state e) (skipped state f) (same_direction (away a b a_node v e) (away a b a_node v f))
      (λ p q. h (eqb-false _ 1 p) (eqb-false _ 1 q));
}
  where
    by : (s t d : Bool) → (s ≡ false → t ≡ false → d ≡ false) → not s && not t && d ≡ false
    by true t d h = refl
    by false true d h = refl
    by false false d h = h refl refl
