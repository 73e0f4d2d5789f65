-- What `nearest` names counts, and no edge that counts is nearer; and the search answers a contour of the table, or none.
use Prim.Native.Nat.{ℕ, zero, suc, ◌+◌, ◌-◌, ◌<◌, ◌≤◌}
use Rattle.std.specs.Prelude.{◌≡◌, Bool, ◌&&◌, ◌||◌, eqb, pos, ◌<ℤ◌}
use Rattle.std.proofs.Math.Path.{refl, subst}
use Rattle.std.proofs.Common.{sym, ◌∙◌, add-one, ne_eqb}
use Rattle.std.proofs.Math.Bool.{true, false}
use native.Mathlib.Omega.{arith}
use Rattle.std.proofs.Math.Decide.{dec_le}
use Rattle.laws.specs.Test.{pick, is_true, true_is, true≢false, not_true, and_true, pick_ind}
use Rattle.table.specs.Table.{Table, point_count, contour_count, contour_of}
use Rattle.table.specs.Passing.{located}
use Rattle.table.specs.Sound.{Sound}
use Rattle.anchor.specs.declared.Anchor.{Anchor}
use Rattle.edges.specs.declared.Edge.{Edge}
use Rattle.edges.specs.Edges.{run, spans, lies_under, nearer}
use Rattle.edges.specs.Nearer.{nearer_trans, nearer_same, nearer_neither, spans_runs}
use Rattle.candidates.specs.Candidates.{edge}
use Rattle.nearest.specs.Search.{kept, offered, keep, nearest, contour_under}

-- ---- the search
module _ (edge : ℕ → Edge) (gives : ℕ → Bool) (a : Anchor) where
  -- edge k counts: its contour gives edges, and it spans the anchor and lies under
  abbrev pub counts : ℕ → Bool
  counts k = gives (edge k).contour && (spans a.at.x (edge k) && lies_under a (edge k))

-- of the first n edges none counts
pub record NoneBelow (edge : ℕ → Edge) (gives : ℕ → Bool) (a : Anchor) (n : ℕ) : Type 0 where
  pub not : (k : ℕ) → k < n → counts edge gives a k ≡ false

-- edge b counts, and none that counts is nearer
pub record Nearest (edge : ℕ → Edge) (gives : ℕ → Bool) (a : Anchor) (n b : ℕ) : Type 0 where
  pub one : b < n
  pub counted : counts edge gives a b ≡ true
  pub least : (k : ℕ) → k < n → counts edge gives a k ≡ true → nearer a (edge k) (edge b) ≡ false

-- by the number and 1, or 0
abbrev pub Best : (ℕ → Edge) → (ℕ → Bool) → Anchor → ℕ → ℕ → Type 0
Best edge gives a n zero = NoneBelow edge gives a n
Best edge gives a n (suc b) = Nearest edge gives a n b

below_suc : (P : ℕ → Type 0) (i : ℕ) → ((k : ℕ) → k < i → P k) → P i → (k : ℕ) → k < suc i → P k
below_suc P i h p k l = go (dec_le (suc k) i)
  where
    go : Dec (k < i) → P k
    go (yes d) = h k d
    go (no d) = let e : k ≡ i = omega arith in rw e p

-- what is kept, by whether the edge counts and is nearer
pick_skip : (g s u w : Bool) (x b : ℕ) → g && (s && u) ≡ false → b ≡ pick g (pick s (pick (u && w) x b) b) b
pick_skip true true true w x b e = absurd (true≢false refl e)
pick_skip true true false w x b e = refl
pick_skip true false u w x b e = refl
pick_skip false s u w x b e = refl

pick_takes : (g s u w : Bool) (x b : ℕ) → g && (s && u) ≡ true → w ≡ true → x ≡ pick g (pick s (pick (u && w) x b) b) b
pick_takes true true true w x b e f = rw f
pick_takes true true false w x b e f = absurd (true≢false e refl)
pick_takes true false u w x b e f = absurd (true≢false e refl)
pick_takes false s u w x b e f = absurd (true≢false e refl)

pick_stays : (g s u w : Bool) (x b : ℕ) → w ≡ false → b ≡ pick g (pick s (pick (u && w) x b) b) b
pick_stays true true true w x b f = rw f
pick_stays true true false w x b f = refl
pick_stays true false u w x b f = refl
pick_stays false s u w x b f = refl

module _ (edge : ℕ → Edge) (gives : ℕ → Bool) (a : Anchor) where
  counts_runs : (k : ℕ) → counts edge gives a k ≡ true → pos 0 <ℤ run (edge k)
  counts_runs k e = spans_runs a.at.x (edge k) (and_true (spans a.at.x (edge k)) (lies_under a (edge k)) (and_true (gives (edge k).contour) _ e).1).0

  -- one edge more
  module _ (n : ℕ) where
    -- it does not count
    skip : counts edge gives a n ≡ false → (b : ℕ) → Best edge gives a n b → Best edge gives a (suc n) b
    skip c zero r = record { not = below_suc (λ k. counts edge gives a k ≡ false) n r.not c }
    skip c (suc b) r = record {
      one = omega (arith, r.one);
      counted = r.counted;
      least = below_suc (λ k. counts edge gives a k ≡ true → nearer a (edge k) (edge b) ≡ false) n r.least (λ t. absurd (true≢false t c));
    }

    -- the first that does
    first : counts edge gives a n ≡ true → NoneBelow edge gives a n → Nearest edge gives a (suc n) n
    first c r = record {
      one = omega arith;
      counted = c;
      least = below_suc (λ k. counts edge gives a k ≡ true → nearer a (edge k) (edge n) ≡ false) n (λ k l t. absurd (true≢false t (r.not k l)))
          (λ t. nearer_same a (edge n));
    }

    -- it is nearer
    takes_over : counts edge gives a n ≡ true → (b : ℕ) → nearer a (edge n) (edge b) ≡ true → Nearest edge gives a n b → Nearest edge gives a (suc n) n
    takes_over c b w r = record {
      one = omega arith;
      counted = c;
      least = below_suc (λ k. counts edge gives a k ≡ true → nearer a (edge k) (edge n) ≡ false) n (λ k m t. not_true _ (λ v. farther k m t v))
          (λ t. nearer_same a (edge n));
    }
      where
        farther : (k : ℕ) → k < n → counts edge gives a k ≡ true → nearer a (edge k) (edge n) ≡ true → ⊥
        farther k m t v =
            true≢false
            (is_true (record {
              is = nearer_trans a (edge k) (edge n) (edge b) (counts_runs k t) (counts_runs n c) (counts_runs b r.counted)
                  (true_is v).is (true_is w).is;
            }))
            (r.least k m t)

    -- it is not
    stays : (b : ℕ) → nearer a (edge n) (edge b) ≡ false → Nearest edge gives a n b → Nearest edge gives a (suc n) b
    stays b w r = record {
      one = omega (arith, r.one);
      counted = r.counted;
      least = below_suc (λ k. counts edge gives a k ≡ true → nearer a (edge k) (edge b) ≡ false) n r.least (λ t. w);
    }

    step : (b : ℕ) → Best edge gives a n b → Best edge gives a (suc n) (keep edge gives a n b)
    unfolding keep offered kept
    step b r = go (counts edge gives a n) refl b r
      where
        next : (b : ℕ) → counts edge gives a n ≡ true → (w : Bool) → nearer a (edge n) (edge b) ≡ w → Nearest edge gives a n b
            → Best edge gives a (suc n) (keep edge gives a n (suc b))
        next b c true e r =
            let q : suc b - 1 ≡ b = omega arith in
            subst (Best edge gives a (suc n))
            (sym (add-one n) ∙ pick_takes (gives (edge n).contour) (spans a.at.x (edge n)) (lies_under a (edge n)) _ (n + 1) (suc b) c
            (rw (ne_eqb (suc b) 0 (λ z. omega arith), q) e)) (takes_over c b e r)
        next b c false e r =
            let q : suc b - 1 ≡ b = omega arith in
            subst (Best edge gives a (suc n)) (pick_stays (gives (edge n).contour) (spans a.at.x (edge n)) (lies_under a (edge n)) _ (n + 1)
            (suc b) (rw (ne_eqb (suc b) 0 (λ z. omega arith), q) e)) (stays b e r)

        go : (c : Bool) → counts edge gives a n ≡ c → (b : ℕ) → Best edge gives a n b → Best edge gives a (suc n) (keep edge gives a n b)
        go false c b r =
            subst (Best edge gives a (suc n)) (pick_skip (gives (edge n).contour) (spans a.at.x (edge n)) (lies_under a (edge n)) _ (n + 1) b c)
            (skip c b r)
        go true c zero r =
            subst (Best edge gives a (suc n))
            (sym (add-one n) ∙ pick_takes (gives (edge n).contour) (spans a.at.x (edge n)) (lies_under a (edge n)) _ (n + 1) 0 c refl) (first c r)
        go true c (suc b) r = next b c (nearer a (edge n) (edge b)) refl r

  pub best : (n : ℕ) → Best edge gives a n (nearest edge gives a n)
  unfolding nearest
  best zero = record { not = λ k l. absurd (nothing k l) }
    where
      nothing : (k : ℕ) → k < 0 → ⊥
      nothing k l = omega arith
  best (suc n) = step n (nearest edge gives a n) (best n)

  -- ---- the contour that the search answers is that of every nearest edge
  one_contour : (n b c : ℕ) → Nearest edge gives a n b → Nearest edge gives a n c → (edge b).contour ≡ (edge c).contour
  one_contour n b c r s = nearer_neither a (edge b) (edge c) (s.least b r.one r.counted) (r.least c s.one s.counted)

  answers : (n b c : ℕ) → Best edge gives a n b → Nearest edge gives a n c → pick (eqb b 0) 0 ((edge (b - 1)).contour + 1) ≡ (edge c).contour + 1
  answers n zero c r s = absurd (true≢false s.counted (r.not c s.one))
  answers n (suc b) c r s = let q : suc b - 1 ≡ b = omega arith in rw (ne_eqb (suc b) 0 (λ z. omega arith), q, one_contour n b c r s)

  pub contour_under_lem : (n c : ℕ) → Nearest edge gives a n c → contour_under edge gives a n ≡ (edge c).contour + 1
  unfolding contour_under
  contour_under_lem n c s = answers n (nearest edge gives a n) c (best n) s

  none_answers : (n b : ℕ) → Best edge gives a n b → NoneBelow edge gives a n → pick (eqb b 0) 0 ((edge (b - 1)).contour + 1) ≡ 0
  none_answers n zero r s = refl
  none_answers n (suc b) r s = absurd (true≢false r.counted (s.not b r.one))

  pub none_under : (n : ℕ) → NoneBelow edge gives a n → contour_under edge gives a n ≡ 0
  unfolding contour_under
  none_under n s = none_answers n (nearest edge gives a n) (best n) s

-- ---- the nearest of k edges: its number and 1, or 0
pub nearest_le : (edge : ℕ → Edge) (gives : ℕ → Bool) (a : Anchor) (k : ℕ) → nearest edge gives a k ≤ k
unfolding nearest keep offered kept
nearest_le edge gives a zero = omega arith
nearest_le edge gives a (suc k) =
    let r = nearest_le edge gives a k in
    pick_ind (gives (edge k).contour) (offered edge a k (nearest edge gives a k)) (nearest edge gives a k) (λ (b : ℕ). b ≤ suc k)
    (λ _. pick_ind (spans a.at.x (edge k)) (kept edge a k (nearest edge gives a k)) (nearest edge gives a k) (λ (b : ℕ). b ≤ suc k)
    (λ _. pick_ind (lies_under a (edge k) && (eqb (nearest edge gives a k) 0 || nearer a (edge k) (edge (nearest edge gives a k - 1)))) (k + 1)
    (nearest edge gives a k) (λ (b : ℕ). b ≤ suc k)
    (λ _. omega arith) (λ _. omega arith)) (λ _. omega arith)) (λ _. omega arith)

-- ---- the search answers a contour of the table, and 1, or 0
pub under_few : (t : Table) → Sound t → (right : Bool) (gives : ℕ → Bool) (a : Anchor) → contour_under (edge t right) gives a (point_count t) ≤ contour_count t
unfolding contour_under edge
under_few t s right gives a = go (nearest (edge t right) gives a (point_count t)) (nearest_le (edge t right) gives a (point_count t))
  where
    go : (b : ℕ) → b ≤ point_count t → pick (eqb b 0) 0 (contour_of t (b - 1) + 1) ≤ contour_count t
    go zero l = omega arith
    go (suc b) l = let q : suc b - 1 ≡ b = omega arith in rw (ne_eqb (suc b) 0 (λ z. omega arith), q) (omega (arith, (located t s b l).below))
