-- Where a contour has no spike, the rule leaves the corners of the full contour and three points at least: a removal leaves every other bend as it was.
use Rattle.std.specs.Prelude.{ℕ, zero, suc, ◌+◌, ◌≤◌, ◌≡◌, refl, ◌⊎◌, Bool, true, false, List, [], ◌∷◌, length, ltb}
use Rattle.std.proofs.Common.{arith, sym, ap, ◌∙◌, subst, inl, inr, ⊎_elim, le-ltb}
use Rattle.laws.specs.Test.{pick, pick_false, not_true, true≢false}
use Rattle.turn.specs.declared.Point.{Point}
use Rattle.straight.specs.Straight.{on_line, head_or, last_or, without, remove_lowest, removal, removals, drop_straight}
use Rattle.straight.specs.Bends.{bend, level, back, spike, Ahead, next_gone, before_gone, triangle_spike}

-- ---- the corners: the points that do not lie on one line with their neighbours in the full contour
abbrev pub corners : Point → Point → List Point → List Point
corners prev home [] = []
corners prev home (p ∷ l) = pick (on_line prev p (head_or home l)) (corners p home l) (p ∷ corners p home l)

abbrev pub all_corners : List Point → List Point
all_corners [] = []
all_corners (p ∷ l) = corners (last_or p l) p (p ∷ l)

-- ---- no spike: at no point does the contour run back
abbrev pub Smooth : Point → Point → List Point → Type 0
Smooth prev home [] = Unit {0}
Smooth prev home (p ∷ l) = (spike prev p (head_or home l) ≡ false) × (Smooth p home l)

abbrev pub Spikeless : List Point → Type 0
Spikeless [] = Unit {0}
Spikeless (p ∷ l) = Smooth (last_or p l) p (p ∷ l)

-- ---- another point before some points, or after them, with which they bend alike
corners_after : (a b home : Point) (l : List Point) → ((y : Point) → bend a (head_or home l) y ≡ bend b (head_or home l) y) → corners a home l ≡ corners b
    home l
corners_after a b home [] h = refl
corners_after a b home (p ∷ l) h = ap (λ d. pick (level d) (corners p home l) (p ∷ corners p home l)) (h (head_or home l))

smooth_after : (a b home : Point) (l : List Point) → ((y : Point) → bend a (head_or home l) y ≡ bend b (head_or home l) y) → Smooth a home l → Smooth b home l
smooth_after a b home [] h s = tt
smooth_after a b home (p ∷ l) h s = (ap back (sym (h (head_or home l))) ∙ s.0, s.1)

corners_before : (prev home there : Point) (l : List Point) → ((y : Point) → bend y (last_or prev l) home ≡ bend y (last_or prev l) there)
    → corners prev home l ≡ corners prev there l
corners_before prev home there [] h = refl
corners_before prev home there (p ∷ []) h = ap (λ d. pick (level d) [] (p ∷ [])) (h prev)
corners_before prev home there (p ∷ (q ∷ l)) h =
    ap (λ (r : List Point). pick (on_line prev p q) r (p ∷ r)) (corners_before p home there (q ∷ l) h)

smooth_before : (prev home there : Point) (l : List Point) → ((y : Point) → bend y (last_or prev l) home ≡ bend y (last_or prev l) there)
    → Smooth prev home l → Smooth prev there l
smooth_before prev home there [] h s = tt
smooth_before prev home there (p ∷ []) h s = (ap back (sym (h prev)) ∙ s.0, tt)
smooth_before prev home there (p ∷ (q ∷ l)) h s = (s.0, smooth_before p home there (q ∷ l) h s.1)

-- ---- one point removed from a run between `prev` and `home`
-- the bend at the point before them stays
head_bend : (y prev home : Point) (l : List Point) → Smooth prev home l → bend y prev (head_or home (without prev home l)) ≡ bend y prev (head_or home l)
head_bend y prev home [] s = refl
head_bend y prev home (p ∷ l) s = by (on_line prev p (head_or home l)) refl
  where
    by : (b : Bool) → on_line prev p (head_or home l) ≡ b
        → bend y prev (head_or home (pick b l (p ∷ without p home l))) ≡ bend y prev p
    by true e = sym (next_gone prev p (head_or home l) (record { line = e; on = s.0 }) y)
    by false e = refl

-- and that at the point after them
last_bend : (y prev home : Point) (l : List Point) → Smooth prev home l → bend (last_or prev (without prev home l)) home y ≡ bend (last_or prev l) home y
last_bend y prev home [] s = refl
last_bend y prev home (p ∷ l) s = by (on_line prev p (head_or home l)) refl (last_bend y p home l s.1)
  where
    gone : (l : List Point) → Ahead prev p (head_or home l) → bend (last_or prev l) home y ≡ bend (last_or p l) home y
    gone [] h = sym (before_gone prev p home h y)
    gone (q ∷ l) h = refl

    by : (b : Bool) → on_line prev p (head_or home l) ≡ b → bend (last_or p (without p home l)) home y ≡ bend (last_or p l) home y
        → bend (last_or prev (pick b l (p ∷ without p home l))) home y ≡ bend (last_or p l) home y
    by true e r = gone l (record { line = e; on = s.0 })
    by false e r = r

corners_without : (prev home : Point) (l : List Point) → Smooth prev home l → corners prev home (without prev home l) ≡ corners prev home l
corners_without prev home [] s = refl
corners_without prev home (p ∷ l) s = by (on_line prev p (head_or home l)) refl (corners_without p home l s.1)
  where
    by : (b : Bool) → on_line prev p (head_or home l) ≡ b → corners p home (without p home l) ≡ corners p home l
        → corners prev home (pick b l (p ∷ without p home l)) ≡ pick b (corners p home l) (p ∷ corners p home l)
    by true e r = sym (corners_after p prev home l (before_gone prev p (head_or home l) (record { line = e; on = s.0 })))
    by false e r =
        let k : on_line prev p (head_or home (without p home l)) ≡ false = ap level (head_bend prev p home l s.1) ∙ e in
        rw k (ap (λ (q : List Point). p ∷ q) r)

smooth_without : (prev home : Point) (l : List Point) → Smooth prev home l → Smooth prev home (without prev home l)
smooth_without prev home [] s = tt
smooth_without prev home (p ∷ l) s = by (on_line prev p (head_or home l)) refl (smooth_without p home l s.1)
  where
    by : (b : Bool) → on_line prev p (head_or home l) ≡ b → Smooth p home (without p home l) → Smooth prev home (pick b l (p ∷ without p home l))
    by true e r = smooth_after p prev home l (before_gone prev p (head_or home l) (record { line = e; on = s.0 })) s.1
    by false e r = (ap back (head_bend prev p home l s.1) ∙ s.0, r)

-- either every point is a corner and all stay, or one is gone
abbrev Fewer : List Point → List Point → List Point → Type 0
Fewer l after cs = ((after ≡ l) × (cs ≡ l)) ⊎ (suc (length after) ≡ length l)

fewer : (prev home : Point) (l : List Point) → Fewer l (without prev home l) (corners prev home l)
fewer prev home [] = inl (refl, refl)
fewer prev home (p ∷ l) = by (on_line prev p (head_or home l)) (fewer p home l)
  where
    by : (b : Bool) → Fewer l (without p home l) (corners p home l)
        → Fewer (p ∷ l) (pick b l (p ∷ without p home l)) (pick b (corners p home l) (p ∷ corners p home l))
    by true f = inr refl
    by false (inl f) = inl (ap (λ (r : List Point). p ∷ r) f.0, ap (λ (r : List Point). p ∷ r) f.1)
    by false (inr f) = inr (ap suc f)

-- ---- one point removed from a contour
abbrev Stays : List Point → List Point → List Point → Type 0
Stays after corners_after corners_before = (Spikeless after) × (corners_after ≡ corners_before)

-- the first: the contour begins with the next one
first_gone : (h : Point) (l : List Point) → Ahead (last_or h l) h (head_or h l) → Smooth h h l → Stays l (all_corners l) (corners h h l)
first_gone h [] a s = (tt, refl)
first_gone h (q ∷ l) a s =
    let z : Point = last_or q l in (
      smooth_before z h q (q ∷ l) (next_gone z h q a) (smooth_after h z h (q ∷ l) (before_gone z h q a) s),
      sym (corners_before z h q (q ∷ l) (next_gone z h q a)) ∙ sym (corners_after h z h (q ∷ l) (before_gone z h q a)),
    )

removed : (h : Point) (l : List Point) → Spikeless (h ∷ l) → Stays (remove_lowest (h ∷ l)) (all_corners (remove_lowest (h ∷ l))) (all_corners (h ∷ l))
removed h l s = by (on_line (last_or h l) h (head_or h l)) refl
  where
    by : (b : Bool) → on_line (last_or h l) h (head_or h l) ≡ b
        → Stays (pick b l (h ∷ without h h l)) (all_corners (pick b l (h ∷ without h h l))) (pick b (corners h h l) (h ∷ corners h h l))
    by true e = first_gone h l (record { line = e; on = s.0 }) s.1
    by false e =
        let w : List Point = without h h l in
        let d : bend (last_or h w) h (head_or h w) ≡ bend (last_or h l) h (head_or h l) =
        last_bend (head_or h w) h h l s.1 ∙ head_bend (last_or h l) h h l s.1 in
        let k : on_line (last_or h w) h (head_or h w) ≡ false = ap level d ∙ e in
        ((ap back d ∙ s.0, smooth_without h h l s.1), rw k (ap (λ (r : List Point). h ∷ r) (corners_without h h l s.1)))

-- ---- three points round, none of them a spike, are all corners
no_triangle : (a b c : Point) → spike a b c ≡ false → spike b c a ≡ false → on_line a b c ≡ false
no_triangle a b c h k = not_true (on_line a b c) (λ e. true≢false (triangle_spike a b c (record { line = e; on = h })) k)

three_stay : (a b c : Point) → Spikeless (a ∷ b ∷ c ∷ []) → remove_lowest (a ∷ b ∷ c ∷ []) ≡ a ∷ b ∷ c ∷ []
three_stay a b c s =
    rw (no_triangle c a b s.0 s.1.0, no_triangle a b c s.1.0 s.1.1.0, no_triangle b c a s.1.1.0 s.0)

-- so of three points or more none goes below three
three_left : (l : List Point) → Spikeless l → 3 ≤ length l → suc (length (remove_lowest l)) ≡ length l → 3 ≤ length (remove_lowest l)
three_left [] s h e = omega arith
three_left (a ∷ []) s h e = omega arith
three_left (a ∷ (b ∷ [])) s h e = omega arith
three_left (a ∷ (b ∷ (c ∷ []))) s h e = rw (three_stay a b c s) (omega arith)
three_left (a ∷ (b ∷ (c ∷ (d ∷ l)))) s h e = omega arith

-- ---- the rule
corners_short : (prev home : Point) (l : List Point) → length (corners prev home l) ≤ length l
corners_short prev home [] = omega arith
corners_short prev home (p ∷ l) = by (on_line prev p (head_or home l)) (corners_short p home l)
  where
    by : (b : Bool) → length (corners p home l) ≤ length l → length (pick b (corners p home l) (p ∷ corners p home l)) ≤ suc (length l)
    by true h = omega arith
    by false h = omega arith

pub corners_few : (l : List Point) → length (all_corners l) ≤ length l
corners_few [] = omega arith
corners_few (p ∷ l) = corners_short (last_or p l) p (p ∷ l)

corners_full : (prev home : Point) (l : List Point) → length l ≤ length (corners prev home l) → corners prev home l ≡ l
corners_full prev home [] h = refl
corners_full prev home (p ∷ l) h = by (on_line prev p (head_or home l)) h (corners_short p home l) (corners_full p home l)
  where
    by : (b : Bool) → suc (length l) ≤ length (pick b (corners p home l) (p ∷ corners p home l)) → length (corners p home l) ≤ length l
        → (length l ≤ length (corners p home l) → corners p home l ≡ l)
        → pick b (corners p home l) (p ∷ corners p home l) ≡ p ∷ l
    by true h k r = absurd (none h k)
      where
        none : suc (length l) ≤ length (corners p home l) → length (corners p home l) ≤ length l → ⊥
        none h k = omega arith
    by false h k r = ap (λ (q : List Point). p ∷ q) (r (omega arith))

abbrev Ends : List Point → List Point → Type 0
Ends l after = (after ≡ all_corners l) × (3 ≤ length (all_corners l))

settled : (l : List Point) → 3 ≤ length l → length l ≤ length (all_corners l) → Ends l l
settled [] h k = absurd (none h)
  where
    none : 3 ≤ 0 → ⊥
    none h = omega arith
settled (p ∷ l) h k = (sym (corners_full (last_or p l) p (p ∷ l) k), omega (arith, h, k))

one_more : (n : ℕ) (p : Point) (l : List Point) → Spikeless (p ∷ l) → 3 ≤ length (p ∷ l)
    → length (p ∷ l) ≤ suc n + length (all_corners (p ∷ l))
    → ((k : List Point) → Spikeless k → 3 ≤ length k → length k ≤ n + length (all_corners k) → Ends k (removals n k))
    → Fewer (p ∷ l) (remove_lowest (p ∷ l)) (all_corners (p ∷ l)) → Ends (p ∷ l) (removals n (remove_lowest (p ∷ l)))
one_more n p l s h k r (inl f) =
    subst (λ (q : List Point). Ends (p ∷ l) (removals n q)) (sym f.0) (r (p ∷ l) s h (rw f.1 (omega arith)))
one_more n p l s h k r (inr f) =
    let q = removed p l s in
    let e = r (remove_lowest (p ∷ l)) q.0 (three_left (p ∷ l) s h f) (rw q.1 (omega (arith, f, k))) in
    (e.0 ∙ q.1, rw (sym q.1) e.1)

ends : (n : ℕ) (l : List Point) → Spikeless l → 3 ≤ length l → length l ≤ n + length (all_corners l) → Ends l (removals n l)
ends zero l s h k = settled l h (omega (arith, k))
ends (suc n) [] s h k = absurd (none h)
  where
    none : 3 ≤ 0 → ⊥
    none h = omega arith
ends (suc n) (p ∷ l) s h k =
    subst (λ (q : List Point). Ends (p ∷ l) (removals n q)) (sym (pick_false (p ∷ l) (remove_lowest (p ∷ l)) (le-ltb (length (p ∷ l)) 3 h)))
    (one_more n p l s h k (ends n) (fewer (last_or p l) p (p ∷ l)))

-- what is dropped are the points that are straight in the full contour, and three corners are left
pub corners_left : (l : List Point) → Spikeless l → 3 ≤ length l → (drop_straight l ≡ all_corners l) × (3 ≤ length (all_corners l))
unfolding drop_straight
corners_left l s h = ends (length l) l s h (omega arith)

-- ---- as many removals as there are points are enough: more change nothing, for any points
shorter : (l : List Point) → (removal l ≡ l) ⊎ (suc (length (removal l)) ≡ length l)
shorter [] = inl refl
shorter (p ∷ l) = by (ltb (length (p ∷ l)) 3) (fewer (last_or p l) p (p ∷ l))
  where
    by : (b : Bool) → Fewer (p ∷ l) (remove_lowest (p ∷ l)) (all_corners (p ∷ l))
        → (pick b (p ∷ l) (remove_lowest (p ∷ l)) ≡ p ∷ l) ⊎ (suc (length (pick b (p ∷ l) (remove_lowest (p ∷ l)))) ≡ length (p ∷ l))
    by true f = inl refl
    by false (inl f) = inl f.0
    by false (inr f) = inr f

still : (n : ℕ) (l : List Point) → removal l ≡ l → removals n l ≡ l
still zero l e = refl
still (suc n) l e = ap (removals n) e ∙ still n l e

empty : (l : List Point) → length l ≤ 0 → removal l ≡ l
empty [] h = refl
empty (p ∷ l) h = absurd (none h)
  where
    none : suc (length l) ≤ 0 → ⊥
    none h = omega arith

same : (n m : ℕ) (l : List Point) → length l ≤ n → length l ≤ m → removals n l ≡ removals m l
same zero m l h k = sym (still m l (empty l h))
same (suc n) zero l h k = still (suc n) l (empty l k)
same (suc n) (suc m) l h k = ⊎_elim
    (λ (e : removal l ≡ l). still (suc n) l e ∙ sym (still (suc m) l e))
    (λ (e : suc (length (removal l)) ≡ length l). same n m (removal l) (omega (arith, e, h)) (omega (arith, e, k)))
    (shorter l)

pub enough : (n : ℕ) (l : List Point) → length l ≤ n → removals n l ≡ drop_straight l
unfolding drop_straight
enough n l h = same n (length l) l h (omega arith)
