-- Rule 1 by a loop over the linked ring: from the scan's link onward
-- to the ring's end, keeping the last unvisited link met.
use Rattle.std.specs.Prelude.{ℕ, zero, suc, ◌*◌, ◌≤◌, ◌<◌, ◌≡◌, refl, Bool, true, false, length, Option, Some}
use Rattle.std.proofs.Common.{not-suc-le-zero, le_of_suc-le-suc, arith, sym, ap, ◌∙◌, subst}
use mathlib.Core.List.Memᴰ
use mathlib.Core.List.{List, [], ◌∷◌, ◌++◌, reverse_aux}
use Rattle.laws.specs.Test.{pick, pick_true, pick_false, true≢false}
use Rattle.graph.specs.Graph.{Graph}
use Rattle.next.specs.Next.{is_unvisited}
use Rattle.next.specs.Choice.{Mem}
use Rattle.rings.specs.Ends.{link_of, end_of, end_link, end_below}
use Rattle.rings.specs.Rotation.{after, ahead, split, first_unvisited}
use Rattle.rings.specs.Linked.{Along, AllRound, along_part, Leads}

-- c, or the last unvisited link of a list
abbrev pub last_or : List ℕ → ℕ → List ℕ → ℕ
last_or st c [] = c
last_or st c (x ∷ l) = last_or st (pick (is_unvisited st x) x c) l

-- a test passes at the last of a list alone
abbrev pub LastAlone : (ℕ → Bool) → ℕ → List ℕ → Type 0
LastAlone test p [] = test p ≡ true
LastAlone test p (x ∷ l) = (test p ≡ false) × LastAlone test x l

abbrev pub AtLast : (ℕ → Bool) → List ℕ → Type 0
AtLast test [] = Unit
AtLast test (x ∷ l) = LastAlone test x l

-- how many ends lie between an end and the ring's last, looked for over n steps: it falls with each step
abbrev pub to_top : (ℕ → ℕ) → (ℕ → Bool) → ℕ → ℕ → ℕ
to_top step wraps zero at = 0
to_top step wraps (suc n) at = pick (wraps at) 0 (suc (to_top step wraps n (step at)))

-- ---- the last unvisited link of a list with an unvisited k in it is found from k on
pub last_aux : (st : List ℕ) (c : ℕ) (t r : List ℕ) → first_unvisited st r ≡ Some c
    → first_unvisited st (reverse_aux t r) ≡ Some (last_or st c t)
last_aux st c [] r e = e
last_aux st c (x ∷ t) r e = last_aux st (pick (is_unvisited st x) x c) t (x ∷ r) (by (is_unvisited st x))
  where
    by : (b : Bool) → pick b (Some x) (first_unvisited st r) ≡ Some (pick b x c)
    by true = refl
    by false = e

-- ---- what the loop knows
module _ (g : Graph) (v : ℕ) (step : ℕ → ℕ) (wraps : ℕ → Bool) where
  -- from end `at` the steps lead along the ends of `rest`, the last of which, alone, wraps round
  abbrev Climbs : ℕ → List ℕ → Type 0
  Climbs at [] = wraps at ≡ true
  Climbs at (x ∷ rest) = (wraps at ≡ false) × (step at ≡ end_of g v x) × Climbs (end_of g v x) rest

  -- at end `at`, of n links, with s the last unvisited link met: `rest` is what is left up to the ring's end
  pub record Above (n : ℕ) (st : List ℕ) (answer : Option ℕ) (at s : ℕ) : Type 0 where
    pub here : at < 2 * n
    pub rest : List ℕ
    pub climbs : Climbs at rest
    pub below : (x : ℕ) → Mem x rest → x < n
    pub short : length rest ≤ n
    pub is : Some (last_or st s rest) ≡ answer

  -- ---- the measure is the length of what is left
  to_top_lem : (n at : ℕ) (rest : List ℕ) → Climbs at rest → length rest ≤ n → to_top step wraps n at ≡ length rest
  to_top_lem zero at [] c z = refl
  to_top_lem zero at (x ∷ rest) c z = absurd (not-suc-le-zero z)
  to_top_lem (suc n) at [] c z = pick_true 0 (suc (to_top step wraps n (step at))) c
  to_top_lem (suc n) at (x ∷ rest) c z =
      pick_false 0 (suc (to_top step wraps n (step at))) c.0 ∙ ap (λ (h : ℕ). suc (to_top step wraps n h)) c.1
      ∙ ap suc (to_top_lem n (end_of g v x) rest c.2 (le_of_suc-le-suc z))

  -- ---- at the ring's end
  pub at_top : {n : ℕ} {st : List ℕ} {answer : Option ℕ} {at s : ℕ} → Above n st answer at s → wraps at ≡ true
      → Some s ≡ answer
  at_top {st = st} {answer} {at} {s} k w = by k.rest k.climbs k.is
    where
      by : (rest : List ℕ) → Climbs at rest → Some (last_or st s rest) ≡ answer → Some s ≡ answer
      by [] c i = i
      by (x ∷ rest) c i = absurd (true≢false w c.0)

  -- ---- before it, a step, to end `to`
  module _ {n : ℕ} {st : List ℕ} {answer : Option ℕ} {at s to : ℕ} (k : Above n st answer at s) (w : wraps at ≡ false)
      (e : to ≡ step at) where
    -- it is an end of the n links
    pub climb_below : to < 2 * n
    climb_below = by k.rest k.climbs k.below
      where
        by : (rest : List ℕ) → Climbs at rest → ((x : ℕ) → Mem x rest → x < n) → to < 2 * n
        by [] c b = absurd (true≢false c w)
        by (x ∷ rest) c b = subst (λ h. h < 2 * n) (sym (e ∙ c.1)) (end_below g v x n (b x (Memᴰ.head refl)))

    -- its link, if it is unvisited, is the last met
    pub climbed : Above n st answer to (pick (is_unvisited st (link_of to)) (link_of to) s)
    climbed = by k.rest k.climbs k.below k.short k.is
      where
        by : (rest : List ℕ) → Climbs at rest → ((x : ℕ) → Mem x rest → x < n) → length rest ≤ n
            → Some (last_or st s rest) ≡ answer
            → Above n st answer to (pick (is_unvisited st (link_of to)) (link_of to) s)
        by [] c b z i = absurd (true≢false c w)
        by (x ∷ rest) c b z i =
            let l : link_of to ≡ x = ap link_of (e ∙ c.1) ∙ end_link g v x in
            record {
              here = climb_below;
              rest = rest;
              climbs = subst (λ h. Climbs h rest) (sym (e ∙ c.1)) c.2;
              below = λ y m. b y (Memᴰ.tail m);
              short = omega arith;
              is = ap (λ (y : ℕ). Some (last_or st (pick (is_unvisited st y) y s) rest)) l ∙ i;
            }

    pub higher : to_top step wraps n to < to_top step wraps n at
    higher = by k.rest k.climbs k.short
      where
        by : (rest : List ℕ) → Climbs at rest → length rest ≤ n → to_top step wraps n to < to_top step wraps n at
        by [] c z = absurd (true≢false c w)
        by (x ∷ rest) c z =
            let a = to_top_lem n at (x ∷ rest) c z in
            let b = to_top_lem n to rest (subst (λ h. Climbs h rest) (sym (e ∙ c.1)) c.2) (omega arith) in
            omega arith

  -- ---- the start: at the end of a link k of the ring
  climbs_from : (h p : ℕ) (t : List ℕ) → Along (Leads g v step) h p t → LastAlone (λ x. wraps (end_of g v x)) p t
      → Climbs (end_of g v p) t
  climbs_from h p [] a w = w
  climbs_from h p (x ∷ t) a w = (w.0, a.0, climbs_from h x t a.1 w.1)

  alone_from : (test : ℕ → Bool) (s : List ℕ) (k : ℕ) (t : List ℕ) → AtLast test (s ++ (k ∷ t)) → LastAlone test k t
  alone_from test [] k t w = w
  alone_from test (x ∷ s) k t w = later x s w
    where
      later : (p : ℕ) (s : List ℕ) → LastAlone test p (s ++ (k ∷ t)) → LastAlone test k t
      later p [] w = w.1
      later p (y ∷ s) w = later y s w.1

  pub climb_start : (l : List ℕ) → AllRound (Leads g v step) l → AtLast (λ x. wraps (end_of g v x)) l → (k : ℕ) → Mem k l
      → Climbs (end_of g v k) (after k l)
  climb_start l a w k m = by (ahead k l) (subst (AllRound (Leads g v step)) (split k l m) a)
      (alone_from (λ x. wraps (end_of g v x)) (ahead k l) k (after k l)
      (subst (AtLast (λ x. wraps (end_of g v x))) (split k l m) w))
    where
      by : (s : List ℕ) → AllRound (Leads g v step) (s ++ (k ∷ after k l))
          → LastAlone (λ x. wraps (end_of g v x)) k (after k l)
          → Climbs (end_of g v k) (after k l)
      by [] a w = climbs_from k k (after k l) a w
      by (x ∷ s) a w = climbs_from x k (after k l) (along_part (Leads g v step) x x k s (after k l) a).1 w
