-- The search for an end's place, from the ring's last end backward: what is known before each look, and what each look tells.
use Prim.Native.Nat.{ℕ, ◌*◌, ◌-◌, ◌≤◌, ◌<◌}
use native.Mathlib.Omega.{arith}
use native.Mathlib.Decide.{dec_le}
use mathlib.Core.Path.{◌≡◌, sym, ap, ◌∙◌, subst}
use mathlib.Core.List.{List}
use lib.ListN.{length, get_or}
use Rattle.turn.specs.declared.Point.{Point}
use Rattle.hoop.specs.declared.Hoop.{Hoop}
use Rattle.hoop.specs.Hoops.{Before, Parallel, Backed, Sought, BeforeFrom, GoesAfter, RunsAlike}

-- the search stands at end `at`, the last of the first i; q stands before all that follow
pub record Reached (a b : ℕ → Point) (home : Point) (e : ℕ → ℕ) (l : List ℕ) (q at i : ℕ) : Type 0 where
  pub within : i ≤ length l
  pub at_is : 0 < i → at ≡ e (get_or l (i - 1) 0)
  pub rest : BeforeFrom a b home e l q i

-- in any list that the hoop keeps
abbrev pub Searching : (ℕ → Point) → (ℕ → Point) → Point → List ℕ → ℕ → ℕ → ℕ → ℕ → ℕ → Type 0
Searching a b home prv q tail count at i =
    (e : ℕ → ℕ) (l : List ℕ) → Backed e l prv tail count → Reached a b home e l q at i

module _ {a b : ℕ → Point} {home : Point} {prv : List ℕ} {q tail count : ℕ} where
  pub search_start : Searching a b home prv q tail count tail count
  search_start e l h = record {
    within = omega (arith, h.counted);
    at_is = h.tailed;
    rest = λ j i k. absurd (none j i k h.counted);
  }
    where
      none : (j : ℕ) → count ≤ j → j < length l → count ≡ length l → ⊥
      none j i k c = omega arith

  module _ {at i : ℕ} (s : Searching a b home prv q tail count at i) where
    -- past all of them
    pub search_end : i ≤ 0 → (e : ℕ → ℕ) (l : List ℕ) → Backed e l prv tail count → BeforeFrom a b home e l q 0
    search_end z e l h j k m = (s e l h).rest j (omega arith) m

    module _ (more : 0 < i) where
      -- the place that is looked at
      place : (e : ℕ → ℕ) (l : List ℕ) → Backed e l prv tail count → i - 1 < length l
      place e l h = omega (arith, (s e l h).within)

      pub search_after : Before a b home at q → (e : ℕ → ℕ) (l : List ℕ) → Backed e l prv tail count → GoesAfter a b home e l q at
      search_after t e l h = record {
        place = i - 1;
        within = place e l h;
        here = (s e l h).at_is more;
        first = t;
        rest = λ j k m. (s e l h).rest j (omega arith) m;
      }

      pub search_alike : Parallel a b home at q → (e : ℕ → ℕ) (l : List ℕ) → Backed e l prv tail count → RunsAlike a b home e l q
      search_alike t e l h = record {
        place = i - 1;
        within = place e l h;
        parallel = subst (λ x. Parallel a b home x q) ((s e l h).at_is more) t;
        rest = λ j k m. (s e l h).rest j (omega arith) m;
      }

      pub search_on : Before a b home q at → (to : ℕ) → to ≡ get_or prv at 0 → Searching a b home prv q tail count to (i - 1)
      search_on t to z e l h = record {
        within = omega (arith, place e l h);
        at_is = λ k. z ∙ ap (λ x. get_or prv x 0) ((s e l h).at_is more)
            ∙ subst (λ x. get_or prv (e (get_or l x 0)) 0 ≡ e (get_or l (i - 1 - 1) 0)) (omega arith) (h.back (i - 1 - 1) (omega (arith, place e l h)));
        rest = λ j k m. by j (dec_le i j) k m;
      }
        where
          by : (j : ℕ) → Dec (i ≤ j) → i - 1 ≤ j → j < length l → Before a b home q (e (get_or l j 0))
          by j (yes d) k m = (s e l h).rest j d m
          by j (no d) k m =
              let c : i - 1 ≡ j = omega arith in
              subst (λ x. Before a b home q x) ((s e l h).at_is more ∙ ap (λ x. e (get_or l x 0)) c) t

      -- the end looked at is one of n links
      pub search_below : (n : ℕ) (hoop : Hoop) → hoop.tail ≡ tail → hoop.count ≡ count → Sought n prv hoop → at < 2 * n
      search_below n hoop p r w =
          let d : Backed w.ends w.links prv tail count = subst (λ x. Backed w.ends w.links prv x count) p
          (subst (λ x. Backed w.ends w.links prv hoop.tail x) r w.backed) in
          subst (λ x. x < 2 * n) (sym ((s w.ends w.links d).at_is more)) (w.below (i - 1) (place w.ends w.links d))
