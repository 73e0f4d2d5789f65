-- The climb at a `Cross` (`topmost`): what the loop keeps, and one law for each thing that a turn needs.
use Rattle.std.specs.Prelude.{Option, Some}
use Prim.Native.Nat.{ℕ, ◌*◌, ◌%◌, ◌≤◌, ◌<◌}
use native.Mathlib.Omega.{arith}
use mathlib.Core.Path.{◌≡◌, refl, sym, ap, ◌∙◌, subst}
use mathlib.Core.Bool.{true, false}
use mathlib.Core.List.{List}
use lib.ListN.{length, get_or}
use borrow.Author.Tests.{le-leb, lt-leb}
use Rattle.laws.specs.Test.{pick, pick_ind}
use Rattle.graph.specs.Graph.{Graph}
use Rattle.next.specs.Next.{is_unvisited}
use Rattle.next.specs.States.{read_unvisited, read_shut}
use Rattle.rings.specs.Ends.{a_end, link_of, link_below}
use Rattle.rings.specs.Climb.{Above, to_top, at_top, climb_below, climbed, higher}
use Rattle.rings.specs.Field.{cross_mark, wrap_mark, next_of, wraps_at}
use Rattle.topmost.specs.Ring.{Rises}

-- ---- link x if it is unvisited, else s, by the code's read
module _ (st : List ℕ) (x s : ℕ) (l : x < length st) where
  pub or_hit : get_or st x 0 ≡ 0 → x ≡ pick (is_unvisited st x) x s
  or_hit e = rw (read_unvisited st x l e)

  pub or_miss : (get_or st x 0 ≡ 0 → ⊥) → s ≡ pick (is_unvisited st x) x s
  or_miss n = rw (read_shut st x l n)

-- ---- the loop, at end `at`, with s the last unvisited link met and f what `nxt` holds at `at`
pub record Climbing (nxt st : List ℕ) (k at s f : ℕ) : Type 0 where
  pub on : (g : Graph) (v : ℕ) (answer : Option ℕ)
      → Above g v (next_of nxt) (wraps_at nxt) (length st) st answer (a_end k) k
      → Above g v (next_of nxt) (wraps_at nxt) (length st) st answer at s
  pub unvisited : is_unvisited st s ≡ true
  pub read : f ≡ get_or nxt at 0

-- the measure
abbrev pub left : List ℕ → List ℕ → ℕ → ℕ
left nxt st at = to_top (next_of nxt) (wraps_at nxt) (length st) at

module _ (nxt st : List ℕ) (k : ℕ) (r : Rises nxt st k) where
  pub first_end : a_end k < 2 * length st
  first_end = r.above.here

  -- the first read of `nxt`
  pub first_read : a_end k < length nxt
  first_read = omega (arith, first_end, r.nxt_long)

  pub climb_starts : is_unvisited st k ≡ true → Climbing nxt st k (a_end k) k (get_or nxt (a_end k) 0)
  climb_starts o = record { on = λ g v answer a. a; unvisited = o; read = refl }

  module _ {at s f : ℕ} (c : Climbing nxt st k at s f) where
    here : Above r.graph r.node (next_of nxt) (wraps_at nxt) (length st) st r.answer at s
    here = c.on r.graph r.node r.answer r.above

    -- before the ring's last, a step to end `to`
    module _ (w : f < wrap_mark) (to : ℕ) (e : to ≡ f % cross_mark) where
      more : wraps_at nxt at ≡ false
      more = lt-leb wrap_mark (get_or nxt at 0) (subst (λ x. x < wrap_mark) c.read w)

      step : to ≡ next_of nxt at
      step = e ∙ ap (λ x. x % cross_mark) c.read

      pub to_below : to < 2 * length st
      to_below = climb_below r.graph r.node (next_of nxt) (wraps_at nxt) here more step

      pub to_link : link_of to < length st
      to_link = link_below to (length st) to_below

      pub to_read : to < length nxt
      to_read = omega (arith, to_below, r.nxt_long)

      pub climb_less : left nxt st to < left nxt st at
      climb_less = higher r.graph r.node (next_of nxt) (wraps_at nxt) here more step

      pub climb_on : (s' : ℕ) → s' ≡ pick (is_unvisited st (link_of to)) (link_of to) s
          → Climbing nxt st k to s' (get_or nxt to 0)
      climb_on s' q = record {
        on = λ g v answer a.
            subst (Above g v (next_of nxt) (wraps_at nxt) (length st) st answer to) (sym q)
            (climbed g v (next_of nxt) (wraps_at nxt) (c.on g v answer a) more step);
        unvisited = subst (λ x. is_unvisited st x ≡ true) (sym q)
            (pick_ind (is_unvisited st (link_of to)) (link_of to) s (λ x. is_unvisited st x ≡ true) (λ o. o) (λ _. c.unvisited));
        read = refl;
      }

    -- at the ring's last
    pub climb_ends : wrap_mark ≤ f → (g : Graph) (v : ℕ) (answer : Option ℕ)
        → Above g v (next_of nxt) (wraps_at nxt) (length st) st answer (a_end k) k → Some s ≡ answer
    climb_ends w g v answer a =
        at_top g v (next_of nxt) (wraps_at nxt) (c.on g v answer a)
        (le-leb wrap_mark (get_or nxt at 0) (subst (λ x. wrap_mark ≤ x) c.read w))
