-- The descent at a `Cross` (`next_below`): what the loop keeps, and one law for each thing that a turn needs.
use Rattle.std.specs.Prelude.{Option, Some}
use Prim.Native.Nat.{ℕ, ◌*◌, ◌<◌}
use native.Mathlib.Omega.{arith}
use mathlib.Core.Path.{◌≡◌, sym, ap, ◌∙◌}
use mathlib.Core.Bool.{true, false}
use mathlib.Core.List.{List}
use lib.ListN.{length}
use Rattle.laws.specs.Test.{true≢false}
use Rattle.graph.specs.Graph.{Graph}
use Rattle.next.specs.Next.{is_unvisited}
use Rattle.rings.specs.Ends.{a_end, link_of, a_link, end_link, link_below}
use Rattle.rings.specs.Follow.{next_end, to_go, step_below, came_back, found, passed, nearer}
use Rattle.rings.specs.RingLoop.{some_next}
use Rattle.rings.specs.Field.{prev_of}
use Rattle.topmost.specs.Ring.{LeftAt, Falls}

-- at end `at`: the end before, from which a step led there, and what was left of the ring at that one
pub record Falling (prv st : List ℕ) (held at : ℕ) : Type 0 where
  pub prior : ℕ
  pub is : at ≡ prev_of prv prior
  pub on : (g : Graph) (v : ℕ) (answer : Option ℕ) → LeftAt g v prv st held answer (a_end held) → LeftAt g v prv st held answer prior

-- the measure
abbrev pub to_go_down : List ℕ → List ℕ → ℕ → ℕ → ℕ
to_go_down prv st held at = to_go (prev_of prv) (a_end held) (length st) at

module _ (prv st : List ℕ) (held : ℕ) (r : Falls prv st held) where
  pub held_end : a_end held < 2 * length st
  held_end = r.left.here

  pub held_read : a_end held < length prv
  held_read = omega (arith, held_end, r.prv_long)

  pub fall_starts : (at : ℕ) → at ≡ prev_of prv (a_end held) → Falling prv st held at
  fall_starts at e = record { prior = a_end held; is = e; on = λ g v answer l. l }

  module _ (at : ℕ) (c : Falling prv st held at) where
    here : LeftAt r.graph r.node prv st held (Some r.link) c.prior
    here = c.on r.graph r.node (Some r.link) r.left

    pub at_below : at < 2 * length st
    at_below = step_below r.graph r.node (a_end held) (prev_of prv) here c.is

    pub at_link : link_of at < length st
    at_link = link_below at (length st) at_below

    pub at_read : at < length prv
    at_read = omega (arith, at_below, r.prv_long)

    -- it is not back at held: an unvisited link is met before
    pub away : at ≡ a_end held → ⊥
    away q =
        let e = came_back r.graph r.node (a_end held) (prev_of prv) here c.is q in
        let l : r.link ≡ held = sym (end_link r.graph r.node r.link) ∙ ap link_of (sym e) ∙ a_link held in
        true≢false r.fresh (ap (is_unvisited st) l ∙ r.visited)

    -- at the end of an unvisited link: that is the one
    pub fall_ends : is_unvisited st (link_of at) ≡ true → (g : Graph) (v : ℕ) (answer : Option ℕ)
        → LeftAt g v prv st held answer (a_end held) → Some (link_of at) ≡ answer
    fall_ends o g v answer l =
        let f : at ≡ next_end g v (a_end held) answer = found g v (a_end held) (prev_of prv) (c.on g v answer l) c.is away o in
        ap (λ (x : ℕ). Some (link_of x)) f ∙ sym (some_next g v (a_end held) answer (λ q. away (f ∙ q)))

    -- at the end of a visited one: the loop goes on
    pub fall_on : is_unvisited st (link_of at) ≡ false → (to : ℕ) → to ≡ prev_of prv at → Falling prv st held to
    fall_on o to e = record {
      prior = at;
      is = e;
      on = λ g v answer l. passed g v (a_end held) (prev_of prv) (c.on g v answer l) c.is away o;
    }

  pub fall_less : (at : ℕ) (c : Falling prv st held at) → is_unvisited st (link_of at) ≡ false → (to : ℕ) → to ≡ prev_of prv at
      → to_go_down prv st held to < to_go_down prv st held at
  fall_less at c o to e =
      nearer r.graph r.node (a_end held) (prev_of prv)
      (passed r.graph r.node (a_end held) (prev_of prv) (here at c) c.is (away at c) o) e (away to (fall_on at c o to e))
