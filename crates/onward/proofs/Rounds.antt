-- The next link by the field of ends: over a `Bridge`, and round the ring of a `Cross`.
use Rattle.std.specs.Prelude.{Option, Some, None}
use Prim.Native.Nat.{ℕ, suc, ◌*◌, ◌≤◌, ◌<◌}
use mathlib.Core.Path.{◌≡◌, sym, ap, ◌∙◌, subst}
use mathlib.Core.Bool.{Bool, true, false}
use mathlib.Core.List.{List}
use native.Mathlib.Omega.{arith}
use native.Mathlib.Decide.{ℕ_discrete}
use lib.ListN.{length, get_or}
use lib.Dec.{eqb}
use borrow.Author.Tests.{eq-eqb, ne_eqb}
use Rattle.laws.specs.Test.{pick, pick_true, pick_false}
use Rattle.graph.specs.Graph.{Graph}
use Rattle.next.specs.Next.{is_unvisited, only_unvisited, next_link}
use Rattle.next.specs.States.{read_shut, names_unvisited}
use Rattle.next.specs.Choice.{Mem}
use Rattle.rings.specs.Ends.{link_of, far, node_of_end, far_far, far_link, end_node_lem, end_of_node}
use Rattle.rings.specs.Linked.{step_of}
use Rattle.rings.specs.Follow.{Left, next_end, to_go, step_below, came_back, found, passed, nearer}
use Rattle.rings.specs.RingLoop.{none_next, some_next}
use Rattle.rings.specs.Field.{cross_mark, next_of, prev_of, Across, Steers, Steered}
use Rattle.onward.specs.Goes.{Arrived, GoesTo, EndsUnvisited}
use Rattle.rings.proofs.Steering.{later_same}
use Rattle.onward.specs.Named.{Among, next_among}

-- ---- the link of an end where a walk stands is visited and unskipped
stands_visited : (st : List ℕ) (h : ℕ) → Arrived st h → is_unvisited st (link_of h) ≡ false
stands_visited st h a = read_shut st (link_of h) a.0 (λ e. by e a.1)
  where
    by : get_or st (link_of h) 0 ≡ 0 → 2 ≤ get_or st (link_of h) 0 → ⊥
    by e l = omega arith

stands_unskipped : (st : List ℕ) (h : ℕ) → Arrived st h → get_or st (link_of h) 0 ≡ 1 → ⊥
stands_unskipped st h a e = by a.1
  where
    by : 2 ≤ get_or st (link_of h) 0 → ⊥
    by l = omega arith

-- ---- over a `Bridge`
module _ {nxt prv st : List ℕ} (h : ℕ) (a : Arrived st h) (free : get_or nxt h 0 < cross_mark) where
  across : {g : Graph} → Steers g nxt prv st → Across g nxt h
  across s = s.bridge h (subst (λ n. link_of h < n) (sym s.size) a.0) (stands_unskipped st h a) free

  pub bridge_below : Steered nxt prv st → link_of (get_or nxt h 0) < length st
  bridge_below d = let i = (across d.steers).inside in omega (arith, i, d.steers.size)

  module _ (to : ℕ) (is : to ≡ get_or nxt h 0) (g : Graph) (s : Steers g nxt prv st) (sense : Bool) where
    pub bridge_to : is_unvisited st (link_of to) ≡ true → GoesTo g sense st h (Some to)
    bridge_to o = (
      (across s).next st sense ∙ ap (λ x. only_unvisited st (link_of x)) (sym is) ∙ pick_true (Some (link_of to)) None o,
      ap (λ x. node_of_end g (far x)) is ∙ (across s).node,
    )

    pub bridge_none : is_unvisited st (link_of to) ≡ false → GoesTo g sense st h None
    bridge_none o =
        (across s).next st sense ∙ ap (λ x. only_unvisited st (link_of x)) (sym is) ∙ pick_false (Some (link_of to)) None o

-- ---- what is named at a node is listed there
listed : (st l : List ℕ) {k : ℕ} (n : Option ℕ) → n ≡ Some k → Among st l n → Mem k l
listed st l n e m = (subst (Among st l) e m).0

-- ---- round a `Cross`, from end `home`
abbrev pub step_in : List ℕ → List ℕ → Bool → ℕ → ℕ
step_in nxt prv sense = step_of sense (next_of nxt) (prev_of prv)

-- what is left of the ring at an end
abbrev pub LeftAt : Graph → List ℕ → List ℕ → List ℕ → Bool → ℕ → ℕ → Type 0
LeftAt g nxt prv st sense home at =
    Left g (node_of_end g home) home (step_in nxt prv sense) g.n st (next_link g sense st (node_of_end g home) (link_of home)) at

-- what the loop knows: the end before, from which a step led to end `at`, and what is left of the ring there
pub record Round (nxt prv st : List ℕ) (sense : Bool) (home at : ℕ) : Type 0 where
  pub prior : ℕ
  pub is : at ≡ step_in nxt prv sense prior
  pub ring : (g : Graph) → Steers g nxt prv st → LeftAt g nxt prv st sense home prior

-- the measure: how many ends lie from `at` to `home`
abbrev pub to_home : List ℕ → List ℕ → List ℕ → Bool → ℕ → ℕ → ℕ
to_home nxt prv st sense home at = pick (eqb at home) 0 (suc (to_go (step_in nxt prv sense) home (length st) at))

module _ (nxt prv st : List ℕ) (sense : Bool) (home : ℕ) (a : Arrived st home) where
  module _ (marked : cross_mark ≤ get_or nxt home 0) where
    round_home : (g : Graph) → Steers g nxt prv st → LeftAt g nxt prv st sense home home
    round_home g s =
        s.cross home (subst (λ n. link_of home < n) (sym s.size) a.0) (stands_unskipped st home a) (λ l. omega arith)
        st (later_same st) (stands_visited st home a) sense

    pub round_starts : (at : ℕ) → at ≡ step_in nxt prv sense home → Round nxt prv st sense home at
    round_starts at e = record { prior = home; is = e; ring = round_home }

  module _ (at : ℕ) (r : Round nxt prv st sense home at) where
    -- it is an end of the links
    pub round_below : Steered nxt prv st → at < 2 * length st
    round_below d =
        let g = d.graph in
        subst (λ n. at < 2 * n) d.steers.size
        (step_below g (node_of_end g home) home (step_in nxt prv sense) (r.ring g d.steers) r.is)

    -- back home: there is no next link
    pub round_none : at ≡ home → (g : Graph) → Steers g nxt prv st → GoesTo g sense st home None
    round_none q g s =
        none_next g sense st (node_of_end g home) (link_of home) home
        (end_of_node s.links home (subst (λ n. link_of home < n) (sym s.size) a.0)) (stands_visited st home a)
        (sym (came_back g (node_of_end g home) home (step_in nxt prv sense) (r.ring g s) r.is q))

    module _ (away : at ≡ home → ⊥) where
      -- at the end of an unvisited link: that is the next one
      pub round_to : is_unvisited st (link_of at) ≡ true → (to : ℕ) → to ≡ far at → (g : Graph) → Steers g nxt prv st
          → GoesTo g sense st home (Some to)
      round_to o to e g s =
          let v : ℕ = node_of_end g home in
          let n : Option ℕ = next_link g sense st v (link_of home) in
          let f : at ≡ next_end g v home n = found g v home (step_in nxt prv sense) (r.ring g s) r.is away o in
          let is : n ≡ Some (link_of at) = some_next g v home n (λ q. away (f ∙ q)) ∙ ap (λ x. Some (link_of x)) (sym f) in (
            is ∙ ap Some (sym (ap link_of e ∙ far_link at)),
            ap (λ x. node_of_end g (far x)) e ∙ ap (node_of_end g) (far_far at ∙ f ∙ ap (next_end g v home) is)
                ∙ end_node_lem g v (link_of at) (s.only v (link_of at) (listed st (g.entries v) n is (next_among g sense st v (link_of home)))),
          )

      pub round_unvisited : is_unvisited st (link_of at) ≡ true → (to : ℕ) → to ≡ far at → EndsUnvisited st (Some to)
      round_unvisited o to e = names_unvisited st (link_of to) (ap (is_unvisited st) (ap link_of e ∙ far_link at) ∙ o)

      -- at the end of a visited one: the loop goes on
      module _ (o : is_unvisited st (link_of at) ≡ false) where
        passed_at : (g : Graph) → Steers g nxt prv st → LeftAt g nxt prv st sense home at
        passed_at g s = passed g (node_of_end g home) home (step_in nxt prv sense) (r.ring g s) r.is away o

        module _ (to : ℕ) (e : to ≡ step_in nxt prv sense at) where
          pub round_again : Round nxt prv st sense home to
          round_again = record { prior = at; is = e; ring = passed_at }

          pub round_less : Steered nxt prv st → to_home nxt prv st sense home to < to_home nxt prv st sense home at
          round_less d = by (ℕ_discrete to home)
            where
              left : ℕ → ℕ
              left x = to_go (step_in nxt prv sense) home (length st) x

              here : to_home nxt prv st sense home at ≡ suc (left at)
              here = pick_false 0 (suc (left at)) (ne_eqb at home away)

              by : Dec (to ≡ home) → to_home nxt prv st sense home to < to_home nxt prv st sense home at
              by (yes q) = omega (arith, here, pick_true 0 (suc (left to)) (eq-eqb to home q))
              by (no n) =
                  let g = d.graph in
                  let l = subst (λ n. to_go (step_in nxt prv sense) home n to < to_go (step_in nxt prv sense) home n at) d.steers.size
                  (nearer g (node_of_end g home) home (step_in nxt prv sense) (passed_at g d.steers) e n) in
                  omega (arith, here, pick_false 0 (suc (left to)) (ne_eqb to home n), l)
