-- The condition is decidable: a test that computes, and that passes exactly where a graph that passes the checks comes by turns.
use Rattle.std.specs.Prelude.{ℕ, ◌≤◌, ◌≡◌, refl, Bool, true, false, not, List, [], ◌∷◌, Some}
use Rattle.std.proofs.Common.{arith, sym, ap, ◌∙◌, subst, ⊎_elim}
use Rattle.std.proofs.Math.Decide.{ℕ_discrete, dec_le}
use Rattle.std.specs.Bool.{beq}
use mathlib.Core.List.Memᴰ
use Rattle.std.proofs.lemmas.Bool.{not-false}
use Rattle.laws.specs.Test.{and_true, true_and, not_is}
use Rattle.laws.specs.Lowest.{some, none_of, some_no}
use Rattle.graph.specs.Graph.{Lent, Graph, graph_of, node_count}
use Rattle.graph.specs.Checks.{Room, checked}
use Rattle.laws.specs.Fails.{Iff}
use Rattle.graph.specs.Fine.{fine}
use Rattle.next.specs.Next.{unvisited_in, met_first, first_met}
use Rattle.next.specs.Choice.{Mem, unvisited_in_in, unvisited_in_of}
use Rattle.tour.specs.Statement.{leaves, ComesByTurns}
use Rattle.tour.specs.First.{first_of}
use Rattle.tour.specs.Around.{met_irr, met_trans}
use Rattle.tour.specs.Sound.{Sound, At, NoneBetween, NextTurns}
use Rattle.tour.proofs.Round.{order, next_turns, comes_by_turns_lem}
use Rattle.tour.specs.Passing.{sound, sound_fine}
use Rattle.tour.specs.Decide.{all_of, other_sort, turns_at, comes_by_turns}
use Rattle.turn.specs.Refusals.{no_fault}

all_of_lem : (test : ℕ → Bool) (l : List ℕ) → all_of test l ≡ true → (x : ℕ) → Mem x l → test x ≡ true
all_of_lem test [] t x m = absurd (Memᴰ.not-nil m)
all_of_lem test (y ∷ l) t x m =
    let p = and_true (test y) (all_of test l) t in
    ⊎_elim (λ q. ap test q ∙ p.0) (λ k. all_of_lem test l p.1 x k) (Memᴰ.cases_cons m)

of_all : (test : ℕ → Bool) (l : List ℕ) → ((x : ℕ) → Mem x l → test x ≡ true) → all_of test l ≡ true
of_all test [] h = refl
of_all test (y ∷ l) h = true_and (test y) (all_of test l) (h y (Memᴰ.head refl)) (of_all test l (λ x m. h x (Memᴰ.tail m)))

beq_eq : (a b : Bool) → beq a b ≡ true → a ≡ b
beq_eq true true e = refl
beq_eq true false e = sym e
beq_eq false true e = e
beq_eq false false e = refl

eq_beq : (a b : Bool) → a ≡ b → beq a b ≡ true
eq_beq true true e = refl
eq_beq true false e = sym e
eq_beq false true e = e
eq_beq false false e = refl

module _ (g : Graph) (st : List ℕ) (ok : Sound g st) where
  -- the next clockwise: it is there, whatever the sorts
  next_there : (v x : ℕ) → At g st v x → (z : ℕ) × (first_met (met_first g true v x) (unvisited_in st (g.entries v)) ≡ Some z)
      × (At g st v z × NoneBetween g st v x z)
  next_there v x a =
      let l : List ℕ = g.entries v in
      let r = first_of (met_first g true v x) (met_irr g true v x) (met_trans g true v x) x (unvisited_in st l) (unvisited_in_in st l x a.0 a.1) in
      (r.0, r.1, (unvisited_in_of st l r.0 r.2.0, λ y b. r.2.1 y (unvisited_in_in st l y b.0 b.1)))

  abbrev test : ℕ → ℕ → Bool
  test v x = other_sort g v x (first_met (met_first g true v x) (unvisited_in st (g.entries v)))

  passes_next : ((v : ℕ) → turns_at g st v ≡ true) → NextTurns g st
  passes_next h v x a =
      let r = next_there v x a in
      let t : test v x ≡ true = all_of_lem (test v) (unvisited_in st (g.entries v)) (h v) x (unvisited_in_in st (g.entries v) x a.0 a.1) in
      (r.0, r.2, beq_eq (leaves g v r.0) (not (leaves g v x)) (sym (ap (other_sort g v x) r.1) ∙ t))

  next_passes : NextTurns g st → (v : ℕ) → turns_at g st v ≡ true
  next_passes n v = of_all (test v) (unvisited_in st (g.entries v)) (λ x m. one x (unvisited_in_of st (g.entries v) x m))
    where
      one : (x : ℕ) → At g st v x → test v x ≡ true
      one x a = by (n v x a) (next_there v x a)
        where
          by : (z : ℕ) × (At g st v z × NoneBetween g st v x z) × (leaves g v z ≡ not (leaves g v x))
              → (y : ℕ) × (first_met (met_first g true v x) (unvisited_in st (g.entries v)) ≡ Some y) × (At g st v y × NoneBetween g st v x y) → test v x ≡ true
          by p r = ap (other_sort g v x) r.1 ∙ eq_beq (leaves g v r.0) (not (leaves g v x)) (ap (leaves g v) (same (ℕ_discrete r.0 p.0)) ∙ p.2)
            where
              same : Dec (r.0 ≡ p.0) → r.0 ≡ p.0
              same (yes q) = q
              same (no d) = absurd (⊎_elim (λ h. p.1.1 r.0 r.2.0 h) (λ h. r.2.1 p.0 p.1.0 h)
                  (order g st ok v x r.0 p.0 a r.2.0 p.1.0 d))

  -- past the m nodes the lists are empty
  pub decided : (m : ℕ) → ((v : ℕ) → m ≤ v → g.entries v ≡ []) → Iff (comes_by_turns g st m ≡ true) (ComesByTurns g st)
  decided m empty = record {
    to = λ t. comes_by_turns_lem g st ok (passes_next (λ v. at_node v (dec_le m v) (not_is (some (λ v. not (turns_at g st v)) m) t)));
    from = λ c. ap not (some_no (λ v. not (turns_at g st v)) m (λ v l. ap not (next_passes (next_turns g st ok c) v)));
  }
    where
      at_node : (v : ℕ) → Dec (m ≤ v) → some (λ v. not (turns_at g st v)) m ≡ false → turns_at g st v ≡ true
      at_node v (yes h) t =
          subst (λ l. all_of (λ x. other_sort g v x (first_met (met_first g true v x) (unvisited_in st l))) (unvisited_in st l) ≡ true) (sym (empty v h)) refl
      at_node v (no n) t = not-false (turns_at g st v) (none_of (λ v. not (turns_at g st v)) m t v (omega arith))

-- ---- of what is lent

-- the two forms of the condition say one thing
pub two_forms : (g : Lent) (top st : List ℕ) (r : Room) → checked g top st r ≡ no_fault → Iff (ComesByTurns (graph_of g top) st) (NextTurns (graph_of g top) st)
two_forms g top st r e = let ok = sound g top st r e in record { to = next_turns (graph_of g top) st ok; from = comes_by_turns_lem (graph_of g top) st ok }

-- and the test passes exactly there
pub comes_exactly : (g : Lent) (top st : List ℕ) (r : Room) → checked g top st r ≡ no_fault → Iff (comes_by_turns (graph_of g top) st (node_count g) ≡ true)
    (ComesByTurns (graph_of g top) st)
comes_exactly g top st r e =
    let h = fine g top st r e in
    decided (graph_of g top) st (sound_fine g top st r h) (node_count g) h.lists.empty
