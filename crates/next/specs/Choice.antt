-- What the next link is (rule 3): unvisited and at the node; at a `Cross` no other unvisited link there is met before it; at a `Bridge` the other entry.
use Rattle.std.specs.Prelude.{ℕ, ◌≡◌, refl, ◌⊎◌, Bool, true, false, eqb, length, Some, None}
use Rattle.std.proofs.Common.{arith, sym, ◌∙◌, subst, inl, inr, ⊎_elim, eq-eqb, ne_eqb}
use Rattle.std.proofs.Math.Path.{ap}
use mathlib.Core.List.Memᴰ
use mathlib.Core.List.{List, [], ◌∷◌, Memᴰ}
use Rattle.laws.specs.Test.{pick, pick_ind, Is, is_true, true_is, true≢false}
use Rattle.turn.specs.Angular.{irreflexive, transitive}
use Rattle.graph.specs.Graph.{Graph}
use Rattle.next.specs.Next.{is_unvisited, unvisited_in, only_unvisited, Node, bridge, crossing, node_of, met_first, best, first_met, across_from}
use Rattle.next.specs.Next.{next_at, next_link}
use Rattle.graph.specs.Checks.{away_from}
use Rattle.next.specs.Known.{NamesUnvisited}
use Rattle.next.specs.States.{names_unvisited, only_unvisited_lem}

-- a link stands in a list
abbrev pub Mem : ℕ → List ℕ → Type 0
Mem = Memᴰ

-- ---- the unvisited links of a list
pub unvisited_in_in : (st l : List ℕ) (x : ℕ) → Mem x l → is_unvisited st x ≡ true → Mem x (unvisited_in st l)
unvisited_in_in st [] x m o = absurd (Memᴰ.not-nil m)
unvisited_in_in st (y ∷ l) x m o = pick_ind (is_unvisited st y) (y ∷ unvisited_in st l) (unvisited_in st l) (Mem x)
    (λ _. ⊎_elim (λ q. Memᴰ.head q) (λ k. Memᴰ.tail (unvisited_in_in st l x k o)) (Memᴰ.cases_cons m))
    (λ n. ⊎_elim (λ (q : x ≡ y). absurd (true≢false o (rw q n))) (λ k. unvisited_in_in st l x k o) (Memᴰ.cases_cons m))

pub unvisited_in_of : (st l : List ℕ) (x : ℕ) → Mem x (unvisited_in st l) → Mem x l × (is_unvisited st x ≡ true)
unvisited_in_of st [] x = λ m. absurd (Memᴰ.not-nil m)
unvisited_in_of st (y ∷ l) x = pick_ind (is_unvisited st y) (y ∷ unvisited_in st l) (unvisited_in st l)
    (λ r. Mem x r → Mem x (y ∷ l) × (is_unvisited st x ≡ true))
    (λ t m. ⊎_elim (λ (q : x ≡ y). (Memᴰ.head q, rw q t)) (λ k. let r = unvisited_in_of st l x k in (Memᴰ.tail r.0, r.1))
    (Memᴰ.cases_cons m))
    (λ n m. let r = unvisited_in_of st l x m in (Memᴰ.tail r.0, r.1))

-- ---- the first met of a list, for a strict order
module _ (lt : ℕ → ℕ → Bool) where
  pub best_in : (c : ℕ) (l : List ℕ) → Mem (best lt c l) (c ∷ l)
  best_in c [] = Memᴰ.head refl
  best_in c (x ∷ l) = pick_ind (lt x c) x c (λ d. Mem (best lt d l) (d ∷ l) → Mem (best lt d l) (c ∷ (x ∷ l)))
      (λ _ m. Memᴰ.tail m)
      (λ _ m. ⊎_elim (λ q. Memᴰ.head q) (λ k. Memᴰ.tail (Memᴰ.tail k)) (Memᴰ.cases_cons m))
      (best_in (pick (lt x c) x c) l)

  module _ (irr : (x : ℕ) → Is (lt x x) → ⊥) (trans : (x y z : ℕ) → Is (lt x y) → Is (lt y z) → Is (lt x z)) where
    -- r is not after c, and nothing of the list is before r
    record Least (c : ℕ) (l : List ℕ) (r : ℕ) : Type 0 where
      choice : (r ≡ c) ⊎ Is (lt r c)
      none : (x : ℕ) → Mem x (c ∷ l) → Is (lt x r) → ⊥

    least : (c : ℕ) (l : List ℕ) → Least c l (best lt c l)
    least c [] = record {
      choice = inl refl;
      none = λ x m p. ⊎_elim (λ (q : x ≡ c). irr c (subst (λ u. Is (lt u c)) q p)) (λ k. Memᴰ.not-nil k) (Memᴰ.cases_cons m);
    }
    least c (x ∷ l) = pick_ind (lt x c) x c (λ d. Least d l (best lt d l) → Least c (x ∷ l) (best lt d l))
        (λ t h. won (true_is t) h) (λ n h. kept n h) (least (pick (lt x c) x c) l)
      where
        won : {r : ℕ} → Is (lt x c) → Least x l r → Least c (x ∷ l) r
        won {r} t h = record {
          choice = inr (⊎_elim (λ (q : r ≡ x). subst (λ u. Is (lt u c)) (sym q) t) (λ k. trans r x c k t) h.choice);
          none = λ y m p. ⊎_elim (λ (q : y ≡ c). h.none x (Memᴰ.head refl) (trans x c r t (subst (λ u. Is (lt u r)) q p))) (λ k. h.none y k p)
              (Memᴰ.cases_cons m);
        }

        kept : {r : ℕ} → lt x c ≡ false → Least c l r → Least c (x ∷ l) r
        kept {r} n h = record {
          choice = h.choice;
          none = λ y m p. ⊎_elim
              (λ (q : y ≡ c). h.none y (Memᴰ.head q) p)
              (λ k. ⊎_elim (λ (q : y ≡ x). true≢false (is_true (later (subst (λ u. Is (lt u r)) q p) h.choice)) n)
              (λ j. h.none y (Memᴰ.tail j) p) (Memᴰ.cases_cons k))
              (Memᴰ.cases_cons m);
        }
          where
            later : Is (lt x r) → (r ≡ c) ⊎ Is (lt r c) → Is (lt x c)
            later p (inl q) = subst (λ u. Is (lt x u)) q p
            later p (inr k) = trans x r c p k

zero_one : {A : Type 0} → ◌≡◌ {A = ℕ} 0 1 → A
zero_one e = absurd (no e)
  where
    no : ◌≡◌ {A = ℕ} 0 1 → ⊥
    no e = omega arith

-- what `first_met` names
module _ (lt : ℕ → ℕ → Bool) (irr : (x : ℕ) → Is (lt x x) → ⊥) (trans : (x y z : ℕ) → Is (lt x y) → Is (lt y z) → Is (lt x z)) where
  pub first_met_lem : (o : List ℕ) (f : ℕ) → first_met lt o ≡ Some f → Mem f o × ((x : ℕ) → Mem x o → Is (lt x f) → ⊥)
  first_met_lem [] f e = let q : ◌≡◌ {A = ℕ} 0 1 = cc in zero_one q
  first_met_lem (x ∷ o) f e =
      let q : best lt x o ≡ f = cc in
      subst (λ r. Mem r (x ∷ o) × ((y : ℕ) → Mem y (x ∷ o) → Is (lt y r) → ⊥)) q (best_in lt x o, (least lt irr trans x o).none)

none_met : (lt : ℕ → ℕ → Bool) (o : List ℕ) (x : ℕ) → first_met lt o ≡ None → Mem x o → ⊥
none_met lt [] x e m = Memᴰ.not-nil m
none_met lt (y ∷ o) x e m = let q : ◌≡◌ {A = ℕ} 0 1 = cc in zero_one q

-- ---- nodes
pub crossing_of : (l : List ℕ) → (length l ≡ 2 → ⊥) → node_of l ≡ crossing l
crossing_of [] n = refl
crossing_of (x ∷ []) n = refl
crossing_of (x ∷ (y ∷ [])) n = absurd (n refl)
crossing_of (x ∷ (y ∷ (z ∷ l))) n = refl

-- ---- the next link

-- at a `Bridge` with entries x and y: the other entry, if it is unvisited
module _ (st : List ℕ) (e x y : ℕ) where
  pub across_first : e ≡ x → only_unvisited st y ≡ across_from st e x y
  across_first q = ap (λ (b : Bool). only_unvisited st (pick b y x)) (sym (eq-eqb x e (sym q)))

  pub across_second : (e ≡ x → ⊥) → only_unvisited st x ≡ across_from st e x y
  across_second n = ap (λ (b : Bool). only_unvisited st (pick b y x)) (sym (ne_eqb x e (λ q. n (sym q))))

module _ (g : Graph) (sense : Bool) (st : List ℕ) (v e x y : ℕ) (two : g.entries v ≡ x ∷ (y ∷ [])) where
  pub next_of_first : e ≡ x → next_link g sense st v e ≡ only_unvisited st y
  unfolding next_link
  next_of_first q = rw two (sym (across_first st e x y q))

  pub next_of_second : (e ≡ x → ⊥) → next_link g sense st v e ≡ only_unvisited st x
  unfolding next_link
  next_of_second n = rw two (sym (across_second st e x y n))

-- what is named is unvisited
pub next_unvisited : (g : Graph) (sense : Bool) (st : List ℕ) (v e : ℕ) → NamesUnvisited st (next_link g sense st v e)
unfolding next_link
next_unvisited g sense st v e = at (node_of (g.entries v))
  where
    met : (o : List ℕ) → ((x : ℕ) → Mem x o → is_unvisited st x ≡ true) → NamesUnvisited st (first_met (met_first g sense v e) o)
    met [] h = tt
    met (x ∷ o) h = let r = best (met_first g sense v e) x o in names_unvisited st r (h r (best_in (met_first g sense v e) x o))

    at : (n : Node) → NamesUnvisited st (next_at g sense st v e n)
    at (bridge x y) = only_unvisited_lem st (pick (eqb x e) y x)
    at (crossing l) = met (unvisited_in st l) (λ x m. (unvisited_in_of st l x m).1)

-- f is unvisited and at the node, and no other unvisited link there is met before it, turning from e
pub record Foremost (g : Graph) (sense : Bool) (st : List ℕ) (v e f : ℕ) : Type 0 where
  pub unvisited : is_unvisited st f ≡ true
  pub at_node : Mem f (g.entries v)
  pub none_before : (x : ℕ) → Mem x (g.entries v) → is_unvisited st x ≡ true → met_first g sense v e x f ≡ true → ⊥

module _ (g : Graph) (sense : Bool) (st : List ℕ) (v e : ℕ) where
  abbrev lt : ℕ → ℕ → Bool
  lt = met_first g sense v e

  irr : (x : ℕ) → Is (lt x x) → ⊥
  irr x = irreflexive sense (away_from g v e) (away_from g v x)

  trans : (x y z : ℕ) → Is (lt x y) → Is (lt y z) → Is (lt x z)
  trans x y z = transitive sense (away_from g v e) (away_from g v x) (away_from g v y) (away_from g v z)

  -- at a `Cross`
  module _ (cross : length (g.entries v) ≡ 2 → ⊥) where
    pub next_met : next_link g sense st v e ≡ first_met lt (unvisited_in st (g.entries v))
    unfolding next_link
    next_met = ap (next_at g sense st v e) (crossing_of (g.entries v) cross)

    pub next_at_cross : (f : ℕ) → next_link g sense st v e ≡ Some f → Foremost g sense st v e f
    next_at_cross f q =
        let h = first_met_lem lt irr trans (unvisited_in st (g.entries v)) f (sym next_met ∙ q) in
        let m = unvisited_in_of st (g.entries v) f h.0 in
        record { unvisited = m.1; at_node = m.0; none_before = λ x k o t. h.1 x (unvisited_in_in st (g.entries v) x k o) (true_is t) }

    -- nothing is named where nothing is unvisited
    pub none_at_cross : next_link g sense st v e ≡ None → (x : ℕ) → Mem x (g.entries v) → is_unvisited st x ≡ true → ⊥
    none_at_cross q x m o = none_met lt (unvisited_in st (g.entries v)) x (sym next_met ∙ q) (unvisited_in_in st (g.entries v) x m o)
