-- The first met of a list, and what the next and the first link are where an unvisited link is at hand.
use Rattle.std.specs.Prelude.{ℕ, ◌≡◌, refl, Bool, true, false, List, [], ◌∷◌, eqb, Option, Some, None}
use Rattle.std.proofs.Common.{sym, ◌∙◌, subst, ⊎_elim, eqb-true, eq-eqb}
use mathlib.Core.List.Memᴰ
use Rattle.laws.specs.Test.{pick, pick_true, pick_ind, is_true, true_is, true≢false}
use Rattle.turn.specs.Points.{clockwise}
use Rattle.graph.specs.Graph.{Graph}
use Rattle.next.specs.Next.{unvisited_in, only_unvisited, node_of, met_first, best, first_met, next_at, next_link, topmost, first_at, first_link}
use Rattle.next.specs.Choice.{Mem, unvisited_in_in, unvisited_in_of, first_met_lem}
use Rattle.walk.specs.States.{Unvisited}
use Rattle.next.specs.Topmost.{topmost_unvisited}

abbrev pub First : (ℕ → ℕ → Bool) → List ℕ → ℕ → Type 0
First lt l r = Mem r l × ((x : ℕ) → Mem x l → lt x r ≡ true → ⊥)

module _ (lt : ℕ → ℕ → Bool) (irr : (x : ℕ) → lt x x ≡ true → ⊥) (trans : (x y z : ℕ) → lt x y ≡ true → lt y z ≡ true → lt x z ≡ true) where
  pub first_of : (z : ℕ) (l : List ℕ) → Mem z l → (r : ℕ) × (first_met lt l ≡ Some r) × First lt l r
  first_of z [] m = absurd (Memᴰ.not-nil m)
  first_of z (x ∷ l) m =
      let f = first_met_lem lt (λ y h. irr y (is_true h)) (λ y u w p q. true_is (trans y u w (is_true p) (is_true q))) (x ∷ l) (best lt x l) refl in
      (best lt x l, refl, (f.0, λ y i t. f.1 y i (true_is t)))

-- ---- the next link: z is unvisited at the node
module _ (g : Graph) (w : Bool) (st : List ℕ) (v e : ℕ)
    (irr : (x : ℕ) → met_first g w v e x x ≡ true → ⊥)
    (trans : (x y z : ℕ) → met_first g w v e x y ≡ true → met_first g w v e y z ≡ true → met_first g w v e x z ≡ true)
    (gone : Unvisited st e → ⊥) (z : ℕ) (oz : Unvisited st z) where
  abbrev pub Names : List ℕ → Option ℕ → Type 0
  Names l o = (f : ℕ) × (o ≡ Some f) × Mem f l × Unvisited st f × ((x : ℕ) → Mem x l → Unvisited st x → met_first g w v e x f ≡ true → ⊥)

  at_cross : (l : List ℕ) → Mem z l → Names l (first_met (met_first g w v e) (unvisited_in st l))
  at_cross l m =
      let r = first_of (met_first g w v e) irr trans z (unvisited_in st l) (unvisited_in_in st l z m oz) in
      let p = unvisited_in_of st l r.0 r.2.0 in
      (r.0, r.1, p.0, p.1, λ x n o. r.2.1 x (unvisited_in_in st l x n o))

  only_one : (l : List ℕ) (c : ℕ) → Mem c l → Mem z l → ((x : ℕ) → Mem x l → Unvisited st x → x ≡ c) → Names l (only_unvisited st c)
  only_one l c mc mz one =
      let oc : Unvisited st c = subst (Unvisited st) (one z mz oz) oz in
      (c, pick_true (Some c) None oc, mc, oc, λ x m o t. irr c (subst (λ u. met_first g w v e u c ≡ true) (one x m o) t))

  at_bridge : (x y : ℕ) → Mem e (x ∷ (y ∷ [])) → Mem z (x ∷ (y ∷ [])) → Names (x ∷ (y ∷ [])) (only_unvisited st (pick (eqb x e) y x))
  at_bridge x y me mz = pick_ind (eqb x e) y x (λ c. Names (x ∷ (y ∷ [])) (only_unvisited st c))
      (λ t. only_one (x ∷ (y ∷ [])) y (Memᴰ.tail (Memᴰ.head refl)) mz
      (λ a m o. ⊎_elim (λ q. absurd (gone (subst (Unvisited st) (q ∙ eqb-true x e t) o))) (λ k. in_one k) (Memᴰ.cases_cons m)))
      (λ n. only_one (x ∷ (y ∷ [])) x (Memᴰ.head refl) mz
      (λ a m o. ⊎_elim (λ q. q) (λ k. absurd (gone (subst (Unvisited st) (in_one k ∙ sym (e_is n)) o))) (Memᴰ.cases_cons m)))
    where
      in_one : {a : ℕ} → Mem a (y ∷ []) → a ≡ y
      in_one k = ⊎_elim (λ q. q) (λ j. absurd (Memᴰ.not-nil j)) (Memᴰ.cases_cons k)

      e_is : eqb x e ≡ false → e ≡ y
      e_is n = ⊎_elim (λ (q : e ≡ x). absurd (true≢false (eq-eqb x e (sym q)) n)) (λ k. in_one k) (Memᴰ.cases_cons me)

  next_in_lem : (l : List ℕ) → Mem e l → Mem z l → Names l (next_at g w st v e (node_of l))
  next_in_lem [] me mz = absurd (Memᴰ.not-nil mz)
  next_in_lem (x ∷ []) me mz = at_cross (x ∷ []) mz
  next_in_lem (x ∷ (y ∷ [])) me mz = at_bridge x y me mz
  next_in_lem (x ∷ (y ∷ (u ∷ l))) me mz = at_cross (x ∷ (y ∷ (u ∷ l))) mz

  pub next_ok : Mem e (g.entries v) → Mem z (g.entries v) → Names (g.entries v) (next_link g w st v e)
  unfolding next_link
  next_ok me mz = next_in_lem (g.entries v) me mz

-- ---- the first link: at a bridge with an unvisited entry both are unvisited
abbrev pub Paired : Graph → List ℕ → Type 0
Paired g st = (v x y k : ℕ) → g.entries v ≡ x ∷ (y ∷ []) → Mem k (x ∷ (y ∷ [])) → Unvisited st k → Unvisited st x × Unvisited st y

abbrev pub NamesUnvisitedAt : List ℕ → Option ℕ → Type 0
NamesUnvisitedAt st o = (s : ℕ) × (o ≡ Some s) × Unvisited st s

first_in : (g : Graph) (st : List ℕ) (k : ℕ) (l : List ℕ) → ((x y : ℕ) → l ≡ x ∷ (y ∷ []) → Unvisited st x × Unvisited st y) → Unvisited st k
    → NamesUnvisitedAt st (first_at g st k (node_of l))
first_in g st k [] p o = (k, refl, o)
first_in g st k (x ∷ []) p o = (topmost g st k k (x ∷ []), refl, topmost_unvisited g st k k (x ∷ []) o)
first_in g st k (x ∷ (y ∷ [])) p o =
    let h = p x y refl in
    let t : Bool = clockwise (g.a x) (g.b x) (g.b y) in
    let q : Unvisited st (pick t x y) = pick_ind t x y (Unvisited st) (λ t. h.0) (λ n. h.1) in
    (pick t x y, pick_true (Some (pick t x y)) None q, q)
first_in g st k (x ∷ (y ∷ (z ∷ l))) p o = (topmost g st k k (x ∷ (y ∷ (z ∷ l))), refl, topmost_unvisited g st k k (x ∷ (y ∷ (z ∷ l))) o)

pub first_ok : (g : Graph) (st : List ℕ) (k : ℕ) → Paired g st → Mem k (g.entries (g.a_node k)) → Unvisited st k → NamesUnvisitedAt st (first_link g st k)
unfolding first_link
first_ok g st k p m o = first_in g st k (g.entries (g.a_node k)) (λ x y e. p (g.a_node k) x y k e (subst (Mem k) e m) o) o
