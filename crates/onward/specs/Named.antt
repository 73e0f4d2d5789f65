-- Of any graph: the next link, by rule 3, is unvisited and an entry of the node.
use Rattle.std.specs.Prelude.{ℕ, ◌≡◌, refl, Bool, true, List, [], ◌∷◌, eqb, Option, Some, None}
use mathlib.Core.List.Memᴰ
use Rattle.laws.specs.Test.{pick, pick_ind}
use Rattle.graph.specs.Graph.{Graph}
use Rattle.next.specs.Next.{is_unvisited, unvisited_in, only_unvisited, crossing, node_of, met_first, best, first_met, next_at, next_link}
use Rattle.next.specs.Choice.{Mem, unvisited_in_of, best_in}

-- what is named, if anything is, is unvisited and stands in a list
abbrev pub Among : List ℕ → List ℕ → Option ℕ → Type 0
Among st l None = Unit {0}
Among st l (Some k) = Mem k l × (is_unvisited st k ≡ true)

only_among : (st l : List ℕ) (c : ℕ) → Mem c l → Among st l (only_unvisited st c)
only_among st l c m = pick_ind (is_unvisited st c) (Some c) None (Among st l) (λ t. (m, t)) (λ n. tt)

met_among : (lt : ℕ → ℕ → Bool) (st l os : List ℕ) → ((x : ℕ) → Mem x os → Mem x l × (is_unvisited st x ≡ true)) → Among st l (first_met lt os)
met_among lt st l [] h = tt
met_among lt st l (x ∷ os) h = h (best lt x os) (best_in lt x os)

cross_among : (g : Graph) (w : Bool) (st : List ℕ) (v e : ℕ) (l : List ℕ) → Among st l (next_at g w st v e (crossing l))
cross_among g w st v e l = met_among (met_first g w v e) st l (unvisited_in st l) (unvisited_in_of st l)

at_among : (g : Graph) (w : Bool) (st : List ℕ) (v e : ℕ) (l : List ℕ) → Among st l (next_at g w st v e (node_of l))
at_among g w st v e [] = cross_among g w st v e []
at_among g w st v e (x ∷ []) = cross_among g w st v e (x ∷ [])
at_among g w st v e (x ∷ (y ∷ [])) = only_among st (x ∷ (y ∷ [])) (pick (eqb x e) y x)
    (pick_ind (eqb x e) y x (λ c. Mem c (x ∷ (y ∷ []))) (λ t. Memᴰ.tail (Memᴰ.head refl)) (λ n. Memᴰ.head refl))
at_among g w st v e (x ∷ (y ∷ (z ∷ l))) = cross_among g w st v e (x ∷ (y ∷ (z ∷ l)))

pub next_among : (g : Graph) (w : Bool) (st : List ℕ) (v e : ℕ) → Among st (g.entries v) (next_link g w st v e)
unfolding next_link
next_among g w st v e = at_among g w st v e (g.entries v)
