-- Rule 1 asked again at a `Cross`, once the link that it named is visited: by the ring
-- it is rule 3, clockwise from that link. All that stands after it in the ring stays visited.
use Rattle.std.specs.Prelude.{ℕ, ◌≡◌, refl, ◌⊎◌, Bool, true, false, Option, Some}
use Rattle.std.proofs.Common.{sym, ap, ◌∙◌, subst, inl, inr, ⊎_elim, true≢false}
use mathlib.Core.List.Memᴰ
use mathlib.Core.List.{List, [], ◌∷◌, reverse_aux}
use Rattle.laws.specs.Test.{pick}
use Rattle.graph.specs.Graph.{Graph}
use Rattle.next.specs.Next.{is_unvisited, next_link, first_link}
use Rattle.next.specs.Choice.{Mem}
use Rattle.rings.specs.Rotation.{first_unvisited, first_later}
use Rattle.rings.specs.Climb.{last_or}

-- ---- the first unvisited link of a list is of it and unvisited
pub record Unvisited (st l : List ℕ) (f : ℕ) : Type 0 where
  pub among : Mem f l
  pub fresh : is_unvisited st f ≡ true

pub first_unvisited_lem : (st l : List ℕ) (f : ℕ) → first_unvisited st l ≡ Some f → Unvisited st l f
first_unvisited_lem st [] f e = absurd (true≢false (cc))
first_unvisited_lem st (x ∷ l) f e = at (is_unvisited st x) refl e (first_unvisited_lem st l f)
  where
    at : (b : Bool) → is_unvisited st x ≡ b → pick b (Some x) (first_unvisited st l) ≡ Some f
        → (first_unvisited st l ≡ Some f → Unvisited st l f) → Unvisited st (x ∷ l) f
    at true t q rest =
        let z : f ≡ x = cc in
        record { among = Memᴰ.head z; fresh = ap (is_unvisited st) z ∙ t }
    at false n q rest = let r = rest q in record { among = Memᴰ.tail r.among; fresh = r.fresh }

-- ---- links that are all visited change nothing
abbrev pub Shut : List ℕ → List ℕ → Type 0
Shut st l = (x : ℕ) → Mem x l → is_unvisited st x ≡ false

pub shut_first : (st p r : List ℕ) → Shut st p → first_unvisited st (reverse_aux p r) ≡ first_unvisited st r
shut_first st [] r h = refl
shut_first st (x ∷ p) r h =
    shut_first st p (x ∷ r) (λ y m. h y (Memᴰ.tail m)) ∙ first_later st x r (h x (Memᴰ.head refl))

pub same_first : (st p r s : List ℕ) → first_unvisited st r ≡ first_unvisited st s
    → first_unvisited st (reverse_aux p r) ≡ first_unvisited st (reverse_aux p s)
same_first st [] r s e = e
same_first st (x ∷ p) r s e = same_first st p (x ∷ r) (x ∷ s) (ap (λ (n : Option ℕ). pick (is_unvisited st x) (Some x) n) e)

-- ---- what follows the last unvisited link of a list is visited
last_is : (st : List ℕ) (c : ℕ) (l : List ℕ) → (last_or st c l ≡ c) ⊎ Mem (last_or st c l) l
last_is st c [] = inl refl
last_is st c (x ∷ l) = at (is_unvisited st x) (last_is st x l) (last_is st c l)
  where
    at : (b : Bool) → (last_or st x l ≡ x) ⊎ Mem (last_or st x l) l → (last_or st c l ≡ c) ⊎ Mem (last_or st c l) l
        → (last_or st (pick b x c) l ≡ c) ⊎ Mem (last_or st (pick b x c) l) (x ∷ l)
    at true i j = ⊎_elim (λ q. inr (Memᴰ.head q)) (λ m. inr (Memᴰ.tail m)) i
    at false i j = ⊎_elim inl (λ m. inr (Memᴰ.tail m)) j

pub last_among : (st : List ℕ) (c : ℕ) (l : List ℕ) (x : ℕ) → Mem x l → is_unvisited st x ≡ true → Mem (last_or st c l) l
last_among st c [] x m o = absurd (Memᴰ.not-nil m)
last_among st c (y ∷ l) x m o = ⊎_elim
    (λ q. subst (λ b. Mem (last_or st (pick b y c) l) (y ∷ l)) (sym (ap (is_unvisited st) (sym q) ∙ o))
    (⊎_elim (λ e. Memᴰ.head e) (λ k. Memᴰ.tail k) (last_is st y l)))
    (λ k. Memᴰ.tail (last_among st (pick (is_unvisited st y) y c) l x k o)) (Memᴰ.cases_cons m)

-- ---- the law: in states s, where k is the lowest unvisited link, rule 1 names f; in states t, later than these, f is visited, and k is not

-- f is of the ring l, its a is at k's node, and rule 1 is rule 3, clockwise from there
pub record NamedAgain (g : Graph) (s t l : List ℕ) (k f : ℕ) : Type 0 where
  pub fresh : is_unvisited s f ≡ true
  pub among : Mem f l
  pub starts : g.a_node f ≡ g.a_node k
  pub next : first_link g t k ≡ next_link g true t (g.a_node k) f
