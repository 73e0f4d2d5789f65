-- A list read round from one of its elements: what follows it, then what stands before it.
-- The first and the last unvisited link of a list.
use Rattle.std.specs.Prelude.{ℕ, ◌≡◌, refl, ◌⊎◌, Bool, true, false, List, [], ◌∷◌, ◌++◌, reverse, eqb, Option, Some, None}
use Rattle.std.proofs.Common.{sym, ap, ◌∙◌, inl, inr, ⊎_elim, eqb-true}
use mathlib.Core.List.Memᴰ
use Rattle.std.proofs.lemmas.Bool.{eqb-false}
use Rattle.laws.specs.Test.{pick, pick_ind}
use Rattle.next.specs.Next.{is_unvisited}
use Rattle.next.specs.Choice.{Mem}

-- what follows e in a list, and what stands before it
abbrev pub after : ℕ → List ℕ → List ℕ
after e [] = []
after e (x ∷ l) = pick (eqb x e) l (after e l)

abbrev pub ahead : ℕ → List ℕ → List ℕ
ahead e [] = []
ahead e (x ∷ l) = pick (eqb x e) [] (x ∷ ahead e l)

-- from just after e, round the list's end, up to just before e; and from there back
abbrev pub onward : ℕ → List ℕ → List ℕ
onward e l = after e l ++ ahead e l

abbrev pub backward : ℕ → List ℕ → List ℕ
backward e l = reverse (onward e l)

-- clockwise a ring is read back, counterclockwise onward
abbrev pub round_from : Bool → ℕ → List ℕ → List ℕ
round_from sense e l = pick sense (backward e l) (onward e l)

abbrev pub first_unvisited : List ℕ → List ℕ → Option ℕ
first_unvisited st [] = None
first_unvisited st (x ∷ l) = pick (is_unvisited st x) (Some x) (first_unvisited st l)

abbrev pub last_unvisited : List ℕ → List ℕ → Option ℕ
last_unvisited st l = first_unvisited st (reverse l)

-- ---- the list, taken apart at e
pub split : (e : ℕ) (l : List ℕ) → Mem e l → l ≡ ahead e l ++ (e ∷ after e l)
split e [] m = absurd (Memᴰ.not-nil m)
split e (x ∷ l) m = at (eqb x e) refl (split e l)
  where
    at : (b : Bool) → eqb x e ≡ b → (Mem e l → l ≡ ahead e l ++ (e ∷ after e l))
        → x ∷ l ≡ pick b [] (x ∷ ahead e l) ++ (e ∷ pick b l (after e l))
    at true q rest = ap (λ (y : ℕ). y ∷ l) (eqb-true x e q)
    at false q rest = ap (λ (r : List ℕ). x ∷ r)
        (rest (⊎_elim (λ (p : e ≡ x). absurd (eqb-false x e q (sym p))) (λ k. k) (Memᴰ.cases_cons m)))

-- ---- what is read round from e is the list without e
pub of_after : {x : ℕ} (e : ℕ) (l : List ℕ) → Mem x (after e l) → Mem x l
of_after e [] = λ m. m
of_after {x} e (y ∷ l) =
    pick_ind (eqb y e) l (after e l) (λ r. Mem x r → Mem x (y ∷ l)) (λ _ m. Memᴰ.tail m)
    (λ _ m. Memᴰ.tail (of_after e l m))

pub of_ahead : {x : ℕ} (e : ℕ) (l : List ℕ) → Mem x (ahead e l) → Mem x l
of_ahead e [] = λ m. m
of_ahead {x} e (y ∷ l) =
    pick_ind (eqb y e) [] (y ∷ ahead e l) (λ r. Mem x r → Mem x (y ∷ l)) (λ _ m. absurd (Memᴰ.not-nil m))
    (λ _ m. ⊎_elim (λ q. Memᴰ.head q) (λ k. Memᴰ.tail (of_ahead e l k)) (Memᴰ.cases_cons m))

pub parted : {x : ℕ} (e : ℕ) (l : List ℕ) → Mem x l → (x ≡ e → ⊥) → Mem x (ahead e l) ⊎ Mem x (after e l)
parted e [] m d = absurd (Memᴰ.not-nil m)
parted {x} e (y ∷ l) m d = at (eqb y e) refl (λ k. parted e l k d)
  where
    at : (b : Bool) → eqb y e ≡ b → (Mem x l → Mem x (ahead e l) ⊎ Mem x (after e l))
        → Mem x (pick b [] (y ∷ ahead e l)) ⊎ Mem x (pick b l (after e l))
    at true q rest = ⊎_elim (λ (p : x ≡ y). absurd (d (p ∙ eqb-true y e q))) inr (Memᴰ.cases_cons m)
    at false q rest =
        ⊎_elim (λ p. inl (Memᴰ.head p)) (λ k. ⊎_elim (λ n. inl (Memᴰ.tail n)) inr (rest k))
        (Memᴰ.cases_cons m)

-- ---- the first unvisited link
pub first_found : (st : List ℕ) (x : ℕ) (l : List ℕ) → is_unvisited st x ≡ true → first_unvisited st (x ∷ l) ≡ Some x
first_found st x l o = rw o

pub first_later : (st : List ℕ) (x : ℕ) (l : List ℕ) → is_unvisited st x ≡ false
    → first_unvisited st (x ∷ l) ≡ first_unvisited st l
first_later st x l n = rw n
