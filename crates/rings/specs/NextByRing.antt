-- Rule 3 by the ring: at a `Cross` the next link is the first
-- unvisited one of the ring, read round from the link just walked.
use Rattle.std.specs.Prelude.{ℕ, ◌≡◌, refl, Bool, true, false, List, [], ◌∷◌, get_or, Some, None}
use Rattle.std.proofs.Common.{arith, sym, ap, ◌∙◌, subst, ⊎_elim}
use Rattle.std.proofs.Math.Decide.{ℕ_discrete}
use mathlib.Core.List.Memᴰ
use Rattle.laws.specs.Test.{Is, true_is, true≢false}
use Rattle.graph.specs.Graph.{Graph}
use Rattle.next.specs.Next.{is_unvisited, best, first_met}
use Rattle.next.specs.States.{unvisited_read}
use Rattle.next.specs.Choice.{Mem, first_met_lem}
use Rattle.rings.specs.Sorted.{Sorted}
use Rattle.rings.specs.Rotation.{first_unvisited, first_found, first_later}

-- o holds the unvisited links of l
pub record Open (st o l : List ℕ) : Type 0 where
  pub of : (x : ℕ) → Mem x o → Mem x l × (is_unvisited st x ≡ true)
  pub into : (x : ℕ) → Mem x l → is_unvisited st x ≡ true → Mem x o

-- ---- the first met of some links is the first of them in a list that is sorted so
module _ (st : List ℕ) (lt : ℕ → ℕ → Bool) (irr : (x : ℕ) → Is (lt x x) → ⊥)
    (trans : (x y z : ℕ) → Is (lt x y) → Is (lt y z) → Is (lt x z)) where
  none : (o : List ℕ) → ((x : ℕ) → Mem x o → ⊥) → first_met lt o ≡ None
  none [] h = refl
  none (x ∷ o) h = absurd (h x (Memᴰ.head refl))

  -- x is the first met where all others are met after it
  one : (o : List ℕ) (x : ℕ) → Mem x o → ((y : ℕ) → Mem y o → (y ≡ x → ⊥) → lt x y ≡ true) → first_met lt o ≡ Some x
  one [] x m h = absurd (Memᴰ.not-nil m)
  one (z ∷ o) x m h = ap Some (by (ℕ_discrete f x))
    where
      f : ℕ
      f = best lt z o

      is_first : Mem f (z ∷ o) × ((y : ℕ) → Mem y (z ∷ o) → Is (lt y f) → ⊥)
      is_first = first_met_lem lt irr trans (z ∷ o) f refl

      by : Dec (f ≡ x) → f ≡ x
      by (yes q) = q
      by (no d) = absurd (is_first.1 x m (true_is (h f is_first.0 d)))

  pub first_in : (o l : List ℕ) → Sorted (λ x y. lt x y ≡ true) l → Open st o l → first_met lt o ≡ first_unvisited st l
  first_in o [] s h = none o (λ x m. Memᴰ.not-nil (h.of x m).0)
  first_in o (x ∷ l) s h = at (is_unvisited st x) refl (first_in o l s.1)
    where
      head_met : is_unvisited st x ≡ true → first_met lt o ≡ Some x
      head_met t = one o x (h.into x (Memᴰ.head refl) t)
          (λ y m d. ⊎_elim (λ q. absurd (d q)) (λ k. s.0 y k) (Memᴰ.cases_cons (h.of y m).0))

      rest : is_unvisited st x ≡ false → Open st o l
      rest n = record {
        of = λ y m. let k = h.of y m in (
          ⊎_elim (λ (q : y ≡ x). absurd (true≢false k.1 (subst (λ z. is_unvisited st z ≡ false) (sym q) n)))
              (λ i. i) (Memᴰ.cases_cons k.0),
          k.1,
        );
        into = λ y m t. h.into y (Memᴰ.tail m) t;
      }

      at : (b : Bool) → is_unvisited st x ≡ b → (Open st o l → first_met lt o ≡ first_unvisited st l)
          → first_met lt o ≡ first_unvisited st (x ∷ l)
      at true t ih = head_met t ∙ sym (first_found st x l t)
      at false n ih = ih (rest n) ∙ sym (first_later st x l n)

-- ---- the law
-- what is unvisited at node v was not skipped at entry: a skipped link stays skipped
abbrev pub Marked : Graph → List ℕ → ℕ → List ℕ → Type 0
Marked g state v st = (k : ℕ) → Mem k (g.entries v) → is_unvisited st k ≡ true → get_or state k 0 ≡ 1 → ⊥

-- it is so where every unvisited link was unvisited at entry; fewer unvisited links leave it so
pub marked_entry : (g : Graph) (state : List ℕ) (v : ℕ) (st : List ℕ)
    → ((k : ℕ) → is_unvisited st k ≡ true → is_unvisited state k ≡ true) → Marked g state v st
marked_entry g state v st h k m o e = zero_one (sym (unvisited_read state k (h k o)) ∙ e)
  where
    zero_one : ◌≡◌ {A = ℕ} 0 1 → ⊥
    zero_one e = omega arith
