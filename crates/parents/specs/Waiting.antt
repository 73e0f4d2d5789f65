-- Giving owners hole by hole: where the contour under each hole has its owner from the start or is gone through before it, it
-- stops at the first hole under which there is none, and nowhere else.
use Prim.Native.Nat.{ℕ, zero, suc, ◌-◌, ◌<◌}
use Rattle.std.proofs.Common.{arith, not-suc-le-zero, sym, ap, ◌∙◌, inl, inr, length-set, get_or-set_same, get_or-set_other, ne_eqb, lt-ltb, le-ltb}
use Rattle.std.proofs.Math.Decide.{dec_le, ℕ_discrete}
use Rattle.std.specs.Prelude.{◌≡◌, ◌⊎◌, Bool, length, get_or, set, eqb, ltb}
use Rattle.std.proofs.Math.Path.{refl}
use mathlib.Core.List.{List, [], ◌∷◌}
use Rattle.laws.specs.Test.{pick}
use Rattle.laws.specs.Lowest.{lowest}
use Rattle.table.specs.Table.{dropped_owner}
use Rattle.owners.specs.Owners.{give_each}
use Rattle.turn.specs.Refusals.{Checked, refused, no_fault}
use Rattle.turn.specs.declared.Reason.TheVariants.{NoParent}

-- contour d has its owner
abbrev pub Owns : List ℕ → ℕ → Type 0
Owns owners d = get_or owners d 0 ≡ dropped_owner → ⊥

module _ (under : ℕ → ℕ) where
  -- contour d has its owner once the holes before place i of the list are gone through
  abbrev pub Known : List ℕ → List ℕ → ℕ → ℕ → Type 0
  Known owners l i d = (Owns owners d) ⊎ ((j : ℕ) × (j < i) × (get_or l j 0 ≡ d))

  -- under every hole of the list is nothing, or a contour that has its owner by then
  abbrev pub Ready : List ℕ → List ℕ → Type 0
  Ready owners l = (i : ℕ) → i < length l → (d : ℕ) → under (get_or l i 0) ≡ suc d → Known owners l i d

  -- nothing is under the hole at place i
  abbrev pub bare : List ℕ → ℕ → Bool
  bare l i = eqb (under (get_or l i 0)) 0

  -- the answer by the first such place
  abbrev pub stops_at : List ℕ → ℕ → Checked
  stops_at l i = pick (ltb i (length l)) (refused NoParent (get_or l i 0)) no_fault

  -- ---- one hole given its owner
  module _ (owners : List ℕ) (c p : ℕ) (h : c < length owners) (own : p ≡ dropped_owner → ⊥) where
    kept : (d : ℕ) → Owns owners d → Owns (set owners c p) d
    kept d o = go (ℕ_discrete d c)
      where
        go : Dec (d ≡ c) → Owns (set owners c p) d
        go (yes e) q = own (sym (ap (λ (x : ℕ). get_or (set owners c p) x 0) e ∙ get_or-set_same owners c p 0 h) ∙ q)
        go (no n) q = o (sym (get_or-set_other owners c d p 0 n) ∙ q)

    new : (d : ℕ) → c ≡ d → Owns (set owners c p) d
    new d e q = own (sym (ap (λ (x : ℕ). get_or (set owners c p) x 0) (sym e) ∙ get_or-set_same owners c p 0 h) ∙ q)

    ready_on : (l : List ℕ) → Ready owners (c ∷ l) → Ready (set owners c p) l
    ready_on l r i m d e = go (r (suc i) (omega arith) d e)
      where
        at : (j : ℕ) → j < suc i → get_or (c ∷ l) j 0 ≡ d → Known (set owners c p) l i d
        at zero k q = inl (new d q)
        at (suc j) k q = inr (j, omega arith, q)

        go : Known owners (c ∷ l) (suc i) d → Known (set owners c p) l i d
        go (inl o) = inl (kept d o)
        go (inr (j, k, q)) = at j k q

  -- ---- all of them
  next_place : (c : ℕ) (l : List ℕ) (i : ℕ) → stops_at (c ∷ l) (suc i) ≡ stops_at l i
  next_place c l i = rw (same i (length l))
    where
      same : (i n : ℕ) → ltb (suc i) (suc n) ≡ ltb i n
      same i n = go (dec_le (suc i) n)
        where
          go : Dec (i < n) → ltb (suc i) (suc n) ≡ ltb i n
          go (yes h) = lt-ltb (suc i) (suc n) (omega arith) ∙ sym (lt-ltb i n h)
          go (no h) = le-ltb (suc i) (suc n) (omega arith) ∙ sym (le-ltb i n (omega arith))

  pub stops : (l owners : List ℕ) → ((i : ℕ) → i < length l → get_or l i 0 < length owners) → Ready owners l
      → (give_each under l owners).answer ≡ stops_at l (lowest (bare l) (length l))
  unfolding give_each lowest
  stops [] owners h r = refl
  stops (c ∷ l) owners h r = go (under c) refl (λ p own. stops l (set owners c p)
      (λ i m. rw (length-set owners c p) (h (suc i) (omega arith))) (ready_on owners c p (h zero (omega arith)) own l r))
    where
      rest : ℕ → Checked
      rest p = (give_each under l (set owners c p)).answer

      first_owned : (d : ℕ) → Known owners (c ∷ l) zero d → Owns owners d
      first_owned d (inl o) = o
      first_owned d (inr (j, k, q)) = absurd (not-suc-le-zero k)

      go : (u : ℕ) → under c ≡ u → ((p : ℕ) → (p ≡ dropped_owner → ⊥) → rest p ≡ stops_at l (lowest (bare l) (length l)))
          → (give_each under (c ∷ l) owners).answer ≡ stops_at (c ∷ l) (lowest (bare (c ∷ l)) (suc (length l)))
      go zero e f = rw (e, lt-ltb 0 (suc (length l)) (omega arith))
      go (suc d) e f =
          let o = first_owned d (r zero (omega arith) d e) in
          let q : suc d - 1 ≡ d = omega arith in
          rw (e, ne_eqb (suc d) 0 (λ z. omega arith), q, ne_eqb (get_or owners d 0) dropped_owner o) (f (get_or owners d 0) o ∙ sym (next_place c l _))
