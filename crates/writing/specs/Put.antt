-- A list written over a part of another, and how writings join: what every function that writes into a lent buffer promises.
use Rattle.std.specs.Prelude.{◌≡◌, ℕ, ◌+◌, ◌≤◌, ◌<◌, take, set}
use Rattle.std.proofs.Math.Path.{sym, ap}
use Rattle.std.proofs.Common.{◌∙◌, arith, add-zero, add_assoc, length-drop, take-append-drop}
use mathlib.Core.List.{List, [], ◌∷◌, ◌++◌, append_assoc}
use Rattle.std.proofs.Math.Numerals.{add-one}
use Rattle.std.proofs.Math.ListN.{length, drop, length-append, length-take}
use Rattle.std.proofs.Math.Seq.{set_split, take_at, drop_at, drop-drop}

-- l with the elements of t from index i on
unfoldable pub put_at : {A : Type 0} → List A → ℕ → List A → List A
put_at l i t = take i l ++ (t ++ drop (i + length t) l)

-- what is written from index 0 on
abbrev pub at_front : {A : Type 0} → List A → List A → List A
at_front t l = put_at l 0 t

module _ {A : Type 0} where
  pub length_put : (l : List A) (i : ℕ) (t : List A) → i + length t ≤ length l → length (put_at l i t) ≡ length l
  unfolding put_at
  length_put l i t h = simp (length-append, length-take, length-drop) (omega arith)

  pub put_none : (l : List A) (i : ℕ) → put_at l i [] ≡ l
  unfolding put_at
  put_none l i = rw (add-zero, take-append-drop)

  take_put : (l : List A) (i : ℕ) (t : List A) → i + length t ≤ length l → take (i + length t) (put_at l i t) ≡ take i l ++ t
  unfolding put_at
  take_put l i t h =
      ap (take (i + length t)) (sym (append_assoc (take i l) t (drop (i + length t) l)))
      ∙ take_at (take i l ++ t) (drop (i + length t) l) (i + length t)
      (simp (length-append, length-take) (omega arith))

  drop_put : (l : List A) (i k : ℕ) (t : List A) → i + length t ≤ length l → drop (i + length t + k) (put_at l i t) ≡ drop (i + length t + k) l
  unfolding put_at
  drop_put l i k t h =
      sym (drop-drop k (i + length t) (take i l ++ (t ++ drop (i + length t) l)))
      ∙ ap (drop k) (ap (drop (i + length t)) (sym (append_assoc (take i l) t (drop (i + length t) l)))
      ∙ drop_at (take i l ++ t) (drop (i + length t) l) (i + length t) (simp (length-append, length-take) (omega arith)))
      ∙ drop-drop k (i + length t) l

  joined : (l l' : List A) (i : ℕ) (t u : List A)
      → take (i + length t) l' ≡ take i l ++ t
      → drop (i + length t + length u) l' ≡ drop (i + length t + length u) l
      → put_at l' (i + length t) u ≡ put_at l i (t ++ u)
  unfolding put_at
  joined l l' i t u p q = rw (p, q, append_assoc, append_assoc t u, length-append, ← add_assoc)

  -- what is put right after t joins it
  pub put_put : (l : List A) (i : ℕ) (t u : List A) → i + length t ≤ length l → put_at (put_at l i t) (i + length t) u ≡ put_at l i (t ++ u)
  put_put l i t u h = joined l (put_at l i t) i t u (take_put l i t h) (drop_put l i (length u) t h)

  -- a store is a put of one element
  pub set_put : (l : List A) (i : ℕ) (a : A) → i < length l → set l i a ≡ put_at l i (a ∷ [])
  unfolding put_at
  set_put l i a h = set_split l i a h ∙ rw add-one

  -- and so does one element that is stored there
  pub put_set : (l : List A) (i : ℕ) (t : List A) (a : A) → i + length t < length l → set (put_at l i t) (i + length t) a ≡ put_at l i (t ++ (a ∷ []))
  put_set l i t a h =
      set_put (put_at l i t) (i + length t) a (omega (arith, length_put l i t (omega arith)))
      ∙ put_put l i t (a ∷ []) (omega arith)

  -- a list is put element by element
  pub put_cons : (l : List A) (i : ℕ) (a : A) (t : List A) → i < length l → put_at (set l i a) (i + 1) t ≡ put_at l i (a ∷ t)
  put_cons l i a t h = ap (λ (m : List A). put_at m (i + 1) t) (set_put l i a h) ∙ put_put l i (a ∷ []) t (omega arith)

  -- a list at the front of another fits it, and cut off it is itself
  pub front_long : (t l : List A) → length t ≤ length (at_front t l)
  unfolding put_at
  front_long t l = omega (arith, length-append t (drop (0 + length t) l))

  pub front_cut : (n : ℕ) (t l : List A) → length t ≡ n → take n (at_front t l) ≡ t
  unfolding put_at
  front_cut n t l e = take_at t (drop (0 + length t) l) n e
