-- The mark of a ring's last end, while the ring is made: where one more end is put into it.
use Rattle.std.specs.Prelude.{ℕ, ◌≡◌, refl, Bool, false, List, [], ◌∷◌, ◌++◌}
use Rattle.std.proofs.Common.{sym, ◌∙◌, subst, ⊎_elim}
use mathlib.Core.List.Memᴰ
use Rattle.next.specs.Choice.{Mem}
use Rattle.rings.specs.Climb.{LastAlone, AtLast}

-- a test fails at each of some links
abbrev NoneOf : (ℕ → Bool) → List ℕ → Type 0
NoneOf test l = (x : ℕ) → Mem x l → test x ≡ false

module _ (test : ℕ → Bool) where
  alone_join : (p : ℕ) (s : List ℕ) (x : ℕ) (t : List ℕ) → NoneOf test (p ∷ s) → LastAlone test x t
      → LastAlone test p (s ++ (x ∷ t))
  alone_join p [] x t n a = (n p (Memᴰ.head refl), a)
  alone_join p (y ∷ s) x t n a = (n p (Memᴰ.head refl), alone_join y s x t (λ z m. n z (Memᴰ.tail m)) a)

  none_more : (p : ℕ) (s : List ℕ) → test p ≡ false → NoneOf test s → NoneOf test (p ∷ s)
  none_more p s e n y m = ⊎_elim (λ q. subst (λ z. test z ≡ false) (sym q) e) (n y) (Memᴰ.cases_cons m)

  alone_part : (p : ℕ) (s : List ℕ) (x : ℕ) (t : List ℕ) → LastAlone test p (s ++ (x ∷ t))
      → NoneOf test (p ∷ s) × LastAlone test x t
  alone_part p [] x t a = (
    λ y m. ⊎_elim (λ q. subst (λ z. test z ≡ false) (sym q) a.0) (λ k. absurd (Memᴰ.not-nil k))
        (Memᴰ.cases_cons m),
    a.1,
  )
  alone_part p (y ∷ s) x t a = let r = alone_part y s x t a.1 in (none_more p (y ∷ s) a.0 r.0, r.1)

-- ---- where q is put into the ring, and the other links are marked as before
abbrev Kept : (ℕ → Bool) → (ℕ → Bool) → List ℕ → Type 0
Kept test test' l = (x : ℕ) → Mem x l → test' x ≡ test x

module _ (test test' : ℕ → Bool) where
  alone_kept : (p : ℕ) (l : List ℕ) → Kept test test' (p ∷ l) → LastAlone test p l → LastAlone test' p l
  alone_kept p [] k a = k p (Memᴰ.head refl) ∙ a
  alone_kept p (x ∷ l) k a = (k p (Memᴰ.head refl) ∙ a.0, alone_kept x l (λ y m. k y (Memᴰ.tail m)) a.1)

  none_kept : (l : List ℕ) → Kept test test' l → NoneOf test l → NoneOf test' l
  none_kept l k n x m = k x m ∙ n x m

  -- before the first
  pub last_before : (q a : ℕ) (l : List ℕ) → AtLast test (a ∷ l) → test' q ≡ false → Kept test test' (a ∷ l)
      → AtLast test' (q ∷ (a ∷ l))
  last_before q a l w n k = (n, alone_kept a l k w)

  -- between two others
  pub last_between : (q : ℕ) (s : List ℕ) (r a : ℕ) (t : List ℕ) → AtLast test (s ++ (r ∷ (a ∷ t))) → test' q ≡ false
      → Kept test test' (s ++ (r ∷ (a ∷ t))) → AtLast test' (s ++ (r ∷ (q ∷ (a ∷ t))))
  last_between q [] r a t w n k = let v = alone_kept r (a ∷ t) k w in (v.0, (n, v.1))
  last_between q (p ∷ s) r a t w n k =
      let u = alone_part test p s r (a ∷ t) w in
      let v = alone_kept r (a ∷ t) (λ x m. k x (Memᴰ.tail (Memᴰ.append_right s m))) u.1 in
      alone_join test' p s r (q ∷ (a ∷ t)) (none_kept (p ∷ s)
      (λ x m. k x (Memᴰ.append_left {s = p ∷ s} (r ∷ (a ∷ t)) m)) u.0)
      (v.0, (n, v.1))
