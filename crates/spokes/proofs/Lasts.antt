-- The last of a list: where it stands, a ring linked after it, and the mark that it alone bears.
use Prim.Native.Nat.{ℕ, suc, ◌+◌, ◌-◌, ◌<◌}
use native.Mathlib.Nat.{not-suc-le-zero}
use native.Mathlib.Numerals.{add-one}
use native.Mathlib.Omega.{arith}
use mathlib.Core.Path.{◌≡◌, refl, sym, ap, ◌∙◌, subst}
use mathlib.Core.Bool.{Bool, true, false}
use mathlib.Core.List.Memᴰ
use mathlib.Core.List.{List, [], ◌∷◌, ◌++◌, append_assoc}
use lib.ListN.{length, get_or, take, drop}
use lib.Seq.{split_at, drop-cons}
use Rattle.laws.specs.Test.{true≢false}
use Rattle.graph.specs.Graph.{Graph}
use Rattle.next.specs.Choice.{Mem}
use Rattle.rings.specs.Sorted.{Once}
use Rattle.rings.specs.Linked.{AllRound, Linked}
use Rattle.rings.specs.Linking.{round_between}
use Rattle.rings.specs.LinkOne.{Put, put_second, put_last, linked_turned}
use Rattle.rings.specs.Climb.{LastAlone, AtLast}
use Rattle.spokes.specs.Entries.{last_of}

-- ---- where it stands
pub last_member : (x : ℕ) (l : List ℕ) → Mem (last_of x l) (x ∷ l)
last_member x [] = Memᴰ.head refl
last_member x (y ∷ l) = Memᴰ.tail (last_member y l)

pub last_behind : (d : ℕ) (s : List ℕ) (x : ℕ) (t : List ℕ) → last_of d (s ++ (x ∷ t)) ≡ last_of x t
last_behind d [] x t = refl
last_behind d (y ∷ s) x t = last_behind y s x t

last_place : (x : ℕ) (l : List ℕ) → get_or (x ∷ l) (length l) 0 ≡ last_of x l
last_place x [] = refl
last_place x (y ∷ l) = last_place y l

pub last_at : (l : List ℕ) → 0 < length l → get_or l (length l - 1) 0 ≡ last_of 0 l
last_at [] h = absurd (not-suc-le-zero h)
last_at (x ∷ l) h = subst (λ i. get_or (x ∷ l) i 0 ≡ last_of x l) (less_one (length l)) (last_place x l)
  where
    less_one : (n : ℕ) → n ≡ suc n - 1
    less_one n = omega arith

-- the first is the same whatever follows it
pub head_before : (s : List ℕ) (x : ℕ) (t u : List ℕ) → get_or (s ++ (x ∷ t)) 0 0 ≡ get_or (s ++ (x ∷ u)) 0 0
head_before [] x t u = refl
head_before (y ∷ s) x t u = refl

-- all but the last
abbrev init_of : ℕ → List ℕ → List ℕ
init_of x [] = []
init_of x (y ∷ l) = x ∷ init_of y l

init_last : (x : ℕ) (l : List ℕ) → x ∷ l ≡ init_of x l ++ (last_of x l ∷ [])
init_last x [] = refl
init_last x (y ∷ l) = ap (λ (r : List ℕ). x ∷ r) (init_last y l)

-- ---- two that follow one another
pub split_two : (l : List ℕ) (i : ℕ) → i + 1 < length l → l ≡ take i l ++ (get_or l i 0 ∷ (get_or l (i + 1) 0 ∷ drop (suc (i + 1)) l))
split_two l i h = split_at l i 0 (omega arith) ∙ ap (λ r. take i l ++ (get_or l i 0 ∷ r)) next
  where
    next : drop (suc i) l ≡ get_or l (i + 1) 0 ∷ drop (suc (i + 1)) l
    next = subst (λ n. drop n l ≡ get_or l (i + 1) 0 ∷ drop (suc (i + 1)) l) (add-one i) (drop-cons l (i + 1) 0 h)

pub neighbours : (P : ℕ → ℕ → Type 0) (l : List ℕ) → AllRound P l → (i : ℕ) → i + 1 < length l → P (get_or l i 0) (get_or l (i + 1) 0)
neighbours P l a i h =
    round_between P (take i l) (get_or l i 0) (get_or l (i + 1) 0) (drop (suc (i + 1)) l) (subst (AllRound P) (split_two l i h) a)

-- ---- one more end is put after the last
module _ {g : Graph} {v q : ℕ} {nxt prv nxt' prv' : ℕ → ℕ} where
  pub put_behind : (a : ℕ) (t : List ℕ) → Once (a ∷ t) → Linked g v (a ∷ t) nxt prv → Put g v (a ∷ t) (last_of a t) q a nxt prv nxt' prv'
      → Linked g v ((a ∷ t) ++ (q ∷ [])) nxt' prv'
  put_behind a [] o k p = put_second p
  put_behind a (y ∷ t) o k p =
      let r : ℕ = last_of y t in
      let m : List ℕ = init_of y t in
      let e : y ∷ t ≡ m ++ (r ∷ []) = init_last y t in
      subst (λ l. Linked g v (a ∷ l) nxt' prv') (sym (append_assoc m (r ∷ []) (q ∷ [])) ∙ ap (λ l. l ++ (q ∷ [])) (sym e))
      (put_last r m (subst (λ l. Once (a ∷ l)) e o) (subst (λ l. Linked g v (a ∷ l) nxt prv) e k)
      (subst (λ l. Put g v (a ∷ l) r q a nxt prv nxt' prv') e p))

  -- and so before the first
  pub put_ahead : (a : ℕ) (t : List ℕ) → Once (a ∷ t) → Linked g v (a ∷ t) nxt prv → Put g v (a ∷ t) (last_of a t) q a nxt prv nxt' prv'
      → Linked g v (q ∷ (a ∷ t)) nxt' prv'
  put_ahead a t o k p = linked_turned (a ∷ t) (q ∷ []) (put_behind a t o k p)

-- ---- the mark
module _ (test : ℕ → Bool) where
  -- the last bears it
  pub last_marked : (p : ℕ) (t : List ℕ) → LastAlone test p t → test (last_of p t) ≡ true
  last_marked p [] a = a
  last_marked p (x ∷ t) a = last_marked x t a.1

  -- and no other
  alone_unmarked : (p : ℕ) (s : List ℕ) (r a : ℕ) (t : List ℕ) → LastAlone test p (s ++ (r ∷ (a ∷ t))) → test r ≡ false
  alone_unmarked p [] r a t w = w.1.0
  alone_unmarked p (x ∷ s) r a t w = alone_unmarked x s r a t w.1

  pub inner_unmarked : (s : List ℕ) (r a : ℕ) (t : List ℕ) → AtLast test (s ++ (r ∷ (a ∷ t))) → test r ≡ false
  inner_unmarked [] r a t w = w.0
  inner_unmarked (p ∷ s) r a t w = alone_unmarked p s r a t w

-- the mark goes over to one more, put after the last
pub mark_behind : (test test' : ℕ → Bool) (q p : ℕ) (t : List ℕ) (r : ℕ) → last_of p t ≡ r → LastAlone test p t
    → ((x : ℕ) → Mem x (p ∷ t) → (x ≡ r → ⊥) → test' x ≡ test x) → test' r ≡ false → test' q ≡ true → LastAlone test' p (t ++ (q ∷ []))
mark_behind test test' q p [] r e a k n m = (subst (λ x. test' x ≡ false) (sym e) n, m)
mark_behind test test' q p (x ∷ t) r e a k n m = (
  k p (Memᴰ.head refl) (λ z. true≢false (subst (λ y. test y ≡ true) e (last_marked test x t a.1))
      (subst (λ y. test y ≡ false) z a.0)) ∙ a.0,
  mark_behind test test' q x t r e a.1 (λ y i. k y (Memᴰ.tail i)) n m,
)
