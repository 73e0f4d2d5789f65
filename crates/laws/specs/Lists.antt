-- Lists beyond the kit's library: what a store leaves at every place, a map that a loop makes from an index on, members and their places.
use Prim.Native.Nat.{ℕ, zero, suc, ◌+◌, ◌-◌, ◌≤◌, ◌<◌, zero-le, suc-le-suc}
use Rattle.std.proofs.Common.{not-suc-le-zero, le_of_suc-le-suc, add-one, arith, sym, ◌∙◌, ⊎_elim, drop_of_length-le, get_or-set_same, get_or-set_other}
use Rattle.std.proofs.Common.{get_or-append-add, get_or-drop, take_all}
use Rattle.std.proofs.Math.Decide.{ℕ_discrete}
use Rattle.std.specs.Prelude.{◌≡◌, length, get_or, set, take, drop, replicate}
use Rattle.std.proofs.Math.Path.{refl, ap}
use mathlib.Core.List.Memᴰ
use mathlib.Core.List.{List, [], ◌∷◌, ◌++◌, map, append-nil, Memᴰ}
use Rattle.std.proofs.Math.ListN.{get_or-append}

-- ---- a list that a loop fills by rising index, read by place
module _ {A : Type 0} (d : A) where
  -- what is stored at i extends what holds below i
  pub put_below : (f : ℕ → A) (l : List A) (i : ℕ) (v : A) → i < length l → v ≡ f i → ((j : ℕ) → j < i → get_or l j d ≡ f j)
      → (j : ℕ) → j < i + 1 → get_or (set l i v) j d ≡ f j
  put_below f l i v h e k j m = go (ℕ_discrete j i)
    where
      go : Dec (j ≡ i) → get_or (set l i v) j d ≡ f j
      go (yes p) = rw p (get_or-set_same l i v d h ∙ e)
      go (no n) = get_or-set_other l i j v d n ∙ k j (omega arith)

  -- and leaves what holds above i
  pub put_above : (f : ℕ → A) (l : List A) (i : ℕ) (v : A) → ((j : ℕ) → i ≤ j → get_or l j d ≡ f j)
      → (j : ℕ) → i + 1 ≤ j → get_or (set l i v) j d ≡ f j
  put_above f l i v k j m = get_or-set_other l i j v d (λ p. omega arith) ∙ k j (omega arith)

-- ---- f at each element from index i on: what a loop that rewrites a list still has to do
abbrev pub map_from : {A : Type 0} → (A → A) → ℕ → List A → List A
map_from f i l = take i l ++ map f (drop i l)

module _ {A : Type 0} (f : A → A) where
  map_suc : (i : ℕ) (l : List A) (d y : A) → i < length l → y ≡ f (get_or l i d) → map_from f (suc i) (set l i y) ≡ map_from f i l
  map_suc i [] d y h e = absurd (not-suc-le-zero h)
  map_suc zero (x ∷ xs) d y h e = ap (λ (z : A). z ∷ map f xs) e
  map_suc (suc i) (x ∷ xs) d y h e = ap (λ (r : List A). x ∷ r) (map_suc i xs d y (le_of_suc-le-suc h) e)

  -- a turn that stores
  pub map_more : (i : ℕ) (l : List A) (d y : A) → i < length l → y ≡ f (get_or l i d) → map_from f (i + 1) (set l i y) ≡ map_from f i l
  map_more i l d y h e = rw (add-one i) (map_suc i l d y h e)

  -- past the end
  pub map_end : (i : ℕ) (l : List A) → length l ≤ i → map_from f i l ≡ l
  map_end i l h = rw (take_all i l h, drop_of_length-le l h) (append-nil l)

  -- a map that leaves every element leaves the list
  pub map_same : (l : List A) (d : A) → ((i : ℕ) → i < length l → f (get_or l i d) ≡ get_or l i d) → map f l ≡ l
  map_same [] d h = refl
  map_same (x ∷ xs) d h = rw (h 0 (omega arith)) (ap (λ (r : List A). x ∷ r) (map_same xs d (λ i k. h (suc i) (suc-le-suc k))))

-- a list all of one element goes by the length alone
pub map_const : {A B : Type 0} (z : B) (l : List A) → map (λ _. z) l ≡ replicate (length l) z
map_const z [] = refl
map_const {B = B} z (x ∷ xs) = ap (λ (r : List B). z ∷ r) (map_const z xs)

-- ---- a list of a rule's values
unfoldable pub tabulate : {A : Type 0} → (ℕ → A) → ℕ → List A
tabulate f zero = []
tabulate f (suc n) = f zero ∷ tabulate (λ k. f (suc k)) n

module _ {A : Type 0} where
  pub tabulate_length : (f : ℕ → A) (n : ℕ) → length (tabulate f n) ≡ n
  unfolding tabulate
  tabulate_length f zero = refl
  tabulate_length f (suc n) = ap suc (tabulate_length (λ k. f (suc k)) n)

  pub tabulate_at : (d : A) (f : ℕ → A) (n i : ℕ) → i < n → get_or (tabulate f n) i d ≡ f i
  unfolding tabulate
  tabulate_at d f zero i h = absurd (not-suc-le-zero h)
  tabulate_at d f (suc n) zero h = refl
  tabulate_at d f (suc n) (suc i) h = tabulate_at d (λ k. f (suc k)) n i (omega arith)

  pub tabulate_past : (d : A) (f : ℕ → A) (n i : ℕ) → n ≤ i → get_or (tabulate f n) i d ≡ d
  unfolding tabulate
  tabulate_past d f zero i h = refl
  tabulate_past d f (suc n) zero h = absurd (not-suc-le-zero h)
  tabulate_past d f (suc n) (suc i) h = tabulate_past d (λ k. f (suc k)) n i (omega arith)

-- ---- a list written over the front of a buffer, which keeps its tail
abbrev pub over_front : {A : Type 0} → List A → List A → List A
over_front front buffer = front ++ drop (length front) buffer

-- a rule's values there: they stand in front, and the rest is as it was
module _ {A : Type 0} (d : A) (f : ℕ → A) (n : ℕ) (buffer : List A) where
  pub front_at : (i : ℕ) → i < n → get_or (over_front (tabulate f n) buffer) i d ≡ f i
  front_at i h = get_or-append (tabulate f n) _ d i (rw (tabulate_length f n) h) ∙ tabulate_at d f n i h

  pub front_rest : (i : ℕ) → n ≤ i → get_or (over_front (tabulate f n) buffer) i d ≡ get_or buffer i d
  front_rest i h =
      let m = tabulate_length f n in
      let e : length (tabulate f n) + (i - n) ≡ i = omega (arith, m) in
      ap (λ j. get_or (over_front (tabulate f n) buffer) j d) (sym e) ∙ get_or-append-add (tabulate f n) (drop (length (tabulate f n)) buffer) (i - n) d
      ∙ get_or-drop (length (tabulate f n)) buffer (i - n) d ∙ ap (λ j. get_or buffer j d) e

-- ---- a list, and as many of one element after it as make a length
abbrev pub padded : {A : Type 0} → A → List A → ℕ → List A
padded z l n = l ++ replicate (n - length l) z

-- ---- members, and the places that they stand at
pub record Place {A : Type 0} (d x : A) (l : List A) : Type 0 where
  pub place : ℕ
  pub within : place < length l
  pub here : get_or l place d ≡ x

module _ {A : Type 0} (d : A) where
  next : {x y : A} {l : List A} → Place d x l → Place d x (y ∷ l)
  next p = record { place = suc p.place; within = suc-le-suc p.within; here = p.here }

  pub place_of : {x : A} (l : List A) → Memᴰ x l → Place d x l
  place_of [] m = absurd (Memᴰ.not-nil m)
  place_of {x} (y ∷ l) m =
      ⊎_elim (λ (e : x ≡ y). record { place = 0; within = suc-le-suc zero-le; here = sym e }) (λ (n : Memᴰ x l). next (place_of l n))
      (Memᴰ.cases_cons m)

  pub member : (l : List A) (i : ℕ) → i < length l → Memᴰ (get_or l i d) l
  member [] i h = absurd (not-suc-le-zero h)
  member (y ∷ l) zero h = Memᴰ.head refl
  member (y ∷ l) (suc i) h = Memᴰ.tail (member l i (le_of_suc-le-suc h))
