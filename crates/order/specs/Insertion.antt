-- Insertion into a list and the order that it makes: an order holds what was put in, each as often, and is in order
-- where `first` is a strict order.
use Rattle.std.specs.Prelude.{ℕ, zero, suc, ◌+◌, ◌-◌, ◌≤◌, ◌<◌, ◌≡◌, refl, Bool, true, false, List, [], ◌∷◌, eqb, length, get_or, take, drop}
use Rattle.std.proofs.Common.{sym, ap, ◌∙◌, subst, arith, not-suc-le-zero, length-append, length-drop, take-append-drop, length-take-le, get_or-take}
use Rattle.std.proofs.Common.{get_or-drop, get_or-append-add, take-suc}
use Rattle.std.proofs.Math.Decide.{dec_le, ℕ_discrete}
use Rattle.std.proofs.Math.ListN.{get_or-append}
use Rattle.std.proofs.lemmas.List.{get_or_at}
use Rattle.std.proofs.Math.Seq.{take-length}
use Rattle.laws.specs.Test.{pick, pick_ind}
use Rattle.laws.specs.Count.{count, count_append, count_snoc}
use Rattle.table.specs.Fronts.{KeptFrom}
use Rattle.order.specs.HoleOrder.{slot, insert_at, inserted, sorted}

-- c stands at place p among m; what was from p on has moved by one
pub record Inserted (old new : List ℕ) (m p c : ℕ) : Type 0 where
  pub within : p ≤ m
  pub below : (i : ℕ) → i < p → get_or new i 0 ≡ get_or old i 0
  pub here : get_or new p 0 ≡ c
  pub above : (i : ℕ) → p ≤ i → i < m → get_or new (i + 1) 0 ≡ get_or old i 0

-- the same in a longer list, which past place m is as it was
pub record InsertedInto (old new : List ℕ) (m p c : ℕ) : Type 0 where
  pub inserted : Inserted old new m p c
  pub kept : KeptFrom 0 (m + 1) old new

-- ---- the place
pub slot_le : (test : ℕ → Bool) (n : ℕ) → slot test n ≤ n
unfolding slot
slot_le test zero = omega arith
slot_le test (suc n) = pick_ind (test n) (slot test n) (suc n) (λ (p : ℕ). p ≤ suc n) (λ _. omega (arith, slot_le test n)) (λ _. omega arith)

pub slot_same : (s t : ℕ → Bool) (n : ℕ) → ((k : ℕ) → k < n → s k ≡ t k) → slot s n ≡ slot t n
unfolding slot
slot_same s t zero h = refl
slot_same s t (suc n) h = rw (h n (omega arith), slot_same s t n (λ k l. h k (omega arith)))

-- the test passes from the place on, and fails just before it
pub slot_passes : (test : ℕ → Bool) (n k : ℕ) → slot test n ≤ k → k < n → test k ≡ true
unfolding slot
slot_passes test zero k h l = absurd (not-suc-le-zero l)
slot_passes test (suc n) k h l = go (test n) refl h (ℕ_discrete k n) (slot_passes test n k)
  where
    past : suc n ≤ k → k < suc n → ⊥
    past g l = omega arith

    go : (b : Bool) → test n ≡ b → pick b (slot test n) (suc n) ≤ k → Dec (k ≡ n) → (slot test n ≤ k → k < n → test k ≡ true) → test k ≡ true
    go true e g (yes q) r = rw q e
    go true e g (no q) r = r g (omega arith)
    go false e g d r = absurd (past g l)

pub slot_fails : (test : ℕ → Bool) (n p : ℕ) → slot test n ≡ suc p → test p ≡ false
unfolding slot
slot_fails test zero p e = absurd (none e)
  where
    none : 0 ≡ suc p → ⊥
    none e = omega arith
slot_fails test (suc n) p e = go (test n) refl e (slot_fails test n p)
  where
    last : suc n ≡ suc p → n ≡ p
    last q = omega arith

    go : (b : Bool) → test n ≡ b → pick b (slot test n) (suc n) ≡ suc p → (slot test n ≡ suc p → test p ≡ false) → test p ≡ false
    go true f q r = r q
    go false f q r = subst (λ (k : ℕ). test k ≡ false) (last q) f

-- ---- the list of the definition
module _ (p c : ℕ) (l : List ℕ) (h : p ≤ length l) where
  pub insert_is : Inserted l (insert_at p c l) (length l) p c
  insert_is = record {
    within = h;
    below = λ i k. get_or-append (take p l) (c ∷ drop p l) 0 i (omega (arith, length-take-le p l h)) ∙ get_or-take p l i 0 k;
    here = get_or_at (take p l) c (drop p l) 0 p (length-take-le p l h);
    above = after;
  }
    where
      after : (i : ℕ) → p ≤ i → i < length l → get_or (insert_at p c l) (i + 1) 0 ≡ get_or l i 0
      after i k m =
          let e : i + 1 ≡ length (take p l) + suc (i - p) = omega (arith, length-take-le p l h) in
          let f : p + (i - p) ≡ i = omega arith in
          ap (λ (j : ℕ). get_or (insert_at p c l) j 0) e
          ∙ get_or-append-add (take p l) (c ∷ drop p l) (suc (i - p)) 0
          ∙ get_or-drop p l (i - p) 0 ∙ ap (λ (j : ℕ). get_or l j 0) f

  pub insert_length : length (insert_at p c l) ≡ suc (length l)
  insert_length = omega (arith, length-append (take p l) (c ∷ drop p l), length-take-le p l h, length-drop p l)

-- two insertions at one place, of which one is the other's image
module _ (f : ℕ → ℕ) (old new old' new' : List ℕ) (m p c c' : ℕ) (a : Inserted old new m p c) (b : Inserted old' new' m p c') (e : c ≡ f c')
    (h : (i : ℕ) → i < m → get_or old i 0 ≡ f (get_or old' i 0)) where
  pub image : (i : ℕ) → i < suc m → get_or new i 0 ≡ f (get_or new' i 0)
  image i l = go (dec_le (suc i) p) (ℕ_discrete i p)
    where
      back : (i : ℕ) → p < i → i - 1 + 1 ≡ i
      back i k = omega arith

      go : Dec (i < p) → Dec (i ≡ p) → get_or new i 0 ≡ f (get_or new' i 0)
      go (yes k) d = a.below i k ∙ h i (omega (arith, a.within)) ∙ ap f (sym (b.below i k))
      go (no k) (yes q) = rw q (a.here ∙ e ∙ ap f (sym b.here))
      go (no k) (no q) =
          let z = back i (omega arith) in
          ap (λ (j : ℕ). get_or new j 0) (sym z) ∙ a.above (i - 1) (omega arith) (omega arith) ∙ h (i - 1) (omega arith)
          ∙ ap f (sym (b.above (i - 1) (omega arith) (omega arith)) ∙ ap (λ (j : ℕ). get_or new' j 0) z)

-- ---- sorted
pub sorted_length : (first : ℕ → ℕ → Bool) (f : ℕ → ℕ) (n : ℕ) → length (sorted first f n) ≡ n
unfolding sorted inserted
sorted_length first f zero = refl
sorted_length first f (suc n) =
    let l = sorted first f n in
    insert_length (slot (λ p. first (f n) (get_or l p 0)) (length l)) (f n) l (slot_le (λ p. first (f n) (get_or l p 0)) (length l))
    ∙ ap suc (sorted_length first f n)

abbrev pub slot_in : (ℕ → ℕ → Bool) → (ℕ → ℕ) → ℕ → ℕ
slot_in first f n = slot (λ p. first (f n) (get_or (sorted first f n) p 0)) n

pub sorted_more : (first : ℕ → ℕ → Bool) (f : ℕ → ℕ) (n : ℕ) → Inserted (sorted first f n) (sorted first f (suc n)) n (slot_in first f n) (f n)
unfolding sorted inserted
sorted_more first f n =
    let l = sorted first f n in
    subst (λ (k : ℕ). Inserted l (insert_at (slot (λ p. first (f n) (get_or l p 0)) (length l)) (f n) l) k (slot (λ p. first (f n) (get_or l p 0)) k)
    (f n)) (sorted_length first f n)
    (insert_is (slot (λ p. first (f n) (get_or l p 0)) (length l)) (f n) l (slot_le (λ p. first (f n) (get_or l p 0)) (length l)))

-- what holds of all that were put in holds of every entry
pub entries : (P : ℕ → Type 0) (first : ℕ → ℕ → Bool) (f : ℕ → ℕ) (n : ℕ) → ((k : ℕ) → k < n → P (f k)) → (i : ℕ) → i < n → P (get_or (sorted first f n) i 0)
entries P first f zero h i l = absurd (not-suc-le-zero l)
entries P first f (suc n) h i l =
    go (dec_le (suc i) (slot_in first f n)) (ℕ_discrete i (slot_in first f n)) (λ k m. entries P first f n (λ k' m'. h k' (omega arith)) k m)
  where
    s : Inserted (sorted first f n) (sorted first f (suc n)) n (slot_in first f n) (f n)
    s = sorted_more first f n

    go : Dec (i < slot_in first f n) → Dec (i ≡ slot_in first f n) → ((k : ℕ) → k < n → P (get_or (sorted first f n) k 0)) → P
        (get_or (sorted first f (suc n)) i 0)
    go (yes k) d r = subst P (sym (s.below i k)) (r i (omega (arith, s.within)))
    go (no k) (yes q) r = subst P (sym s.here ∙ ap (λ (j : ℕ). get_or (sorted first f (suc n)) j 0) (sym q)) (h n (omega arith))
    go (no k) (no q) r =
        let z : i - 1 + 1 ≡ i = omega arith in
        subst P (sym (s.above (i - 1) (omega arith) (omega arith)) ∙ ap (λ (j : ℕ). get_or (sorted first f (suc n)) j 0) z) (r (i - 1) (omega arith))

-- the order of a sequence's images is the image of the order of its places
module _ (first first' : ℕ → ℕ → Bool) (f : ℕ → ℕ) (n : ℕ) (same : (i j : ℕ) → i < n → j < n → first (f i) (f j) ≡ first' i j) where
  one_more : (m : ℕ) → m < n → ((i : ℕ) → i < m → get_or (sorted first f m) i 0 ≡ f (get_or (sorted first' (λ k. k) m) i 0))
      → (i : ℕ) → i < suc m → get_or (sorted first f (suc m)) i 0 ≡ f (get_or (sorted first' (λ k. k) (suc m)) i 0)
  one_more m h earlier =
      image f (sorted first f m) (sorted first f (suc m)) (sorted first' (λ k. k) m) (sorted first' (λ k. k) (suc m)) m (slot_in first f m) (f m) m
      (sorted_more first f m)
      (subst (λ (p : ℕ). Inserted (sorted first' (λ k. k) m) (sorted first' (λ k. k) (suc m)) m p m) (sym places) (sorted_more first' (λ k. k) m)) refl earlier
    where
      low : (p : ℕ) → p < m → get_or (sorted first' (λ k. k) m) p 0 < m
      low = entries (λ k. k < m) first' (λ k. k) m (λ k l. l)

      places : slot_in first f m ≡ slot_in first' (λ k. k) m
      places = slot_same (λ p. first (f m) (get_or (sorted first f m) p 0)) (λ p. first' m (get_or (sorted first' (λ k. k) m) p 0)) m
          (λ p k. ap (first (f m)) (earlier p k) ∙ same m (get_or (sorted first' (λ k. k) m) p 0) h (omega (arith, low p k)))

  pub sorted_image : (m : ℕ) → m ≤ n → (i : ℕ) → i < m → get_or (sorted first f m) i 0 ≡ f (get_or (sorted first' (λ k. k) m) i 0)
  sorted_image zero h i l = absurd (not-suc-le-zero l)
  sorted_image (suc m) h i l = one_more m h (sorted_image m (omega arith)) i l

-- ---- an order holds what was put in, each as often
count_insert : (x p c : ℕ) (l : List ℕ) → count x (insert_at p c l) ≡ count x l + pick (eqb c x) 1 0
unfolding count
count_insert x p c l =
    omega (arith, count_append x (take p l) (c ∷ drop p l), sym (count_append x (take p l) (drop p l)) ∙ ap (count x) (take-append-drop p l))

count_sorted : (x : ℕ) (first : ℕ → ℕ → Bool) (l : List ℕ) (n : ℕ) → n ≤ length l → count x (sorted first (λ j. get_or l j 0) n) ≡ count x (take n l)
unfolding sorted inserted
count_sorted x first [] zero h = refl
count_sorted x first (d ∷ l) zero h = refl
count_sorted x first l (suc n) h =
    let s = sorted first (λ j. get_or l j 0) n in
    count_insert x (slot (λ p. first (get_or l n 0) (get_or s p 0)) (length s)) (get_or l n 0) s
    ∙ ap (λ (k : ℕ). k + pick (eqb (get_or l n 0) x) 1 0) (count_sorted x first l n (omega arith))
    ∙ sym (ap (count x) (take-suc l n 0 h) ∙ count_snoc x (get_or l n 0) (take n l))

pub count_all : (x : ℕ) (first : ℕ → ℕ → Bool) (l : List ℕ) → count x (sorted first (λ j. get_or l j 0) (length l)) ≡ count x l
count_all x first l = count_sorted x first l (length l) (omega arith) ∙ ap (count x) (take-length l)

-- ---- an order is in order, where `first` is a strict order of what is put in
pub record Strict (first : ℕ → ℕ → Bool) (D : ℕ → Type 0) : Type 0 where
  pub transitive : (x y z : ℕ) → D x → D y → D z → first x y ≡ true → first y z ≡ true → first x z ≡ true
  pub total : (x y : ℕ) → D x → D y → (x ≡ y → ⊥) → first x y ≡ false → first y x ≡ true

-- each goes before every later one
abbrev pub InOrder : (ℕ → ℕ → Bool) → List ℕ → ℕ → Type 0
InOrder first l n = (i j : ℕ) → i < j → j < n → first (get_or l i 0) (get_or l j 0) ≡ true

module _ (first : ℕ → ℕ → Bool) (D : ℕ → Type 0) (s : Strict first D) (f : ℕ → ℕ) where
  module _ (n : ℕ) (d : (k : ℕ) → k < suc n → D (f k)) (apart : (k : ℕ) → k < n → f n ≡ f k → ⊥) (o : InOrder first (sorted first f n) n) where
    abbrev l : List ℕ
    l = sorted first f n

    abbrev l' : List ℕ
    l' = sorted first f (suc n)

    abbrev p : ℕ
    p = slot_in first f n

    put : Inserted l l' n p (f n)
    put = sorted_more first f n

    held : (i : ℕ) → i < n → D (get_or l i 0)
    held = entries D first f n (λ k h. d k (omega arith))

    other : (i : ℕ) → i < n → f n ≡ get_or l i 0 → ⊥
    other = entries (λ x. f n ≡ x → ⊥) first f n apart

    -- all before the place go before the new one
    low : (q : ℕ) → p ≡ suc q → (i : ℕ) → i < p → first (get_or l i 0) (f n) ≡ true
    low q e i h = go (ℕ_discrete i q)
      where
        within : q < n
        within = omega (arith, put.within)

        next : first (get_or l q 0) (f n) ≡ true
        next = s.total (f n) (get_or l q 0) (d n (omega arith)) (held q within) (other q within) (slot_fails (λ k. first (f n) (get_or l k 0)) n q e)

        go : Dec (i ≡ q) → first (get_or l i 0) (f n) ≡ true
        go (yes z) = rw z next
        go (no z) =
            s.transitive (get_or l i 0) (get_or l q 0) (f n) (held i (omega (arith, put.within))) (held q within) (d n (omega arith))
            (o i q (omega arith) within) next

    before_new : (i : ℕ) → i < p → first (get_or l i 0) (f n) ≡ true
    before_new i h = go p refl h
      where
        go : (k : ℕ) → p ≡ k → i < k → first (get_or l i 0) (f n) ≡ true
        go zero e h = absurd (not-suc-le-zero h)
        go (suc q) e g = low q e i (omega arith)

    after_new : (i : ℕ) → p ≤ i → i < n → first (f n) (get_or l i 0) ≡ true
    after_new i h k = slot_passes (λ k. first (f n) (get_or l k 0)) n i h k

    -- where the entries of the new list come from
    was_below : (i : ℕ) → i < p → get_or l' i 0 ≡ get_or l i 0
    was_below = put.below

    was_above : (i : ℕ) → p < i → i < suc n → get_or l' i 0 ≡ get_or l (i - 1) 0
    was_above i h k = let z : i - 1 + 1 ≡ i = omega arith in ap (λ (w : ℕ). get_or l' w 0) (sym z) ∙ put.above (i - 1) (omega arith) (omega arith)

    in_order : InOrder first l' (suc n)
    in_order i j h k = go (dec_le (suc j) p) (ℕ_discrete j p) (dec_le (suc i) p) (ℕ_discrete i p)
      where
        go : Dec (j < p) → Dec (j ≡ p) → Dec (i < p) → Dec (i ≡ p) → first (get_or l' i 0) (get_or l' j 0) ≡ true
        go (yes a) b c e = rw (was_below i (omega arith), was_below j a) (o i j h (omega (arith, put.within)))
        go (no a) (yes b) c e = rw (was_below i (omega arith), b, put.here) (before_new i (omega arith))
        go (no a) (no b) (yes c) e = rw (was_below i c, was_above j (omega arith) k) (o i (j - 1) (omega arith) (omega arith))
        go (no a) (no b) (no c) (yes e) = rw (e, put.here, was_above j (omega arith) k) (after_new (j - 1) (omega arith) (omega arith))
        go (no a) (no b) (no c) (no e) =
            rw (was_above i (omega arith) (omega arith), was_above j (omega arith) k) (o (i - 1) (j - 1) (omega arith) (omega arith))

  pub sorted_in_order : (n : ℕ) → ((k : ℕ) → k < n → D (f k)) → ((i j : ℕ) → i < j → j < n → f j ≡ f i → ⊥) → InOrder first (sorted first f n) n
  sorted_in_order zero d apart = λ i j h k. absurd (not-suc-le-zero k)
  sorted_in_order (suc n) d apart =
      in_order n d (λ k h. apart k n h (omega arith)) (sorted_in_order n (λ k h. d k (omega arith)) (λ i j h k. apart i j h (omega arith)))
