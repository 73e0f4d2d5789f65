-- One more end is put between two neighbours of a linked ring, by four
-- stores: after the last, before the first, or between two others.
use Rattle.std.specs.Prelude.{ℕ, ◌≤◌, ◌≡◌, refl, List, [], ◌∷◌, ◌++◌}
use Rattle.std.proofs.Common.{arith, sym, ap, ◌∙◌, subst, ⊎_elim, append_assoc, eq-eqb}
use mathlib.Core.List.Memᴰ
use Rattle.laws.specs.Count.{count, count_append}
use Rattle.graph.specs.Graph.{Graph}
use Rattle.next.specs.Choice.{Mem}
use Rattle.rings.specs.Ends.{end_of}
use Rattle.rings.specs.Sorted.{Once}
use Rattle.rings.specs.Linked.{along_join, along_part, turned_round, Leads, Linked}
use Rattle.rings.specs.Linking.{along_kept}

-- a link alone is its own neighbour
pub linked_one : {g : Graph} {v q : ℕ} {nxt prv : ℕ → ℕ} → Leads g v nxt q q → Leads g v prv q q
    → Linked g v (q ∷ []) nxt prv
linked_one n p = record { next = n; back = p }

-- q is put between r and a, and what leads from the other links of l is left
pub record Put (g : Graph) (v : ℕ) (l : List ℕ) (r q a : ℕ) (nxt prv nxt' prv' : ℕ → ℕ) : Type 0 where
  pub next_r : Leads g v nxt' r q
  pub next_q : Leads g v nxt' q a
  pub back_q : Leads g v prv' q r
  pub back_a : Leads g v prv' a q
  pub next_kept : (x : ℕ) → Mem x l → (x ≡ r → ⊥) → nxt' (end_of g v x) ≡ nxt (end_of g v x)
  pub back_kept : (x : ℕ) → Mem x l → (x ≡ a → ⊥) → prv' (end_of g v x) ≡ prv (end_of g v x)

-- ---- lists in which each number stands once
mem_count : (x : ℕ) (l : List ℕ) → Mem x l → 1 ≤ count x l
unfolding count
mem_count x [] m = absurd (Memᴰ.not-nil m)
mem_count x (y ∷ l) m =
    ⊎_elim (λ (q : x ≡ y). rw (eq-eqb y x (sym q)) (omega arith)) (λ k. omega (arith, mem_count x l k))
    (Memᴰ.cases_cons m)

once_apart : (s t : List ℕ) → Once (s ++ t) → (x y : ℕ) → Mem x s → Mem y t → x ≡ y → ⊥
once_apart s t o x y m n q =
    omega (arith, o x, count_append x s t, mem_count x s m, mem_count x t (subst (λ z. Mem z t) (sym q) n))

once_turned : (s t : List ℕ) → Once (s ++ t) → Once (t ++ s)
once_turned s t o x = omega (arith, o x, count_append x s t, count_append x t s)

module _ {g : Graph} {v q a : ℕ} {nxt prv nxt' prv' : ℕ → ℕ} where
  -- beside a link alone
  pub put_second : Put g v (a ∷ []) a q a nxt prv nxt' prv' → Linked g v (a ∷ (q ∷ [])) nxt' prv'
  put_second p = record { next = (p.next_r, p.next_q); back = (p.back_q, p.back_a) }

  module _ (r : ℕ) where
    -- after the last, r, and so before the first, a
    pub put_last : (m : List ℕ) → Once (a ∷ (m ++ (r ∷ []))) → Linked g v (a ∷ (m ++ (r ∷ []))) nxt prv
        → Put g v (a ∷ (m ++ (r ∷ []))) r q a nxt prv nxt' prv' → Linked g v (a ∷ (m ++ (r ∷ (q ∷ [])))) nxt' prv'
    put_last m o k p = record {
      next = along_join (Leads g v nxt') a a r m (q ∷ [])
          (along_kept (Leads g v nxt) (Leads g v nxt') r a m
          (λ x y i j e. p.next_kept x (early x i) (not_r x i) ∙ e)
          (along_part (Leads g v nxt) a a r m [] k.next).0)
          (p.next_r, p.next_q);
      back = along_join (λ x y. Leads g v prv' y x) a a r m (q ∷ [])
          (along_kept (λ x y. Leads g v prv y x) (λ x y. Leads g v prv' y x) r a m
          (λ x y i j e. p.back_kept y (Memᴰ.tail (late y j)) (not_a y j) ∙ e)
          (along_part (λ x y. Leads g v prv y x) a a r m [] k.back).0)
          (p.back_q, p.back_a);
    }
      where
        early : (x : ℕ) → Mem x (a ∷ m) → Mem x (a ∷ (m ++ (r ∷ [])))
        early x i = Memᴰ.append_left {s = a ∷ m} (r ∷ []) i

        not_r : (x : ℕ) → Mem x (a ∷ m) → x ≡ r → ⊥
        not_r x i d = once_apart (a ∷ m) (r ∷ []) o x r i (Memᴰ.head refl) d

        late : (y : ℕ) → Mem y (r ∷ m) → Mem y (m ++ (r ∷ []))
        late y j =
            ⊎_elim (λ e. Memᴰ.append_right m (Memᴰ.head e)) (Memᴰ.append_left (r ∷ [])) (Memᴰ.cases_cons j)

        not_a : (y : ℕ) → Mem y (r ∷ m) → y ≡ a → ⊥
        not_a y j d = once_apart (a ∷ []) (m ++ (r ∷ [])) o a y (Memᴰ.head refl) (late y j) (sym d)

-- ---- a linked ring may be read from another place
pub linked_turned : {g : Graph} {v : ℕ} {nxt prv : ℕ → ℕ} (s t : List ℕ) → Linked g v (s ++ t) nxt prv
    → Linked g v (t ++ s) nxt prv
linked_turned {g} {v} {nxt} {prv} s t k = record {
  next = turned_round (Leads g v nxt) s t k.next;
  back = turned_round (λ x y. Leads g v prv y x) s t k.back;
}

module _ {g : Graph} {v q a : ℕ} {nxt prv nxt' prv' : ℕ → ℕ} (r : ℕ) where
  -- before the first, a, and so after the last, r
  pub put_first : (m : List ℕ) → Once (a ∷ (m ++ (r ∷ []))) → Linked g v (a ∷ (m ++ (r ∷ []))) nxt prv
      → Put g v (a ∷ (m ++ (r ∷ []))) r q a nxt prv nxt' prv' → Linked g v (q ∷ (a ∷ (m ++ (r ∷ [])))) nxt' prv'
  put_first m o k p =
      linked_turned (a ∷ (m ++ (r ∷ []))) (q ∷ [])
      (subst (λ l. Linked g v (a ∷ l) nxt' prv') (sym (append_assoc m (r ∷ []) (q ∷ []))) (put_last r m o k p))

  -- between two neighbours r and a
  pub put_between : (s t : List ℕ) → Once (s ++ (r ∷ (a ∷ t))) → Linked g v (s ++ (r ∷ (a ∷ t))) nxt prv
      → Put g v (s ++ (r ∷ (a ∷ t))) r q a nxt prv nxt' prv' → Linked g v (s ++ (r ∷ (q ∷ (a ∷ t)))) nxt' prv'
  put_between s t o k p =
      subst (λ l. Linked g v l nxt' prv') (append_assoc s (r ∷ (q ∷ [])) (a ∷ t))
      (linked_turned (a ∷ t) (s ++ (r ∷ (q ∷ [])))
      (subst (λ l. Linked g v (a ∷ l) nxt' prv') (append_assoc t s (r ∷ (q ∷ [])))
      (put_last r (t ++ s) (subst Once turned (once_turned (s ++ (r ∷ [])) (a ∷ t) (subst Once (sym parted) o)))
      (subst (λ l. Linked g v l nxt prv) turned
      (linked_turned (s ++ (r ∷ [])) (a ∷ t) (subst (λ l. Linked g v l nxt prv) (sym parted) k)))
      (record {
        next_r = p.next_r;
        next_q = p.next_q;
        back_q = p.back_q;
        back_a = p.back_a;
        next_kept = λ x m. p.next_kept x (back x m);
        back_kept = λ x m. p.back_kept x (back x m);
      }))))
    where
      -- the ring from a round to r
      parted : (s ++ (r ∷ [])) ++ (a ∷ t) ≡ s ++ (r ∷ (a ∷ t))
      parted = append_assoc s (r ∷ []) (a ∷ t)

      turned : (a ∷ t) ++ (s ++ (r ∷ [])) ≡ a ∷ ((t ++ s) ++ (r ∷ []))
      turned = sym (ap (λ l. a ∷ l) (append_assoc t s (r ∷ [])))

      back : (x : ℕ) → Mem x (a ∷ ((t ++ s) ++ (r ∷ []))) → Mem x (s ++ (r ∷ (a ∷ t)))
      back x m = subst (Mem x) parted (swapped x (a ∷ t) (s ++ (r ∷ [])) (subst (Mem x) (sym turned) m))
        where
          swapped : (x : ℕ) (l m : List ℕ) → Mem x (l ++ m) → Mem x (m ++ l)
          swapped x l m i = ⊎_elim (Memᴰ.append_right m) (Memᴰ.append_left l) (Memᴰ.append_cases l i)
