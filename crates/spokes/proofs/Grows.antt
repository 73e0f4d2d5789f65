-- One more end is put into a ring that stands in the lists: alone, before the first, after the last, or between two.
use Prim.Native.Nat.{ℕ, ◌+◌, ◌*◌, ◌%◌, ◌≤◌, ◌<◌}
use native.Mathlib.Omega.{arith}
use native.Mathlib.Decide.{ℕ_discrete}
use mathlib.Core.Path.{◌≡◌, refl, sym, ap, ◌∙◌, subst}
use mathlib.Core.Logic.{◌⊎◌, inl, inr, ⊎_elim}
use mathlib.Core.Bool.{false}
use mathlib.Core.List.Memᴰ
use mathlib.Core.List.{List, [], ◌∷◌, ◌++◌}
use lib.Dec.{leb}
use lib.ListN.{length, get_or, set}
use lib.Seq.{get_or-set_same}
use borrow.Author.Tests.{leb-false}
use Rattle.turn.specs.Limits.{max_links}
use Rattle.graph.specs.Graph.{Graph}
use Rattle.next.specs.Choice.{Mem}
use Rattle.rings.specs.Ends.{end_of, end_below}
use Rattle.rings.specs.RingOrder.{Forward}
use Rattle.rings.proofs.RingOrder.{ring_irreflexive}
use Rattle.rings.specs.Rings.{InOrder}
use Rattle.rings.specs.Sorted.{Sorted, Once, sorted_once, sorted_parts}
use Rattle.rings.specs.Linked.{Leads}
use Rattle.rings.specs.Linking.{round_between}
use Rattle.rings.specs.LinkOne.{linked_one, put_between}
use Rattle.rings.specs.LastEnd.{last_before, last_between}
use Rattle.rings.specs.Making.{RingOf}
use Rattle.rings.specs.Field.{cross_mark, wrap_mark, next_of, wraps_at}
use Rattle.spokes.specs.Entries.{last_of, Stood}
use Rattle.spokes.proofs.Lasts.{last_member, put_behind, put_ahead, last_marked, inner_unmarked, mark_behind}
use Rattle.spokes.proofs.Stores.{cross_end, wrap_end, cross_no_wrap, wrap_wraps, cross_is, Stored, stored, put_of}

-- what stands in a sorted list with f stands before f or after it
pub both_sides : (R : ℕ → ℕ → Type 0) (s t : List ℕ) (f : ℕ) → Sorted R (s ++ (f ∷ t)) → (x : ℕ) → Mem x (s ++ t) → R x f ⊎ R f x
both_sides R s t f p x m =
    let k = sorted_parts R s (f ∷ t) p in
    ⊎_elim (λ i. inl (k.between x i f (Memᴰ.head refl))) (λ i. inr (k.right.0 x i)) (Memᴰ.append_cases s m)

-- link f is to be put into the ring l, of links below n
pub record Ready (g : Graph) (v n : ℕ) (nxt prv l : List ℕ) (f : ℕ) : Type 0 where
  pub few : n ≤ max_links
  pub nxt_long : 2 * n ≤ length nxt
  pub prv_long : 2 * n ≤ length prv
  pub forward : (x : ℕ) → Mem x (f ∷ l) → Forward g x
  pub below : (x : ℕ) → Mem x (f ∷ l) → x < n
  pub new : (x : ℕ) → Mem x l → x ≡ f → ⊥

-- f stands before or after each: it is none of them
pub not_among : (g : Graph) (v f : ℕ) (l : List ℕ) → Forward g f → ((x : ℕ) → Mem x l → InOrder g v x f ⊎ InOrder g v f x)
    → (x : ℕ) → Mem x l → x ≡ f → ⊥
not_among g v f l w o x m e = ⊎_elim
    (λ h. ring_irreflexive g v f w (subst (λ y. InOrder g v y f) e h))
    (λ h. ring_irreflexive g v f w (subst (λ y. InOrder g v f y) e h)) (o x m)

module _ (g : Graph) (v : ℕ) where
  abbrev e : ℕ → ℕ
  e = end_of g v

  module _ {n : ℕ} {nxt prv : List ℕ} {f : ℕ} where
    -- numbers of ends
    end_small : {l : List ℕ} → Ready g v n nxt prv l f → (x : ℕ) → Mem x (f ∷ l) → e x < cross_mark
    end_small h x m = omega (arith, end_below g v x n (h.below x m), h.few)

    nxt_has : {l : List ℕ} → Ready g v n nxt prv l f → (x : ℕ) → Mem x (f ∷ l) → e x < length nxt
    nxt_has h x m = omega (arith, end_below g v x n (h.below x m), h.nxt_long)

    prv_has : {l : List ℕ} → Ready g v n nxt prv l f → (x : ℕ) → Mem x (f ∷ l) → e x < length prv
    prv_has h x m = omega (arith, end_below g v x n (h.below x m), h.prv_long)

    once : {state taken l : List ℕ} → Ready g v n nxt prv l f → RingOf g state v taken l → Once l
    once {l = l} h r = sorted_once (InOrder g v) l (λ x m. ring_irreflexive g v x (h.forward x (Memᴰ.tail m))) r.sorted

  -- the other marks are left
  marks : {nxt l nxt' : List ℕ} {f r onto from : ℕ} → Stored g v nxt nxt' f r onto from → cross_mark ≤ onto → cross_mark ≤ from
      → ((k : ℕ) → Mem k l → cross_mark ≤ get_or nxt (e k) 0) → (k : ℕ) → (k ≡ f) ⊎ Mem k l → cross_mark ≤ get_or nxt' (e k) 0
  marks {l = l} {nxt'} {f} {r} s ho hf m k o = by (ℕ_discrete k f) (ℕ_discrete k r)
    where
      by : Dec (k ≡ f) → Dec (k ≡ r) → cross_mark ≤ get_or nxt' (e k) 0
      by (yes p) d = subst (λ x. cross_mark ≤ get_or nxt' (e x) 0) (sym p) (subst (λ z. cross_mark ≤ z) (sym s.at_q) ho)
      by (no p) (yes d) = subst (λ x. cross_mark ≤ get_or nxt' (e x) 0) (sym d) (subst (λ z. cross_mark ≤ z) (sym s.at_r) hf)
      by (no p) (no d) = subst (λ z. cross_mark ≤ z) (sym (s.others k p d)) (⊎_elim (λ q. absurd (p q)) (m k) o)

  module _ {state nxt prv : List ℕ} where
    -- a ring of f alone
    pub stood_alone : {n f : ℕ} {more : List ℕ} → Ready g v n nxt prv [] f → RingOf g state v more (f ∷ [])
        → Stood g state v more (set nxt (e f) (wrap_mark + e f)) (set prv (e f) (e f)) (f ∷ [])
    stood_alone {f = f} h r =
        let s : e f < cross_mark = end_small h f (Memᴰ.head refl) in
        let w : get_or (set nxt (e f) (wrap_mark + e f)) (e f) 0 ≡ wrap_mark + e f
        = get_or-set_same nxt (e f) (wrap_mark + e f) 0 (nxt_has h f (Memᴰ.head refl)) in
        record {
          ring = r;
          linked = linked_one (ap (λ z. z % cross_mark) w ∙ wrap_end (e f) s) (get_or-set_same prv (e f) (e f) 0 (prv_has h f (Memᴰ.head refl)));
          marked = λ k m. ⊎_elim (λ (p : k ≡ f). subst (λ x. cross_mark ≤ get_or (set nxt (e f) (wrap_mark + e f)) (e x) 0) (sym p)
              (subst (λ z. cross_mark ≤ z) (sym w) (omega arith)))
              (λ i. absurd (Memᴰ.not-nil i)) (Memᴰ.cases_cons m);
          last = ap (leb wrap_mark) w ∙ wrap_wraps (e f);
        }

    module _ {taken : List ℕ} {n f : ℕ} (a : ℕ) (t : List ℕ) (h : Ready g v n nxt prv (a ∷ t) f) (st : Stood g state v taken nxt prv (a ∷ t)) where
      abbrev r : ℕ
      r = last_of a t

      in_r : Mem r (a ∷ t)
      in_r = last_member a t

      small_a : e a < cross_mark
      small_a = end_small h a (Memᴰ.tail (Memᴰ.head refl))

      small_f : e f < cross_mark
      small_f = end_small h f (Memᴰ.head refl)

      next_stored : (onto from : ℕ) → Stored g v nxt (set (set nxt (e f) onto) (e r) from) f r onto from
      next_stored onto from =
          stored g v nxt f r onto from (λ p. h.new r in_r (sym p)) (nxt_has h f (Memᴰ.head refl)) (nxt_has h r (Memᴰ.tail in_r))

      back_stored : Stored g v prv (set (set prv (e f) (e r)) (e a) (e f)) f a (e r) (e f)
      back_stored =
          stored g v prv f a (e r) (e f) (λ p. h.new a (Memᴰ.head refl) (sym p)) (prv_has h f (Memᴰ.head refl))
          (prv_has h a (Memᴰ.tail (Memᴰ.head refl)))

      -- before the first
      pub stood_first : {more : List ℕ} → RingOf g state v more (f ∷ (a ∷ t))
          → Stood g state v more (set (set nxt (e f) (cross_mark + e a)) (e r) (wrap_mark + e f)) (set (set prv (e f) (e r)) (e a) (e f))
          (f ∷ (a ∷ t))
      stood_first ring =
          let s = next_stored (cross_mark + e a) (wrap_mark + e f) in
          record {
            ring = ring;
            linked = put_ahead a t (once h st.ring) st.linked (put_of g v s back_stored (cross_end (e a) small_a) (wrap_end (e f) small_f) h.new);
            marked = λ k m. marks s (omega arith) (omega arith) st.marked k (Memᴰ.cases_cons m);
            last = last_before (λ x. wraps_at nxt (e x))
                (λ x. wraps_at (set (set nxt (e f) (cross_mark + e a)) (e r) (wrap_mark + e f)) (e x)) f a t st.last
                (ap (leb wrap_mark) s.at_q ∙ cross_no_wrap (e a) small_a) (kept s);
          }
        where
          kept : {nxt' : List ℕ} → Stored g v nxt nxt' f r (cross_mark + e a) (wrap_mark + e f) → (x : ℕ) → Mem x (a ∷ t)
              → wraps_at nxt' (e x) ≡ wraps_at nxt (e x)
          kept {nxt'} s x m = by (ℕ_discrete x r)
            where
              by : Dec (x ≡ r) → wraps_at nxt' (e x) ≡ wraps_at nxt (e x)
              by (yes p) = subst (λ y. wraps_at nxt' (e y) ≡ wraps_at nxt (e y)) (sym p)
                  (ap (leb wrap_mark) s.at_r ∙ wrap_wraps (e f) ∙ sym (last_marked (λ y. wraps_at nxt (e y)) a t st.last))
              by (no p) = ap (leb wrap_mark) (s.others x (h.new x m) p)

      -- after the last
      pub stood_last : {more : List ℕ} → RingOf g state v more ((a ∷ t) ++ (f ∷ []))
          → Stood g state v more (set (set nxt (e f) (wrap_mark + e a)) (e r) (cross_mark + e f)) (set (set prv (e f) (e r)) (e a) (e f))
          ((a ∷ t) ++ (f ∷ []))
      stood_last ring =
          let s = next_stored (wrap_mark + e a) (cross_mark + e f) in
          record {
            ring = ring;
            linked = put_behind a t (once h st.ring) st.linked (put_of g v s back_stored (wrap_end (e a) small_a) (cross_end (e f) small_f) h.new);
            marked = λ k m. marks s (omega arith) (omega arith) st.marked k
                (⊎_elim (λ i. inr i) (λ i. ⊎_elim (λ p. inl p) (λ j. absurd (Memᴰ.not-nil j)) (Memᴰ.cases_cons i))
                (Memᴰ.append_cases (a ∷ t) m));
            last = mark_behind (λ x. wraps_at nxt (e x))
                (λ x. wraps_at (set (set nxt (e f) (wrap_mark + e a)) (e r) (cross_mark + e f)) (e x)) f a t r refl st.last
                (λ x m d. ap (leb wrap_mark) (s.others x (h.new x m) d)) (ap (leb wrap_mark) s.at_r ∙ cross_no_wrap (e f) small_f)
                (ap (leb wrap_mark) s.at_q ∙ wrap_wraps (e a));
          }

    -- what stands between two others: the next end of r, with its mark
    module _ {taken : List ℕ} (s : List ℕ) (r a : ℕ) (t : List ℕ) (st : Stood g state v taken nxt prv (s ++ (r ∷ (a ∷ t)))) where
      unmarked : wraps_at nxt (e r) ≡ false
      unmarked = inner_unmarked (λ x. wraps_at nxt (e x)) s r a t st.last

      pub next_is : get_or nxt (e r) 0 ≡ cross_mark + e a
      next_is =
          cross_is (get_or nxt (e r) 0) (e a) (round_between (Leads g v (next_of nxt)) s r a t st.linked.next)
          (st.marked r (Memᴰ.append_right s (Memᴰ.head refl))) (leb-false wrap_mark (get_or nxt (e r) 0) unmarked)

    -- between r and a
    module _ {taken : List ℕ} {n f : ℕ} (s : List ℕ) (r a : ℕ) (t : List ℕ) (h : Ready g v n nxt prv (s ++ (r ∷ (a ∷ t))) f)
        (st : Stood g state v taken nxt prv (s ++ (r ∷ (a ∷ t)))) where
      at_r : Mem r (s ++ (r ∷ (a ∷ t)))
      at_r = Memᴰ.append_right s (Memᴰ.head refl)

      at_a : Mem a (s ++ (r ∷ (a ∷ t)))
      at_a = Memᴰ.append_right s (Memᴰ.tail (Memᴰ.head refl))

      pub stood_between : {more : List ℕ} → RingOf g state v more (s ++ (r ∷ (f ∷ (a ∷ t))))
          → Stood g state v more (set (set nxt (e f) (cross_mark + e a)) (e r) (cross_mark + e f)) (set (set prv (e f) (e r)) (e a) (e f))
          (s ++ (r ∷ (f ∷ (a ∷ t))))
      stood_between ring = record {
        ring = ring;
        linked = put_between r s t (once h st.ring) st.linked
            (put_of g v n_stored p_stored (cross_end (e a) (end_small h a (Memᴰ.tail at_a)))
            (cross_end (e f) (end_small h f (Memᴰ.head refl))) h.new);
        marked = λ k m. marks n_stored (omega arith) (omega arith) st.marked k (among k m);
        last = last_between (λ x. wraps_at nxt (e x)) (λ x. wraps_at nxt' (e x)) f s r a t st.last
            (ap (leb wrap_mark) n_stored.at_q ∙ cross_no_wrap (e a) (end_small h a (Memᴰ.tail at_a))) kept;
      }
        where
          nxt' : List ℕ
          nxt' = set (set nxt (e f) (cross_mark + e a)) (e r) (cross_mark + e f)

          n_stored : Stored g v nxt nxt' f r (cross_mark + e a) (cross_mark + e f)
          n_stored = stored g v nxt f r (cross_mark + e a) (cross_mark + e f) (λ p. h.new r at_r (sym p)) (nxt_has h f (Memᴰ.head refl))
              (nxt_has h r (Memᴰ.tail at_r))

          p_stored : Stored g v prv (set (set prv (e f) (e r)) (e a) (e f)) f a (e r) (e f)
          p_stored = stored g v prv f a (e r) (e f) (λ p. h.new a at_a (sym p)) (prv_has h f (Memᴰ.head refl))
              (prv_has h a (Memᴰ.tail at_a))

          among : (k : ℕ) → Mem k (s ++ (r ∷ (f ∷ (a ∷ t)))) → (k ≡ f) ⊎ Mem k (s ++ (r ∷ (a ∷ t)))
          among k m = ⊎_elim (λ i. inr (Memᴰ.append_left (r ∷ (a ∷ t)) i)) (λ i. ⊎_elim
              (λ p. inr (Memᴰ.append_right s (Memᴰ.head p)))
              (λ j. ⊎_elim (λ p. inl p) (λ b. inr (Memᴰ.append_right s (Memᴰ.tail b))) (Memᴰ.cases_cons j)) (Memᴰ.cases_cons i))
              (Memᴰ.append_cases s m)

          kept : (x : ℕ) → Mem x (s ++ (r ∷ (a ∷ t))) → wraps_at nxt' (e x) ≡ wraps_at nxt (e x)
          kept x m = by (ℕ_discrete x r)
            where
              by : Dec (x ≡ r) → wraps_at nxt' (e x) ≡ wraps_at nxt (e x)
              by (yes p) = subst (λ y. wraps_at nxt' (e y) ≡ wraps_at nxt (e y)) (sym p)
                  (ap (leb wrap_mark) n_stored.at_r ∙ cross_no_wrap (e f) (end_small h f (Memᴰ.head refl)) ∙ sym (unmarked s r a t st))
              by (no p) = ap (leb wrap_mark) (n_stored.others x (h.new x m) p)
