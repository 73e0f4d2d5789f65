-- How a ring is made: the entries are taken in their order, and each
-- unskipped one is put at its place, looked for from the back.
use Rattle.std.specs.Prelude.{ℕ, ◌≡◌, refl, Bool, true, false, List, [], ◌∷◌, ◌++◌, ℤ, pos, ◌-ℤ◌, ◌*ℤ◌, get_or}
use Rattle.std.proofs.Common.{sym, ap, ◌∙◌, subst, ⊎_elim, append_assoc, arith}
use mathlib.Core.List.Memᴰ
use Rattle.std.specs.Int.Signed.{lt_z}
use Rattle.laws.specs.Test.{true≢false}
use Rattle.laws.specs.Ring.{ring, var, ◌:-◌, ◌:*◌}
use Rattle.laws.specs.Order.{sub_parts, lt_z_true, lt_z_false, true_lt_z, false_lt_z}
use Rattle.turn.specs.declared.Vector.{Vector}
use Rattle.turn.specs.Angle.{same_direction}
use Rattle.graph.specs.Graph.{Graph}
use Rattle.graph.specs.Checks.{away_from}
use Rattle.next.specs.Choice.{Mem}
use Rattle.rings.specs.Ends.{starts_at}
use Rattle.rings.specs.RingOrder.{ring_before, Forward}
use Rattle.rings.proofs.RingOrder.{ring_transitive, ring_total}
use Rattle.rings.specs.Sorted.{BeforeAll, sorted_insert, sorted_parts}
use Rattle.rings.specs.Rings.{InOrder}
use Rattle.rings.specs.Making.{RingOf, like_sorts}

-- ---- what the comparison of two entries tells: the sorts of their ends, and two products
less : (a b : ℤ) → lt_z b a ≡ lt_z (pos 0) (a -ℤ b)
less a b = by (lt_z b a) refl
  where
    by : (t : Bool) → lt_z b a ≡ t → t ≡ lt_z (pos 0) (a -ℤ b)
    by true e = sym (true_lt_z (pos 0) (a -ℤ b) (omega (arith, sub_parts a b, lt_z_true b a e)))
    by false e = sym (false_lt_z (pos 0) (a -ℤ b) (omega (arith, sub_parts a b, lt_z_false b a e)))

module _ (g : Graph) (v e f : ℕ) where
  abbrev u : Vector
  u = away_from g v e

  abbrev w : Vector
  w = away_from g v f

  -- of one sort: by the turn from e's way to f's
  pub like_before : starts_at g v e ≡ starts_at g v f → ring_before g v e f ≡ lt_z (u.y *ℤ w.x) (u.x *ℤ w.y)
  like_before q = like_sorts (starts_at g v e) (starts_at g v f) _ q ∙ sym (less (u.x *ℤ w.y) (u.y *ℤ w.x))

  pub like_after : starts_at g v e ≡ starts_at g v f → ring_before g v f e ≡ lt_z (u.x *ℤ w.y) (u.y *ℤ w.x)
  like_after q =
      like_sorts (starts_at g v f) (starts_at g v e) _ (sym q) ∙ ap (lt_z (pos 0)) (other_way w.x w.y u.x u.y)
      ∙ sym (less (u.y *ℤ w.x) (u.x *ℤ w.y))
    where
      other_way : (a b c d : ℤ) → a *ℤ d -ℤ b *ℤ c ≡ d *ℤ a -ℤ c *ℤ b
      other_way a b c d =
          ring (a ∷ b ∷ c ∷ d ∷ []) (var 0 :* var 3 :- var 1 :* var 2) (var 3 :* var 0 :- var 2 :* var 1) tt

  -- neither turn: one direction, which check 7 refuses of unskipped links
  pub like_alike : starts_at g v e ≡ starts_at g v f → Forward g e → Forward g f → u.x *ℤ w.y ≡ u.y *ℤ w.x
      → same_direction u w ≡ true
  like_alike q se sf p = by (same_direction u w) refl
    where
      none : (z : ℤ) → lt_z z z ≡ true → ⊥
      none z t = true≢false t (false_lt_z z z (omega arith))

      by : (t : Bool) → same_direction u w ≡ t → t ≡ true
      by true d = refl
      by false d = ⊎_elim
          (λ h. absurd (none (u.y *ℤ w.x) (subst (λ z. lt_z (u.y *ℤ w.x) z ≡ true) p (sym (like_before q) ∙ h))))
          (λ h. absurd (none (u.y *ℤ w.x) (subst (λ z. lt_z z (u.y *ℤ w.x) ≡ true) p (sym (like_after q) ∙ h))))
          (ring_total g v e f se sf d)

module _ {g : Graph} {state : List ℕ} {v : ℕ} {taken : List ℕ} (q : ℕ) where
  -- a skipped entry is left out
  pub take_skipped : {l : List ℕ} → RingOf g state v taken l → get_or state q 0 ≡ 1
      → RingOf g state v (taken ++ (q ∷ [])) l
  take_skipped r s = record {
    sorted = r.sorted;
    only = λ k m. let t = r.only k m in (Memᴰ.append_left (q ∷ []) t.0, t.1);
    every = λ k m d. ⊎_elim (λ i. r.every k i d)
        (λ i. ⊎_elim (λ (p : k ≡ q). absurd (d (subst (λ x. get_or state x 0 ≡ 1) (sym p) s)))
        (λ j. absurd (Memᴰ.not-nil j)) (Memᴰ.cases_cons i))
        (Memᴰ.append_cases taken m);
  }

  -- an unskipped one is put between what stands before it and what stands after
  pub take_between : (s t : List ℕ) → RingOf g state v taken (s ++ t) → (get_or state q 0 ≡ 1 → ⊥)
      → ((x : ℕ) → Mem x s → InOrder g v x q)
      → BeforeAll (InOrder g v) q t → RingOf g state v (taken ++ (q ∷ [])) (s ++ (q ∷ t))
  take_between s t r u hs ht = record {
    sorted = sorted_insert (InOrder g v) s t q r.sorted hs ht;
    only = λ k m. ⊎_elim (λ i. old k (Memᴰ.append_left t i))
        (λ i. ⊎_elim (new k) (λ j. old k (Memᴰ.append_right s j)) (Memᴰ.cases_cons i))
        (Memᴰ.append_cases s m);
    every = λ k m d. ⊎_elim (λ i. more k (r.every k i d))
        (λ i. ⊎_elim (λ (p : k ≡ q). Memᴰ.append_right s (Memᴰ.head p)) (λ j. absurd (Memᴰ.not-nil j))
        (Memᴰ.cases_cons i))
        (Memᴰ.append_cases taken m);
  }
    where
      old : (k : ℕ) → Mem k (s ++ t) → Mem k (taken ++ (q ∷ [])) × (get_or state k 0 ≡ 1 → ⊥)
      old k m = let o = r.only k m in (Memᴰ.append_left (q ∷ []) o.0, o.1)

      new : (k : ℕ) → k ≡ q → Mem k (taken ++ (q ∷ [])) × (get_or state k 0 ≡ 1 → ⊥)
      new k p = (Memᴰ.append_right taken (Memᴰ.head p), λ e. u (subst (λ x. get_or state x 0 ≡ 1) p e))

      more : (k : ℕ) → Mem k (s ++ t) → Mem k (s ++ (q ∷ t))
      more k m =
          ⊎_elim (Memᴰ.append_left (q ∷ t)) (λ i. Memᴰ.append_right s (Memᴰ.tail i)) (Memᴰ.append_cases s m)

  -- looked for from the back: first of all, or just after an r that stands before it
  pub take_front : (t : List ℕ) → RingOf g state v taken t → (get_or state q 0 ≡ 1 → ⊥) → BeforeAll (InOrder g v) q t
      → RingOf g state v (taken ++ (q ∷ [])) (q ∷ t)
  take_front t r u ht = take_between [] t r u (λ x m. absurd (Memᴰ.not-nil m)) ht

  pub take_after : (s : List ℕ) (r : ℕ) (t : List ℕ) → RingOf g state v taken (s ++ (r ∷ t)) → (get_or state q 0 ≡ 1 → ⊥)
      → ((x : ℕ) → Mem x (q ∷ (s ++ (r ∷ t))) → Forward g x) → InOrder g v r q → BeforeAll (InOrder g v) q t
      → RingOf g state v (taken ++ (q ∷ [])) (s ++ (r ∷ (q ∷ t)))
  take_after s r t p u fw h ht =
      subst (RingOf g state v (taken ++ (q ∷ []))) (append_assoc s (r ∷ []) (q ∷ t))
      (take_between (s ++ (r ∷ [])) t (subst (RingOf g state v taken) (sym (append_assoc s (r ∷ []) t)) p) u earlier ht)
    where
      in_s : (x : ℕ) → Mem x s → InOrder g v x q
      in_s x m =
          ring_transitive g v x r q (fw x (Memᴰ.tail (Memᴰ.append_left (r ∷ t) m)))
          (fw r (Memᴰ.tail (Memᴰ.append_right s (Memᴰ.head refl)))) (fw q (Memᴰ.head refl))
          ((sorted_parts (InOrder g v) s (r ∷ t) p.sorted).between x m r (Memᴰ.head refl)) h

      earlier : (x : ℕ) → Mem x (s ++ (r ∷ [])) → InOrder g v x q
      earlier x m = ⊎_elim (in_s x)
          (λ i. ⊎_elim (λ (e : x ≡ r). subst (λ y. InOrder g v y q) (sym e) h) (λ j. absurd (Memᴰ.not-nil j))
          (Memᴰ.cases_cons i))
          (Memᴰ.append_cases s m)
