-- Linking one more end at its place leaves a ring that the hoop tells, and every list as it was but at the ring's ends.
use Rattle.std.specs.Prelude.{Some}
use Prim.Native.Nat.{ℕ, suc, ◌+◌, ◌-◌, ◌<◌, zero-le, suc-le-suc}
use native.Mathlib.Omega.{arith}
use native.Mathlib.Numerals.{add-one}
use mathlib.Core.Path.{◌≡◌, refl, sym, ap, ap₂, ◌∙◌, subst}
use mathlib.Core.List.Memᴰ
use mathlib.Core.List.{List, [], ◌∷◌, ◌++◌, append_assoc}
use lib.ListN.{length, get_or, set, length-append, length-set}
use lib.Seq.{get_or-set_other}
use borrow.Author.Tests.{eq-eqb, ne_eqb}
use Rattle.laws.specs.Test.{pick_true, pick_false}
use Rattle.graph.specs.Graph.{Graph}
use Rattle.next.specs.Choice.{Mem}
use Rattle.rings.specs.Ends.{end_of, end_once}
use Rattle.rings.proofs.RingOrder.{ring_irreflexive}
use Rattle.rings.specs.Rings.{InOrder}
use Rattle.rings.specs.Sorted.{sorted_parts}
use Rattle.rings.specs.Making.{RingOf}
use Rattle.rings.specs.Field.{cross_mark, wrap_mark}
use Rattle.hoop.specs.declared.Hoop.{Hoop}
use Rattle.hoop.specs.declared.Place.TheVariants.{First, After}
use Rattle.hoop.specs.Hoops.{Outcome, makes, link_end, put_end}
use Rattle.spokes.specs.Entries.{last_of, Stood, Told, Held}
use Rattle.spokes.proofs.Lasts.{last_member, last_behind, head_before}
use Rattle.spokes.proofs.Grows.{Ready, stood_alone, stood_first, stood_last, stood_between, next_is}

-- a list by ends is as it was but for the ends at node v of f and of l
abbrev pub KeptOff : Graph → ℕ → List ℕ → List ℕ → List ℕ → Type 0
KeptOff g v l old new = (h : ℕ) → ((x : ℕ) → Mem x l → h ≡ end_of g v x → ⊥) → get_or new h 0 ≡ get_or old h 0

-- f has been put into the ring l
pub record Grown (g : Graph) (state : List ℕ) (v : ℕ) (more nxt prv l : List ℕ) (o : Outcome) : Type 0 where
  pub hoop : Hoop
  pub makes_it : o.taken ≡ Some hoop
  pub held : Held g state v more o.nxt o.prv hoop
  pub nxt_len : length o.nxt ≡ length nxt
  pub prv_len : length o.prv ≡ length prv
  pub kept_nxt : KeptOff g v l nxt o.nxt
  pub kept_prv : KeptOff g v l prv o.prv

-- two stores at ends of l
kept_two : (g : Graph) (v : ℕ) (l old : List ℕ) (x y b c : ℕ) → Mem x l → Mem y l → KeptOff g v l old (set (set old (end_of g v x) b) (end_of g v y) c)
kept_two g v l old x y b c mx my h d =
    get_or-set_other (set old (end_of g v x) b) (end_of g v y) h c 0 (d y my) ∙ get_or-set_other old (end_of g v x) h b 0 (d x mx)

module _ {g : Graph} {state : List ℕ} {v : ℕ} {more nxt prv : List ℕ} {f : ℕ} where
  -- q between r and a, of l
  grown_linked : {l l' : List ℕ} {r a head tail count : ℕ} (onto from : ℕ) → Mem r l → Mem a l
      → Stood g state v more (set (set nxt (end_of g v f) onto) (end_of g v r) from) (set (set prv (end_of g v f) (end_of g v r)) (end_of g v a)
      (end_of g v f)) l'
      → Told g v l' (record { head = head; tail = tail; count = count })
      → Grown g state v more nxt prv (f ∷ l) (link_end nxt prv (end_of g v r) (end_of g v f) (end_of g v a) onto from (makes head tail count))
  grown_linked {l} {l'} {r} {a} {head} {tail} {count} onto from mr ma st told = record {
    hoop = record { head = head; tail = tail; count = count };
    makes_it = refl;
    held = record { links = l'; stood = st; told = told };
    nxt_len = length-set (set nxt (end_of g v f) onto) (end_of g v r) from ∙ length-set nxt (end_of g v f) onto;
    prv_len = length-set (set prv (end_of g v f) (end_of g v r)) (end_of g v a) (end_of g v f) ∙ length-set prv (end_of g v f) (end_of g v r);
    kept_nxt = kept_two g v (f ∷ l) nxt f r onto from (Memᴰ.head refl) (Memᴰ.tail mr);
    kept_prv = kept_two g v (f ∷ l) prv f a (end_of g v r) (end_of g v f) (Memᴰ.head refl) (Memᴰ.tail ma);
  }

  module _ {n : ℕ} {taken : List ℕ} {hoop : Hoop} where
    -- before all of them
    pub grown_first : (l : List ℕ) → Ready g v n nxt prv l f → Stood g state v taken nxt prv l → Told g v l hoop
        → RingOf g state v more (f ∷ l) → Grown g state v more nxt prv (f ∷ l) (put_end nxt prv hoop First (end_of g v f))
    grown_first [] h st told ring = subst (Grown g state v more nxt prv (f ∷ []))
        (sym (pick_true _ _ (eq-eqb hoop.count 0 told.counted)))
        (record {
          hoop = record { head = end_of g v f; tail = end_of g v f; count = 1 };
          makes_it = refl;
          held = record {
            links = f ∷ [];
            stood = stood_alone g v h ring;
            told = record { counted = refl; headed = λ _. refl; tailed = λ _. refl };
          };
          nxt_len = length-set nxt (end_of g v f) (wrap_mark + end_of g v f);
          prv_len = length-set prv (end_of g v f) (end_of g v f);
          kept_nxt = λ i d. get_or-set_other nxt (end_of g v f) i (wrap_mark + end_of g v f) 0 (d f (Memᴰ.head refl));
          kept_prv = λ i d. get_or-set_other prv (end_of g v f) i (end_of g v f) 0 (d f (Memᴰ.head refl));
        })
    grown_first (a ∷ t) h st told ring = subst (Grown g state v more nxt prv (f ∷ (a ∷ t)))
        (sym (pick_false _ _ (ne_eqb hoop.count 0 some)
        ∙ ap₂ (λ hd tl. link_end nxt prv tl (end_of g v f) hd (cross_mark + hd) (wrap_mark + end_of g v f) (makes (end_of g v f) tl (hoop.count + 1)))
        (told.headed (suc-le-suc zero-le)) (told.tailed (suc-le-suc zero-le))))
        (grown_linked (cross_mark + end_of g v a) (wrap_mark + end_of g v f) (last_member a t) (Memᴰ.head refl) (stood_first g v a t h st ring)
        (record { counted = add-one hoop.count ∙ ap suc told.counted; headed = λ _. refl; tailed = λ _. refl }))
      where
        some : hoop.count ≡ 0 → ⊥
        some z = omega (arith, told.counted)

    -- after the last of them
    grown_last : (a : ℕ) (t : List ℕ) → Ready g v n nxt prv (a ∷ t) f → Stood g state v taken nxt prv (a ∷ t) → Told g v (a ∷ t) hoop
        → RingOf g state v more ((a ∷ t) ++ (f ∷ []))
        → Grown g state v more nxt prv (f ∷ (a ∷ t)) (put_end nxt prv hoop (After (end_of g v (last_of a t))) (end_of g v f))
    grown_last a t h st told ring = subst (Grown g state v more nxt prv (f ∷ (a ∷ t)))
        (sym (pick_true _ _ (eq-eqb (end_of g v (last_of a t)) hoop.tail (sym (told.tailed (suc-le-suc zero-le))))
        ∙ ap₂ (λ hd tl. link_end nxt prv tl (end_of g v f) hd (wrap_mark + hd) (cross_mark + end_of g v f) (makes hd (end_of g v f) (hoop.count + 1)))
        (told.headed (suc-le-suc zero-le)) (told.tailed (suc-le-suc zero-le))))
        (grown_linked (wrap_mark + end_of g v a) (cross_mark + end_of g v f) (last_member a t) (Memᴰ.head refl) (stood_last g v a t h st ring)
        (record {
          counted = omega (arith, told.counted, length-append t (f ∷ []));
          headed = λ _. refl;
          tailed = λ _. ap (end_of g v) (sym (last_behind a t f []));
        }))

    -- after r, which stands behind s
    pub grown_after : (s : List ℕ) (r : ℕ) (t : List ℕ) → Ready g v n nxt prv (s ++ (r ∷ t)) f → Stood g state v taken nxt prv (s ++ (r ∷ t))
        → Told g v (s ++ (r ∷ t)) hoop → RingOf g state v more (s ++ (r ∷ (f ∷ t)))
        → Grown g state v more nxt prv (f ∷ (s ++ (r ∷ t))) (put_end nxt prv hoop (After (end_of g v r)) (end_of g v f))
    grown_after [] r [] h st told ring = grown_last r [] h st told ring
    grown_after (p ∷ s) r [] h st told ring =
        subst (λ x. Grown g state v more nxt prv (f ∷ (p ∷ (s ++ (r ∷ [])))) (put_end nxt prv hoop (After (end_of g v x)) (end_of g v f)))
        (last_behind p s r []) (grown_last p (s ++ (r ∷ [])) h st told
        (subst (λ l. RingOf g state v more (p ∷ l)) (sym (append_assoc s (r ∷ []) (f ∷ []))) ring))
    grown_after s r (a ∷ t) h st told ring = subst (Grown g state v more nxt prv (f ∷ (s ++ (r ∷ (a ∷ t)))))
        (sym (pick_false _ _ (ne_eqb (end_of g v r) hoop.tail inner)
        ∙ ap (λ z. link_end nxt prv (end_of g v r) (end_of g v f) (z - cross_mark) z (cross_mark + end_of g v f)
        (makes hoop.head hoop.tail (hoop.count + 1))) (next_is g v s r a t st)
        ∙ ap (λ z. link_end nxt prv (end_of g v r) (end_of g v f) z (cross_mark + end_of g v a) (cross_mark + end_of g v f)
        (makes hoop.head hoop.tail (hoop.count + 1))) (less (end_of g v a))))
        (grown_linked (cross_mark + end_of g v a) (cross_mark + end_of g v f) (Memᴰ.append_right s (Memᴰ.head refl))
        (Memᴰ.append_right s (Memᴰ.tail (Memᴰ.head refl))) (stood_between g v s r a t h st ring)
        (record {
          counted = omega (arith, told.counted, length-append s (r ∷ (a ∷ t)), length-append s (r ∷ (f ∷ (a ∷ t))));
          headed = λ _. told.headed filled ∙ ap (end_of g v) (head_before s r (a ∷ t) (f ∷ (a ∷ t)));
          tailed = λ _. told.tailed filled ∙ ap (end_of g v) (last_behind 0 s r (a ∷ t) ∙ sym (last_behind 0 s r (f ∷ (a ∷ t))));
        }))
      where
        less : (z : ℕ) → cross_mark + z - cross_mark ≡ z
        less z = omega arith

        filled : 0 < length (s ++ (r ∷ (a ∷ t)))
        filled = omega (arith, length-append s (r ∷ (a ∷ t)))

        -- r is not the last
        inner : end_of g v r ≡ hoop.tail → ⊥
        inner q =
            let same : r ≡ last_of a t = end_once g v r (last_of a t) (q ∙ told.tailed filled ∙ ap (end_of g v) (last_behind 0 s r (a ∷ t))) in
            ring_irreflexive g v r (h.forward r (Memᴰ.tail (Memᴰ.append_right s (Memᴰ.head refl))))
            (subst (InOrder g v r) (sym same) ((sorted_parts (InOrder g v) s (r ∷ (a ∷ t)) st.ring.sorted).right.0 (last_of a t) (last_member a t)))
