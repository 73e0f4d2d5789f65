-- After extraction and binding have succeeded, a lookup finds every contour, with the kind and the owner that were written.
use Rattle.std.specs.Prelude.{ℕ, ◌+◌, ◌≤◌, ◌<◌, ◌≡◌, Bool, true, false, ◌&&◌, List, [], ◌∷◌, length, set, take, drop, replicate, eqb, ltb, Some, Ok, Err}
use Rattle.std.proofs.Common.{arith, sym, ap, ◌∙◌, length-set, length-append, length-drop, get_or-set_other, eq-eqb, eqb-true, lt-ltb}
use Rattle.std.proofs.Math.Path.{refl}
use Rattle.std.proofs.Math.ListN.{get_or, get_or-append}
use Rattle.std.proofs.lemmas.List.{length-replicate, get_or-replicate}
use Rattle.std.proofs.lemmas.Bool.{eqb-false}
use Rattle.laws.specs.Test.{pick}
use Rattle.laws.specs.Lists.{tabulate, tabulate_length, tabulate_at, over_front}
use Rattle.table.specs.Table.{Table, contour_count, kind_of, hull_count, shape_of, hulls, dropped_owner}
use Rattle.table.specs.TableChecks.{table_checked}
use Rattle.anchor.specs.AnchorChecks.{anchors_checked, both_checked}
use Rattle.turn.specs.Refusals.{first_fine, Checked, refused, no_fault}
use Rattle.table.specs.Sound.{Sound}
use Rattle.table.specs.Passing.{passes_sound}
use Rattle.lookup.specs.Lookups.{owner_right, record_of, looked_up}
use Rattle.lookup.specs.LookupLaws.{found_record_lem}
use Rattle.owners.specs.Owners.{Owned, owned, given, give_each, first_owner, searched_owners, owners_of, contour_below}
use Rattle.bind.specs.Outcome.{bound_to, Outcome, outcome, handed, handed_by, bound_after, bound}
use Rattle.order.specs.HoleOrder.{binding_order}
use Rattle.order.specs.OrderLaws.{each_once}
use Rattle.owners.specs.OwnerLaws.{owners_below}
use Rattle.laws.specs.Count.{count, count_more, count_most}
use Rattle.turn.specs.declared.Reason.TheVariants.{NoParent}

-- ---- giving leaves the owners of contours that are not gone through
split : {x y : List ℕ} {r q : Checked} → owned r x ≡ owned q y → (r ≡ q) × (x ≡ y)
split e = (ap (λ (w : Owned). w.answer) e, ap (λ (w : Owned). w.owners) e)

zero_one : ◌≡◌ {A = ℕ} 0 1 → ⊥
zero_one x = omega arith

pub record Left (l old new : List ℕ) : Type 0 where
  pub long : length new ≡ length old
  pub same : (c : ℕ) → count c l ≡ 0 → get_or new c 0 ≡ get_or old c 0

left : (under : ℕ → ℕ) (l old new : List ℕ) → give_each under l old ≡ owned no_fault new → Left l old new
unfolding give_each count
left under [] old new e = let q = split e in record { long = ap length (sym q.1); same = λ c h. ap (λ (x : List ℕ). get_or x c 0) (sym q.1) }
left under (d ∷ l) old new e = go (eqb (given (under d) old) dropped_owner) e (left under l (set old d (given (under d) old)) new)
  where
    parent : ℕ
    parent = given (under d) old

    joined : Left l (set old d (given (under d) old)) new → Left (d ∷ l) old new
    joined r = record {
      long = r.long ∙ length-set old d (given (under d) old);
      same = λ c h. r.same c (omega arith) ∙ get_or-set_other old d c (given (under d) old) 0 (λ q. omega (arith, one c q));
    }
      where
        one : (c : ℕ) → c ≡ d → ◌≡◌ {A = ℕ} (pick (eqb d c) 1 0) 1
        one c q = rw (eq-eqb d c (sym q))

    go : (b : Bool) → pick b (owned (refused NoParent d) old) (give_each under l (set old d (given (under d) old))) ≡ owned no_fault new
        → (give_each under l (set old d (given (under d) old)) ≡ owned no_fault new → Left l (set old d (given (under d) old)) new) → Left (d ∷ l) old new
    go true q r = let z : refused NoParent d ≡ no_fault = (split q).0 in let x : ◌≡◌ {A = ℕ} 0 1 = cc in absurd (zero_one x)
    go false q r = joined (r q)

-- ---- the owners that binding works out
pub record Right (t : Table) (l : List ℕ) : Type 0 where
  pub long : length l ≡ contour_count t
  pub right : (c : ℕ) → c < contour_count t → owner_right (kind_of t c) (get_or l c 0) (shape_of t c) (hull_count t) ≡ true

module _ (t : Table) (s : Sound t) (cw : Bool) (l : List ℕ) where
  -- up to a hull, itself among them, there is one hull more than before it
  counted : (c : ℕ) → c < contour_count t → kind_of t c ≡ 0 → shape_of t c + 1 ≤ hull_count t
  counted c h k =
      let m : hulls (take (c + 1) t.kind) ≡ hulls (take c t.kind) + 1 = count_more 0 t.kind c (rw s.kind_long h) ∙ rw (eq-eqb (kind_of t c) 0 k) in
      omega (arith, m, count_most 0 (c + 1) t.kind)

  -- a hull's owner is its own number; a hole's is below the hull count, or 65,535 with no hulls
  right_of : (c o : ℕ) → (kind_of t c ≡ 0 → o ≡ shape_of t c) → ((kind_of t c ≡ 0 → ⊥) → hull_count t ≡ 0 → o ≡ dropped_owner)
      → ((kind_of t c ≡ 0 → ⊥) → (hull_count t ≡ 0 → ⊥) → o < hull_count t)
      → owner_right (kind_of t c) o (shape_of t c) (hull_count t) ≡ true
  right_of c o a b d = by (eqb (kind_of t c) 0) refl (eqb (hull_count t) 0) refl
    where
      by : (x : Bool) → eqb (kind_of t c) 0 ≡ x → (y : Bool) → eqb (hull_count t) 0 ≡ y
          → pick x (eqb o (shape_of t c)) (pick y (eqb o dropped_owner) (ltb o (hull_count t))) ≡ true
      by true e y f = eq-eqb o (shape_of t c) (a (eqb-true _ _ e))
      by false e true f = eq-eqb o dropped_owner (b (eqb-false _ _ e) (eqb-true _ _ f))
      by false e false f = lt-ltb o (hull_count t) (d (eqb-false _ _ e) (eqb-false _ _ f))

  searched : searched_owners t cw ≡ owned no_fault l → Left (binding_order t cw) (tabulate (first_owner t.kind) (contour_count t)) l
  searched e = left (contour_below t cw) (binding_order t cw) (tabulate (first_owner t.kind) (contour_count t)) l e

  not_hole : (c : ℕ) → kind_of t c ≡ 0 → count c (binding_order t cw) ≡ 0
  not_hole c k = each_once t cw c ∙ rw (k) (off (ltb c (contour_count t)))
    where
      off : (b : Bool) → ◌≡◌ {A = ℕ} (pick (b && false) 1 0) 0
      off true = refl
      off false = refl

  hull_own : searched_owners t cw ≡ owned no_fault l → (c : ℕ) → c < contour_count t → kind_of t c ≡ 0 → get_or l c 0 ≡ shape_of t c
  hull_own e c h k = (searched e).same c (not_hole c k) ∙ tabulate_at 0 (first_owner t.kind) (contour_count t) c h ∙ rw (eq-eqb (kind_of t c) 0 k)

  pub owners_right : owners_of t cw ≡ owned no_fault l → Right t l
  unfolding owners_of
  owners_right e = go (eqb (hull_count t) 0) refl (eqb (hull_count t) 1) refl e
    where
      all_below : owners_of t cw ≡ owned no_fault l → 0 < hull_count t → (c : ℕ) → c < contour_count t → get_or l c 0 < hull_count t
      all_below q h = owners_below t s h cw l q

      go : (a : Bool) → eqb (hull_count t) 0 ≡ a → (b : Bool) → eqb (hull_count t) 1 ≡ b
          → pick a (owned no_fault (replicate (contour_count t) dropped_owner)) (pick b (owned no_fault (replicate (contour_count t) 0)) (searched_owners t cw))
          ≡ owned no_fault l → Right t l
      go true f b k q =
          let z : replicate (contour_count t) dropped_owner ≡ l = (split q).1 in
          let n : hull_count t ≡ 0 = eqb-true _ _ f in
          record {
            long = ap length (sym z) ∙ length-replicate (contour_count t) dropped_owner;
            right = λ c h.
                right_of c (get_or l c 0) (λ i. absurd (no_hull_lem (shape_of t c) (hull_count t) (counted c h i) n))
                (λ i j. ap (λ (x : List ℕ). get_or x c 0) (sym z) ∙ get_or-replicate {A = ℕ} (contour_count t) c dropped_owner 0 h) (λ i j. absurd (j n));
          }
        where
          no_hull_lem : (x y : ℕ) → x + 1 ≤ y → y ≡ 0 → ⊥
          no_hull_lem x y h e = omega arith
      go false f true k q =
          let z : replicate (contour_count t) 0 ≡ l = (split q).1 in
          let n : hull_count t ≡ 1 = eqb-true _ _ k in
          record {
            long = ap length (sym z) ∙ length-replicate (contour_count t) 0;
            right = λ c h.
                let o : get_or l c 0 ≡ 0 = ap (λ (x : List ℕ). get_or x c 0) (sym z) ∙ get_or-replicate {A = ℕ} (contour_count t) c 0 0 h in
                right_of c (get_or l c 0) (λ i. omega (arith, o, n, counted c h i)) (λ i j. absurd (clash (hull_count t) j n)) (λ i j. omega (arith, o, n));
          }
        where
          clash : (x : ℕ) → x ≡ 0 → x ≡ 1 → ⊥
          clash x a b = omega arith
      go false f false k q =
          record {
            long = (searched q).long ∙ tabulate_length (first_owner t.kind) (contour_count t);
            right = λ c h. right_of c (get_or l c 0) (hull_own q c h) (λ i j. absurd (eqb-false _ _ f j)) (λ i j. all_below e (positive j) c h);
          }
        where
          positive : (hull_count t ≡ 0 → ⊥) → 0 < hull_count t
          positive j = omega arith

-- ---- the number and the place of what was given are those of its case
abbrev Whole : Owned → Type 0
Whole w = w ≡ owned w.answer w.owners

whole_pick : (b : Bool) (x y : Owned) → Whole x → Whole y → Whole (pick b x y)
whole_pick true x y p q = p
whole_pick false x y p q = q

given_whole : (under : ℕ → ℕ) (l owners : List ℕ) → Whole (give_each under l owners)
unfolding give_each
given_whole under [] owners = refl
given_whole under (c ∷ l) owners =
    whole_pick (eqb (given (under c) owners) dropped_owner) _ _ refl (given_whole under l (set owners c (given (under c) owners)))

owners_whole : (t : Table) (cw : Bool) → Whole (owners_of t cw)
unfolding owners_of
owners_whole t cw =
    whole_pick (eqb (hull_count t) 0) _ _ refl
    (whole_pick (eqb (hull_count t) 1) _ _ refl
    (given_whole (contour_below t cw) (binding_order t cw) (tabulate (first_owner t.kind) (contour_count t))))

-- ---- binding
module _ (t : Table) (cw : Bool) (buffer owner : List ℕ) (shapes dropped : ℕ) where
  by_checked : (o : Checked) → both_checked t (length buffer) cw ≡ o → outcome (bound_to shapes dropped) owner ≡ bound_after o t cw buffer
      → (both_checked t (length buffer) cw ≡ no_fault) × (outcome (bound_to shapes dropped) owner ≡ handed t (owners_of t cw) buffer)
  by_checked (Err r) q h = let z = ap (λ (x : Outcome). x.answer) h in let x : ◌≡◌ {A = ℕ} 0 1 = cc in absurd (zero_one x)
  by_checked (Ok u) q h = (q, h)

  by_given : (w : Owned) → outcome (bound_to shapes dropped) owner ≡ handed t w buffer → (w.answer ≡ no_fault) × (owner ≡ over_front w.owners buffer)
  by_given w h = go w.answer refl h
    where
      go : (a : Checked) → w.answer ≡ a → outcome (bound_to shapes dropped) owner ≡ handed_by t a w.owners buffer → (w.answer ≡ no_fault)
          × (owner ≡ over_front w.owners buffer)
      go (Ok u) q h = (q, ap (λ (x : Outcome). x.owner) h)
      go (Err r) q h = let z = ap (λ (x : Outcome). x.answer) h in let x : ◌≡◌ {A = ℕ} 0 1 = cc in absurd (zero_one x)

  -- The theorem: where binding answers a `Bound`, a lookup finds every contour below the count, and its record has the kind and the owner that were written.
  pub every_found : outcome (bound_to shapes dropped) owner ≡ bound t cw buffer → (c : ℕ) → c < contour_count t → looked_up t owner c
      ≡ Some (record_of t owner c)
  every_found h c l =
      let q = by_checked (both_checked t (length buffer) cw) refl h in
      let ten : table_checked t (length buffer) ≡ no_fault = first_fine (table_checked t (length buffer)) (anchors_checked t cw) q.0 in
      let p = (passes_sound t (length buffer)).to ten in
      let w = by_given (owners_of t cw) q.1 in
      let r : Right t (owners_of t cw).owners = owners_right t p.0 cw (owners_of t cw).owners
      (owners_whole t cw ∙ ap (λ a. owned a (owners_of t cw).owners) w.0) in
      let n : length owner ≡ length buffer = long (owners_of t cw).owners w.1 r.long p.1 in
      let o : get_or owner c 0 ≡ get_or (owners_of t cw).owners c 0 = ap (λ (x : List ℕ). get_or x c 0) w.1
      ∙ get_or-append (owners_of t cw).owners _ 0 c (rw r.long l) in
      found_record_lem t owner c (record {
        below = l;
        passes = rw n ten;
        owned = ap (λ x. owner_right (kind_of t c) x (shape_of t c) (hull_count t)) o ∙ r.right c l;
      })
    where
      long : (x : List ℕ) → owner ≡ over_front x buffer → length x ≡ contour_count t → contour_count t ≤ length buffer → length owner ≡ length buffer
      long x e h k = ap length e ∙ length-append x (drop (length x) buffer) ∙ omega (arith, length-drop (length x) buffer)
