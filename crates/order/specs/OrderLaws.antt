-- Binding's order is in order, and holds each hole once and nothing else.
use Rattle.std.specs.Prelude.{ℕ, zero, suc, ◌<◌, ◌≡◌, refl, ◌⊎◌, Bool, true, false, not, ◌&&◌, [], ◌∷◌, ◌++◌, T, ltb, length, ℤ, pos, ◌-ℤ◌}
use Rattle.std.proofs.Common.{sym, ap, ◌∙◌, subst, inl, inr, arith, add-zero, ltb→lt, lt→ltb, eq-eqb, ne_eqb, lt-ltb, le-ltb, ltb-false}
use Rattle.std.proofs.Math.Decide.{dec_le, ℕ_discrete}
use Rattle.laws.specs.Test.{pick, is_true, true_is, not_is, or_false, and_true}
use Rattle.laws.specs.Ring.{ring, var, con, ◌:-◌, ◌:*◌}
use Rattle.laws.specs.Sign.{sgn}
use Rattle.laws.specs.Compare.{lower, lower_sign, by_sign, lower_trans, lower_neither}
use Rattle.laws.specs.Count.{count, count_snoc}
use Rattle.turn.specs.declared.Point.{Point}
use Rattle.turn.specs.declared.Vector.{Vector}
use Rattle.turn.specs.Points.{before, cross}
use Rattle.turn.specs.Directions.{cross_self}
use Rattle.turn.specs.PointOrder.{before_irreflexive, before_transitive, before_total}
use Rattle.table.specs.Table.{Table, contour_count, is_hole}
use Rattle.table.specs.Sound.{Sound}
use Rattle.anchor.specs.declared.Anchor.{Anchor}
use Rattle.anchor.specs.Anchor.{anchor_edge, anchor_way}
use Rattle.anchor.specs.Anchored.{Anchored}
use Rattle.anchor.specs.Onward.{Onward, onward, turning}
use Rattle.anchor.specs.AnchorLaws.{edge_ahead}
use Rattle.precede.specs.Precedence.{goes_before}
use Rattle.order.specs.HoleOrder.{precedes, holes_below, holes, hole, binding_order}
use Rattle.order.specs.HoleLaws.{Rising, holes_rising, holes_are}
use Rattle.order.specs.Insertion.{Strict, InOrder, sorted_in_order, count_all}

-- ---- by angle, then by number
abbrev by_angle : Vector → Vector → ℕ → ℕ → Bool
by_angle u v c d = lower (pos 0) (cross u v) (ltb c d)

swap : (u v : Vector) → pos 0 -ℤ cross u v ≡ cross v u
swap u v = ring (u.x ∷ u.y ∷ v.x ∷ v.y ∷ []) (con (pos 0) :- (var 0 :* var 3 :- var 1 :* var 2)) (var 2 :* var 1 :- var 3 :* var 0) tt

angle_trans : (u v w : Vector) (c d e : ℕ) → Onward u → Onward v → Onward w → by_angle u v c d ≡ true → by_angle v w d e ≡ true → by_angle u w c e ≡ true
angle_trans u v w c d e a b f p q =
    is_true (record {
      is = lower_trans (pos 0) (cross u v) (pos 0) (cross v w) (pos 0) (cross u w) (ltb c d) (ltb d e) (ltb c e)
          (rw (swap u v, swap v w, swap u w) (turning u v w a b f)) (λ m n. lt→ltb c e (l m n)) (true_is p).is (true_is q).is;
    })
  where
    l : T (ltb c d) → T (ltb d e) → c < e
    l m n = omega (arith, ltb→lt c d m, ltb→lt d e n)

angle_neither : (u v : Vector) (c d : ℕ) → by_angle u v c d ≡ false → by_angle v u d c ≡ false → c ≡ d
angle_neither u v c d p q =
    let n = lower_neither (pos 0) (cross u v) (ltb c d) (ltb d c) p (turned ∙ q) in
    omega (arith, ltb-false c d n.1, ltb-false d c n.2)
  where
    turned : lower (cross u v) (pos 0) (ltb d c) ≡ by_angle v u d c
    turned =
        lower_sign (cross u v) (pos 0) (ltb d c)
        ∙ ap (λ (z : ℤ). by_sign (sgn z) (ltb d c)) (ring (u.x ∷ u.y ∷ v.x ∷ v.y ∷ []) ((var 0 :* var 3 :- var 1 :* var 2) :- con (pos 0))
        (con (pos 0) :- (var 2 :* var 1 :- var 3 :* var 0)) tt)
        ∙ sym (lower_sign (pos 0) (cross v u) (ltb d c))

-- ---- by anchor, then so
module _ (a b : Anchor) (c d : ℕ) where
  abbrev How : Type 0
  How = (before a.at b.at ≡ true) ⊎ ((a.at ≡ b.at) × (by_angle (anchor_way a) (anchor_way b) c d ≡ true))

  how : goes_before a b c d ≡ true → How
  how e = go (before a.at b.at) refl
    where
      go : (x : Bool) → before a.at b.at ≡ x → How
      go true h = inl h
      go false h =
          let k = and_true (not (before b.at a.at)) (by_angle (anchor_way a) (anchor_way b) c d) (rw h at e) in
          inr (before_total a.at b.at h (not_is (before b.at a.at) k.0), k.1)

  thus : How → goes_before a b c d ≡ true
  thus (inl h) = rw h
  thus (inr (e, h)) =
      let f : before a.at b.at ≡ false = rw e (before_irreflexive b.at) in
      let g : before b.at a.at ≡ false = rw e (before_irreflexive b.at) in
      rw (f, g, h)

goes_trans : (a b f : Anchor) (c d e : ℕ) → Onward (anchor_way a) → Onward (anchor_way b) → Onward (anchor_way f) → goes_before a b c d ≡ true
    → goes_before b f d e ≡ true → goes_before a f c e ≡ true
goes_trans a b f c d e x y z p q = thus a f c e (go (how a b c d p) (how b f d e q))
  where
    go : How a b c d → How b f d e → How a f c e
    go (inl h) (inl k) = inl (before_transitive a.at b.at f.at h k)
    go (inl h) (inr (k, m)) = inl (subst (λ (r : Point). before a.at r ≡ true) k h)
    go (inr (h, m)) (inl k) = inl (subst (λ (r : Point). before r f.at ≡ true) (sym h) k)
    go (inr (h, m)) (inr (k, n)) = inr (h ∙ k, angle_trans (anchor_way a) (anchor_way b) (anchor_way f) c d e x y z m n)

goes_total : (a b : Anchor) (c d : ℕ) → (c ≡ d → ⊥) → goes_before a b c d ≡ false → goes_before b a d c ≡ true
goes_total a b c d n p = go (goes_before b a d c) refl
  where
    rest : (x y : Bool) → x ≡ false → not x && y ≡ false → y ≡ false
    rest x y e f = rw e at f

    neither : goes_before b a d c ≡ false → c ≡ d
    neither q =
        let m = or_false (before a.at b.at) (not (before b.at a.at) && by_angle (anchor_way a) (anchor_way b) c d) p in
        let k = or_false (before b.at a.at) (not (before a.at b.at) && by_angle (anchor_way b) (anchor_way a) d c) q in
        angle_neither (anchor_way a) (anchor_way b) c d (rest (before b.at a.at) _ k.0 m.1) (rest (before a.at b.at) _ m.0 k.1)

    go : (r : Bool) → goes_before b a d c ≡ r → goes_before b a d c ≡ true
    go true q = q
    go false q = absurd (n (neither q))

-- a hole does not go before itself
pub precedes_itself : (t : Table) (cw : Bool) (c : ℕ) → precedes t cw c c ≡ false
precedes_itself t cw c =
    let a = anchor_edge t cw c in
    rw (before_irreflexive a.at, cross_self (anchor_way a)) (le-ltb c c (omega arith))

-- ---- in a table that passes checks 10 and 11
module _ (t : Table) (cw : Bool) (s : Sound t) (a : Anchored t cw) where
  -- a hole of the table
  abbrev pub IsHole : ℕ → Type 0
  IsHole c = (c < contour_count t) × (is_hole t c ≡ true)

  ahead : (c : ℕ) → IsHole c → Onward (anchor_way (anchor_edge t cw c))
  ahead c (l, h) = onward (anchor_edge t cw c).at (anchor_edge t cw c).to (edge_ahead t cw s a c l h)

  pub strict : Strict (precedes t cw) IsHole
  strict = record {
    transitive = λ x y z h k m. goes_trans (anchor_edge t cw x) (anchor_edge t cw y) (anchor_edge t cw z) x y z (ahead x h) (ahead y k) (ahead z m);
    total = λ x y h k n. goes_total (anchor_edge t cw x) (anchor_edge t cw y) x y n;
  }

  -- of two holes in binding's order the first goes before the second
  pub in_order : InOrder (precedes t cw) (binding_order t cw) (length (holes t))
  in_order =
      sorted_in_order (precedes t cw) IsHole strict (hole t) (length (holes t))
      (λ k h. (r.below k h, holes_are t (contour_count t) k h)) (λ i j h k e. apart (r.rises i j h k) e)
    where
      r : Rising (holes t) (contour_count t)
      r = holes_rising t (contour_count t)

      apart : {m n : ℕ} → m < n → n ≡ m → ⊥
      apart h e = omega arith

-- ---- each hole once, and nothing else
abbrev once : Bool → ℕ
once b = pick b 1 0

holes_once : (t : Table) (c n : ℕ) → count c (holes_below t n) ≡ once (ltb c n && is_hole t c)
unfolding holes_below count
holes_once t c zero = rw (le-ltb c 0 (omega arith))
holes_once t c (suc n) = go (is_hole t n) refl (ℕ_discrete c n) (holes_once t c n)
  where
    same : (c ≡ n → ⊥) → ltb c n ≡ ltb c (suc n)
    same e = at (dec_le (suc c) n)
      where
        at : Dec (c < n) → ltb c n ≡ ltb c (suc n)
        at (yes h) = lt-ltb c n h ∙ sym (lt-ltb c (suc n) (omega arith))
        at (no h) = le-ltb c n (omega arith) ∙ sym (le-ltb c (suc n) (omega arith))

    go : (b : Bool) → is_hole t n ≡ b → Dec (c ≡ n) → count c (holes_below t n) ≡ once (ltb c n && is_hole t c)
        → count c (pick b (holes_below t n ++ (n ∷ [])) (holes_below t n)) ≡ once (ltb c (suc n) && is_hole t c)
    go true q (yes e) r = count_snoc c n (holes_below t n) ∙ rw (r, e, le-ltb n n (omega arith), eq-eqb n n refl, lt-ltb n (suc n) (omega arith), q)
    go true q (no e) r = count_snoc c n (holes_below t n) ∙ rw (r, ne_eqb n c (λ q. e (sym q)), same e) (add-zero (once (ltb c (suc n) && is_hole t c)))
    go false q (yes e) r = r ∙ rw (e, q, le-ltb n n (omega arith), lt-ltb n (suc n) (omega arith))
    go false q (no e) r = r ∙ rw (same e)

pub each_once : (t : Table) (cw : Bool) (c : ℕ) → count c (binding_order t cw) ≡ once (ltb c (contour_count t) && is_hole t c)
each_once t cw c = count_all c (precedes t cw) (holes t) ∙ holes_once t c (contour_count t)
