-- The order of points: strict, transitive, total; that the vector between two points that differ is not 0; and what the test of the bounds says.
use Rattle.std.specs.Prelude.{◌-◌, ◌≡◌, refl, ◌⊎◌, Bool, true, false, not, ◌&&◌, ◌||◌, ℤ, pos, negsuc, ◌-ℤ◌}
use Rattle.std.proofs.Common.{sym, ◌∙◌, subst, inl, inr, ⊎_elim, arith, ltb-false, le-ltb}
use Rattle.std.specs.Int.Signed.{lt_z}
use Rattle.laws.specs.Test.{Is, yes!, true_is, true≢false, not_true, not_is, or_false, false_or, or_true, and_true}
use Rattle.laws.specs.Fails.{Fails, or_fails}
use Rattle.laws.specs.Int.{same, sub_zero_eq}
use Rattle.laws.specs.Sign.{zer, sgn, eq_s, eq_s_eq, sgn_zer}
use Rattle.laws.specs.Order.{lt_z_true, lt_z_false, true_lt_z, false_lt_z}
use Rattle.turn.specs.declared.Point.{Point}
use Rattle.turn.specs.Limits.{max_coordinate}
use Rattle.turn.specs.Points.{before, differ, outside, off_grid, Coord, OnGrid, from_to}
use Rattle.turn.specs.Angle.{nonzero}

-- ---- the two ways to be before
by_x : (p q : Point) → lt_z p.x q.x ≡ true → before p q ≡ true
by_x p q e = rw e

by_y : (p q : Point) → lt_z q.x p.x ≡ false → lt_z p.y q.y ≡ true → before p q ≡ true
by_y p q e f = go (lt_z p.x q.x)
  where
    go : (b : Bool) → b || (not (lt_z q.x p.x) && lt_z p.y q.y) ≡ true
    go true = refl
    go false = rw (e, f)

abbrev Ways : Point → Point → Type 0
Ways p q = (lt_z p.x q.x ≡ true) ⊎ ((lt_z q.x p.x ≡ false) × (lt_z p.y q.y ≡ true))

ways : (p q : Point) → before p q ≡ true → Ways p q
ways p q e =
    ⊎_elim inl (λ h. let k = and_true (not (lt_z q.x p.x)) (lt_z p.y q.y) h in inr (not_is (lt_z q.x p.x) k.0, k.1))
    (or_true (lt_z p.x q.x) (not (lt_z q.x p.x) && lt_z p.y q.y) e)

-- ---- strict, transitive
pub before_irreflexive : (p : Point) → before p p ≡ false
before_irreflexive p = let x = false_lt_z p.x p.x (omega arith) in rw (x, false_lt_z p.y p.y (omega arith))

trans_ways : (p q r : Point) → Ways p q → Ways q r → before p r ≡ true
trans_ways p q r (inl a) (inl b) = by_x p r (true_lt_z p.x r.x (omega (arith, lt_z_true p.x q.x a, lt_z_true q.x r.x b)))
trans_ways p q r (inl a) (inr b) = by_x p r (true_lt_z p.x r.x (omega (arith, lt_z_true p.x q.x a, lt_z_false r.x q.x b.0)))
trans_ways p q r (inr a) (inl b) = by_x p r (true_lt_z p.x r.x (omega (arith, lt_z_false q.x p.x a.0, lt_z_true q.x r.x b)))
trans_ways p q r (inr a) (inr b) =
    by_y p r (false_lt_z r.x p.x (omega (arith, lt_z_false q.x p.x a.0, lt_z_false r.x q.x b.0)))
    (true_lt_z p.y r.y (omega (arith, lt_z_true p.y q.y a.1, lt_z_true q.y r.y b.1)))

pub before_transitive : (p q r : Point) → before p q ≡ true → before q r ≡ true → before p r ≡ true
before_transitive p q r e f = trans_ways p q r (ways p q e) (ways q r f)

pub before_asymmetric : (p q : Point) → before p q ≡ true → before q p ≡ false
before_asymmetric p q e = not_true (before q p) (λ f. true≢false (before_transitive p q p e f) (before_irreflexive p))

-- ---- total
same_number : (a b : ℤ) → lt_z a b ≡ false → lt_z b a ≡ false → a ≡ b
same_number a b e f = same a b (omega (arith, lt_z_false a b e, lt_z_false b a f))

pub before_total : (p q : Point) → before p q ≡ false → before q p ≡ false → p ≡ q
before_total p q e f =
    let a = or_false (lt_z p.x q.x) (not (lt_z q.x p.x) && lt_z p.y q.y) e in
    let b = or_false (lt_z q.x p.x) (not (lt_z p.x q.x) && lt_z q.y p.y) f in
    let x = same_number p.x q.x a.0 b.0 in
    let y = same_number p.y q.y (rw b.0 at a.1) (rw a.0 at b.1) in
    λ i. record { x = x i; y = y i }

-- not before is transitive too: what sorted lists are sorted by
pub not_before_transitive : (p q r : Point) → before q p ≡ false → before r q ≡ false → before r p ≡ false
not_before_transitive p q r e f = not_true (before r p) (λ g. go g (before p q) refl)
  where
    go : before r p ≡ true → (b : Bool) → before p q ≡ b → ⊥
    go g true h = true≢false (before_transitive r p q g h) f
    go g false h = true≢false (subst (λ s. before r s ≡ true) (before_total p q h e) g) f

-- ---- two points that differ
pub differ_same : (p : Point) → differ p p ≡ false
differ_same p = rw (before_irreflexive p)

pub same_of_differ : (p q : Point) → differ p q ≡ false → p ≡ q
same_of_differ p q e = let h = or_false (before p q) (before q p) e in before_total p q h.0 h.1

pub before_differ : (p q : Point) → before p q ≡ true → differ p q ≡ true
before_differ p q e = rw e

pub differ_sym : (p q : Point) → differ p q ≡ differ q p
differ_sym p q = go (before p q) (before q p)
  where
    go : (a b : Bool) → a || b ≡ b || a
    go true true = refl
    go true false = refl
    go false true = refl
    go false false = refl

pub nonzero_between : (p q : Point) → differ p q ≡ true → Is (nonzero (from_to p q))
nonzero_between p q e = go (eq_s (sgn (q.x -ℤ p.x)) zer && eq_s (sgn (q.y -ℤ p.y)) zer) refl
  where
    go : (b : Bool) → (eq_s (sgn (q.x -ℤ p.x)) zer && eq_s (sgn (q.y -ℤ p.y)) zer) ≡ b → Is (not b)
    go true h = absurd (true≢false e (subst (λ r. differ p r ≡ false) at (differ_same p)))
      where
        k : (eq_s (sgn (q.x -ℤ p.x)) zer ≡ true) × (eq_s (sgn (q.y -ℤ p.y)) zer ≡ true)
        k = and_true _ _ h

        number : (a b : ℤ) → eq_s (sgn (a -ℤ b)) zer ≡ true → b ≡ a
        number a b e = sym (sub_zero_eq a b (sgn_zer (a -ℤ b) (eq_s_eq (true_is e))))

        at : p ≡ q
        at = λ i. record { x = number q.x p.x k.0 i; y = number q.y p.y k.1 i }
    go false h = yes! tt

-- both ways along a link, whose a is before its b
pub nonzero_forward : (p q : Point) → before p q ≡ true → Is (nonzero (from_to p q))
nonzero_forward p q e = nonzero_between p q (before_differ p q e)

pub nonzero_back : (p q : Point) → before p q ≡ true → Is (nonzero (from_to q p))
nonzero_back p q e = nonzero_between q p (differ_sym q p ∙ before_differ p q e)

-- ---- within the bounds
pub coord : (z : ℤ) → outside z ≡ false → Coord z
coord (pos n) e = ltb-false max_coordinate n e
coord (negsuc n) e = let h = ltb-false (max_coordinate - 1) n (or_false _ _ e).0 in omega arith

pub inside : (z : ℤ) → Coord z → outside z ≡ false
inside (pos n) h = le-ltb max_coordinate n h
inside (negsuc n) h = false_or _ _ (le-ltb (max_coordinate - 1) n (omega arith)) refl

-- a point is out of bounds exactly where it is not on the grid
pub on_grid : (p : Point) → Fails (off_grid p) (OnGrid p)
on_grid p = or_fails (record { to = coord p.x; from = inside p.x }) (record { to = coord p.y; from = inside p.y })
