-- Laws of points: the order, when two are one, the bounds; and that having one direction goes both ways.
use Rattle.std.specs.Prelude.{◌≡◌, refl, Bool, true, false, not, ◌&&◌, ◌⊎◌, ℤ, neg_ℤ, ◌≤ℤ◌, ◌<ℤ◌, T, [], ◌∷◌}
use Rattle.std.proofs.Common.{sym, ap, ◌∙◌, subst, inl, inr, ⊎_elim}
use Rattle.std.specs.Int.Signed.{lt_z, lt_z_no, lt_z_yes, <ℤ_irrefl, clash_ℤ, ≤ℤ_refl}
use Rattle.laws.specs.Test.{or_false, false_or, and_false, true_is, is_true, not_true}
use Rattle.laws.specs.Order.{lin, antisym, tricho}
use Rattle.turn.specs.declared.Point.{Point}
use Rattle.laws.specs.Ring.{ring, var, neg, ◌:-◌, ◌:+◌, ◌:*◌}
use Rattle.laws.specs.Sign.{Sgn, mns, zer, pls, sgn, flip, eq_s, sgn_neg}
use Rattle.turn.specs.declared.Vector.{Vector}
use Rattle.turn.specs.Points.{before, differ, cross, dot}
use Rattle.turn.specs.Angle.{same_direction}

-- ---- tests of integers
lt_z_false : (a b : ℤ) → lt_z a b ≡ false → b ≤ℤ a
lt_z_false a b e = lt_z_no (true_is (ap not e)).is

le_lt_z : (a b : ℤ) → b ≤ℤ a → lt_z a b ≡ false
le_lt_z a b h = not_true (lt_z a b) (λ e. clash_ℤ (lt_z_yes (true_is e).is) h)

-- ---- p is q or before q
pub data Upto (p q : Point) : Type 0 where
  left : p.x <ℤ q.x → Upto p q
  under : p.x ≡ q.x → p.y ≤ℤ q.y → Upto p q

pub upto : (p q : Point) → before q p ≡ false → Upto p q
upto p q e = go (tricho p.x q.x)
  where
    o : (lt_z q.x p.x ≡ false) × (not (lt_z p.x q.x) && lt_z q.y p.y ≡ false)
    o = or_false _ _ e

    go : (p.x <ℤ q.x) ⊎ ((p.x ≡ q.x) ⊎ (q.x <ℤ p.x)) → Upto p q
    go (inl h) = left h
    go (inr (inl h)) =
        ⊎_elim
        (λ (k : not (lt_z p.x q.x) ≡ false). absurd
        (<ℤ_irrefl (subst (λ (t : ℤ). t <ℤ q.x) h (lt_z_yes (true_is (sym (not_not (lt_z p.x q.x)) ∙ ap not k)).is))))
        (λ (k : lt_z q.y p.y ≡ false). under h (lt_z_false q.y p.y k))
        (and_false _ _ o.1)
      where
        not_not : (b : Bool) → not (not b) ≡ b
        not_not true = refl
        not_not false = refl
    go (inr (inr h)) = clash_ℤ h (lt_z_false q.x p.x o.0)

pub not_before : {p q : Point} → Upto p q → before q p ≡ false
not_before {p} {q} (left h) =
    let a : lt_z q.x p.x ≡ false = le_lt_z q.x p.x (omega lin) in
    let b : lt_z p.x q.x ≡ true = by h.lt in
    simp (a, b)
  where
    by : T (lt_z p.x q.x) → lt_z p.x q.x ≡ true
    by t = is_true (record { is = t })
not_before {p} {q} (under e h) =
    let a : lt_z q.x p.x ≡ false = le_lt_z q.x p.x (subst (λ (t : ℤ). p.x ≤ℤ t) e (≤ℤ_refl p.x)) in
    let b : lt_z q.y p.y ≡ false = le_lt_z q.y p.y h in
    false_or _ _ a (and_no (not (lt_z p.x q.x)) (lt_z q.y p.y) b)
  where
    and_no : (a b : Bool) → b ≡ false → a && b ≡ false
    and_no true b e = e
    and_no false b e = refl

pub upto_refl : (p : Point) → Upto p p
upto_refl p = under refl (≤ℤ_refl p.y)

pub upto_trans : {p q r : Point} → Upto p q → Upto q r → Upto p r
upto_trans (left h) (left k) = left (omega lin)
upto_trans {p} {q} {r} (left h) (under e k) = left (subst (λ (t : ℤ). p.x <ℤ t) e h)
upto_trans {p} {q} {r} (under e h) (left k) = left (subst (λ (t : ℤ). t <ℤ r.x) (sym e) k)
upto_trans (under e h) (under f k) = under (e ∙ f) (omega lin)

-- ---- two points that do not differ are one
same_x : {p q : Point} → Upto p q → Upto q p → p.x ≡ q.x
same_x {p} {q} (left h) (left k) = let l : p.x <ℤ p.x = omega lin in absurd (<ℤ_irrefl l)
same_x (left h) (under e k) = sym e
same_x (under e h) k = e

same_y : {p q : Point} → p.x ≡ q.x → Upto p q → p.y ≤ℤ q.y
same_y {p} {q} e (left h) = absurd (<ℤ_irrefl (subst (λ (t : ℤ). t <ℤ q.x) e h))
same_y e (under f h) = h

pub same_point : (p q : Point) → differ p q ≡ false → p ≡ q
same_point p q e =
    let o = or_false (before p q) (before q p) e in
    let h = upto q p o.0 in
    let k = upto p q o.1 in
    let ex : p.x ≡ q.x = same_x k h in
    let ey : p.y ≡ q.y = antisym (same_y ex k) (same_y (sym ex) h) in
    λ i. record { x = ex i; y = ey i }

pub not_differ : (p q : Point) → p ≡ q → differ p q ≡ false
not_differ p q e = subst (λ (r : Point). differ p r ≡ false) e (false_or _ _ (not_before (upto_refl p)) (not_before (upto_refl p)))

-- ---- directions
flat : (s : Sgn) → eq_s (flip s) zer ≡ eq_s s zer
flat mns = refl
flat zer = refl
flat pls = refl

turned : (u v : Vector) → cross v u ≡ neg_ℤ (cross u v)
turned u v = ring (u.x ∷ u.y ∷ v.x ∷ v.y ∷ []) (var 2 :* var 1 :- var 3 :* var 0) (neg (var 0 :* var 3 :- var 1 :* var 2)) tt

swapped : (u v : Vector) → dot v u ≡ dot u v
swapped u v = ring (u.x ∷ u.y ∷ v.x ∷ v.y ∷ []) (var 2 :* var 0 :+ var 3 :* var 1) (var 0 :* var 2 :+ var 1 :* var 3) tt

pub same_direction_sym : (u v : Vector) → same_direction v u ≡ same_direction u v
same_direction_sym u v =
    let c : eq_s (sgn (cross v u)) zer ≡ eq_s (sgn (cross u v)) zer = ap (λ (z : ℤ). eq_s (sgn z) zer) (turned u v)
    ∙ ap (λ (s : Sgn). eq_s s zer) (sgn_neg (cross u v)) ∙ flat (sgn (cross u v)) in
    let d : eq_s (sgn (dot v u)) pls ≡ eq_s (sgn (dot u v)) pls = ap (λ (z : ℤ). eq_s (sgn z) pls) (swapped u v) in
    λ i. c i && d i
