-- Ways to the right, or straight up: from a point to one that is after it (check 3).
use Rattle.std.proofs.Common.{arith, sym, ap, ◌∙◌, ⊎_elim}
use Rattle.std.specs.Prelude.{◌≡◌, refl, Bool, true, false, not, [], ◌∷◌, ℤ, pos, ◌-ℤ◌}
use Rattle.std.specs.Int.Signed.{lt_z}
use Rattle.laws.specs.Test.{Is, yes!, true≢false, not_is, or_true, and_true}
use Rattle.laws.specs.Ring.{ring, var, ◌:-◌, neg}
use Rattle.laws.specs.Sign.{Sgn, mns, zer, pls, sgn, flip, is_mns, sgn_neg, lt_z_sgn}
use Rattle.laws.specs.Order.{lin, sub_parts, lt_z_true, lt_z_false, false_lt_z, <-sgn}
use Rattle.turn.specs.declared.Point.{Point}
use Rattle.turn.specs.declared.Vector.{Vector}
use Rattle.turn.specs.Points.{before, from_to}

abbrev pub right : Sgn → Sgn → Bool
right mns d = false
right zer mns = false
right zer zer = false
right zer pls = true
right pls d = true

abbrev pub Right : Vector → Type 0
Right u = Is (right (sgn u.x) (sgn u.y))

pub right_before : (p q : Point) → before p q ≡ true → Right (from_to p q)
right_before p q e =
    ⊎_elim
    (λ (h : lt_z p.x q.x ≡ true). rw (rising p.x q.x h) (yes! tt))
    (λ h. let k = and_true (not (lt_z q.x p.x)) (lt_z p.y q.y) h in
    rw (rising p.y q.y k.1)
    (up (sgn (q.x -ℤ p.x)) (sym (lt_z_sgn (q.x -ℤ p.x)) ∙ falling p.x q.x (not_is (lt_z q.x p.x) k.0))))
    (or_true (lt_z p.x q.x) _ e)
  where
    rising : (a b : ℤ) → lt_z a b ≡ true → sgn (b -ℤ a) ≡ pls
    rising a b h = <-sgn (b -ℤ a) (omega (lin, sub_parts b a, lt_z_true a b h))

    falling : (a b : ℤ) → lt_z b a ≡ false → lt_z (b -ℤ a) (pos 0) ≡ false
    falling a b h = false_lt_z (b -ℤ a) (pos 0) (omega (arith, sub_parts b a, lt_z_false b a h))

    up : (s : Sgn) → is_mns s ≡ false → Is (right s pls)
    up mns n = absurd (true≢false refl n)
    up zer n = yes! tt
    up pls n = yes! tt

-- the way back
pub sgn_back : (a b : ℤ) → sgn (b -ℤ a) ≡ flip (sgn (a -ℤ b))
sgn_back a b = ap sgn (ring (a ∷ b ∷ []) (var 1 :- var 0) (neg (var 0 :- var 1)) tt) ∙ sgn_neg (a -ℤ b)
