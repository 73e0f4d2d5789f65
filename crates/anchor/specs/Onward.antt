-- Vectors that run onward, rightward or straight up, as every edge at a contour's least point does: no turn from one to
-- another passes straight down, and of two of which neither is clockwise of the other both have one direction.
use Rattle.std.specs.Prelude.{◌≡◌, refl, ◌⊎◌, Bool, true, false, not, ◌&&◌, [], ◌∷◌, ℤ, pos, neg_ℤ, ◌-ℤ◌, ◌*ℤ◌, ◌<ℤ◌}
use Rattle.std.proofs.Common.{sym, ap, ◌∙◌, inl, inr}
use Rattle.std.specs.Int.Signed.{lt_z}
use Rattle.laws.specs.Test.{Is, yes!, is_true, not_is, ◌⇒◌, mp, and_true}
use Rattle.laws.specs.Ring.{ring, var, con, ◌:+◌, ◌:-◌, ◌:*◌, neg}
use Rattle.laws.specs.Sign.{Sgn, mns, zer, pls, sgn, flip, ◌⊗◌, is_mns, eq_s, plus_ok, all3, all6, three, sgn_neg, sgn_mul, sgn_add, lt_z_sgn}
use Rattle.laws.specs.Order.{sub_pos, <-sgn, antisym}
use Rattle.laws.specs.Compare.{lt_yes, lt_no}
use Rattle.turn.specs.declared.Point.{Point}
use Rattle.turn.specs.declared.Vector.{Vector}
use Rattle.turn.specs.Points.{before, from_to, cross, dot, clockwise}
use Rattle.turn.specs.Angle.{same_direction}
use Rattle.turn.specs.Directions.{cross_anti}

-- ---- from the least point every edge runs onward: rightward, or straight up
abbrev pub Onward : Vector → Type 0
Onward v = (pos 0 <ℤ v.x) ⊎ ((v.x ≡ pos 0) × (pos 0 <ℤ v.y))

pub onward : (p q : Point) → before p q ≡ true → Onward (from_to p q)
onward p q e = go (lt_z p.x q.x) refl
  where
    nothing : (x y : ℤ) → x ≡ y → y -ℤ x ≡ pos 0
    nothing x y h = rw h (ring (y ∷ []) (var 0 :- var 0) (con (pos 0)) tt)

    go : (b : Bool) → lt_z p.x q.x ≡ b → Onward (from_to p q)
    go true h = inl (sub_pos p.x q.x (lt_yes p.x q.x h))
    go false h =
        let k = and_true (not (lt_z q.x p.x)) (lt_z p.y q.y) (rw h at e) in
        inr (
          nothing p.x q.x (antisym (lt_no q.x p.x (not_is (lt_z q.x p.x) k.0)) (lt_no p.x q.x h)),
          sub_pos p.y q.y (lt_yes p.y q.y k.1),
        )

abbrev ahead : Sgn → Sgn → Bool
ahead mns b = false
ahead zer b = eq_s b pls
ahead pls b = true

runs_ahead : (v : Vector) → Onward v → Is (ahead (sgn v.x) (sgn v.y))
runs_ahead v (inl h) = rw (<-sgn v.x h) (yes! tt)
runs_ahead v (inr (e, h)) = rw (e, <-sgn v.y h) (yes! tt)

-- two such vectors of which neither is clockwise of the other: by all signs of their coordinates, of the cross and of the dot product
abbrev alike : Sgn → Sgn → Sgn → Sgn → Sgn → Sgn → Bool
alike a b c d s e =
    ahead a b ⇒ (ahead c d ⇒ (not (is_mns s) ⇒ (not (is_mns (flip s)) ⇒
    (plus_ok (a ⊗ d) (flip (b ⊗ c)) s ⇒ (plus_ok (a ⊗ c) (b ⊗ d) e ⇒ (eq_s s zer && eq_s e pls))))))

pub one_direction : (at p q : Point) → before at p ≡ true → before at q ≡ true → clockwise at p q ≡ false → clockwise at q p ≡ false
    → Is (same_direction (from_to at p) (from_to at q))
one_direction at p q hp hq e f =
    mp (mp (mp (mp (mp (mp
    (all6 alike tt (sgn u.x) (sgn u.y) (sgn v.x) (sgn v.y) (sgn (cross u v)) (sgn (dot u v)))
    (runs_ahead u (onward at p hp))) (runs_ahead v (onward at q hq))) (no _ (sym (lt_z_sgn (cross u v)) ∙ e))) (no _ back)) crossed) dotted
  where
    u : Vector
    u = from_to at p

    v : Vector
    v = from_to at q

    no : (b : Bool) → b ≡ false → Is (not b)
    no b h = rw h (yes! tt)

    back : is_mns (flip (sgn (cross u v))) ≡ false
    back = ap is_mns (sym (sgn_neg (cross u v))) ∙ ap (λ (z : ℤ). is_mns (sgn z)) (sym (cross_anti u v)) ∙ sym (lt_z_sgn (cross v u)) ∙ f

    crossed : Is (plus_ok (sgn u.x ⊗ sgn v.y) (flip (sgn u.y ⊗ sgn v.x)) (sgn (cross u v)))
    crossed = rw (sgn_mul u.x v.y, sgn_neg (u.y *ℤ v.x), sgn_mul u.y v.x) at (sgn_add (u.x *ℤ v.y) (neg_ℤ (u.y *ℤ v.x)))

    dotted : Is (plus_ok (sgn u.x ⊗ sgn v.x) (sgn u.y ⊗ sgn v.y) (sgn (dot u v)))
    dotted = rw (sgn_mul u.x v.x, sgn_mul u.y v.y) at (sgn_add (u.x *ℤ v.x) (u.y *ℤ v.y))

-- ---- turning from one vector that runs onward to another never passes straight down
by_one : (s : Sgn) → s ⊗ pls ≡ s
by_one mns = refl
by_one zer = refl
by_one pls = refl

-- against a vector u that runs straight up
module _ (u v : Vector) (e : u.x ≡ pos 0) (h : pos 0 <ℤ u.y) where
  to_up : sgn (cross v u) ≡ sgn v.x
  to_up =
      ap sgn (ap (λ (x : ℤ). v.x *ℤ u.y -ℤ v.y *ℤ x) e ∙ ring (v.x ∷ v.y ∷ u.y ∷ []) (var 0 :* var 2 :- var 1 :* con (pos 0)) (var 0 :* var 2) tt)
      ∙ sgn_mul v.x u.y ∙ ap (λ (s : Sgn). sgn v.x ⊗ s) (<-sgn u.y h) ∙ by_one (sgn v.x)

  from_up : sgn (cross u v) ≡ flip (sgn v.x)
  from_up =
      ap sgn (ap (λ (x : ℤ). x *ℤ v.y -ℤ u.y *ℤ v.x) e ∙ ring (v.x ∷ v.y ∷ u.y ∷ []) (con (pos 0) :* var 1 :- var 2 :* var 0) (neg (var 2 :* var 0)) tt)
      ∙ sgn_neg (u.y *ℤ v.x) ∙ ap flip (sgn_mul u.y v.x ∙ ap (λ (s : Sgn). s ⊗ sgn v.x) (<-sgn u.y h))

low_any : (s : Sgn) → Is (plus_ok s mns mns)
low_any mns = yes! tt
low_any zer = yes! tt
low_any pls = yes! tt

any_high : (s : Sgn) → Is (plus_ok pls s pls)
any_high mns = yes! tt
any_high zer = yes! tt
any_high pls = yes! tt

pub turning : (u v w : Vector) → Onward u → Onward v → Onward w → Is (plus_ok (sgn (cross v u)) (sgn (cross w v)) (sgn (cross w u)))
turning u v w (inl a) (inl b) (inl c) =
    rw (<-sgn u.x a, <-sgn v.x b, <-sgn w.x c) at
    (three v.x (cross w u) w.x (cross v u) u.x (cross w v)
    (ring (u.x ∷ u.y ∷ v.x ∷ v.y ∷ w.x ∷ w.y ∷ [])
    (var 2 :* (var 4 :* var 1 :- var 5 :* var 0))
    (var 4 :* (var 2 :* var 1 :- var 3 :* var 0) :+ var 0 :* (var 4 :* var 3 :- var 5 :* var 2)) tt))
turning u v w (inl a) (inl b) (inr (c, d)) =
    rw (from_up w v c d ∙ ap flip (<-sgn v.x b), from_up w u c d ∙ ap flip (<-sgn u.x a)) (low_any (sgn (cross v u)))
turning u v w (inl a) (inr (b, d)) (inl c) =
    rw (from_up v u b d ∙ ap flip (<-sgn u.x a), to_up v w b d ∙ <-sgn w.x c) (yes! tt)
turning u v w (inl a) (inr (b, d)) (inr (c, f)) =
    rw (from_up v u b d ∙ ap flip (<-sgn u.x a), to_up v w b d ∙ ap sgn c, from_up w u c f ∙ ap flip (<-sgn u.x a)) (yes! tt)
turning u v w (inr (a, d)) (inl b) (inl c) =
    rw (to_up u v a d ∙ <-sgn v.x b, to_up u w a d ∙ <-sgn w.x c) (any_high (sgn (cross w v)))
turning u v w (inr (a, d)) (inl b) (inr (c, f)) =
    rw (to_up u v a d ∙ <-sgn v.x b, from_up w v c f ∙ ap flip (<-sgn v.x b)) (yes! tt)
turning u v w (inr (a, d)) (inr (b, f)) (inl c) =
    rw (to_up u v a d ∙ ap sgn b, to_up v w b f ∙ <-sgn w.x c, to_up u w a d ∙ <-sgn w.x c) (yes! tt)
turning u v w (inr (a, d)) (inr (b, f)) (inr (c, g)) =
    rw (to_up u v a d ∙ ap sgn b, to_up v w b f ∙ ap sgn c, to_up u w a d ∙ ap sgn c) (yes! tt)

-- none lower than the one before, and none lower than that
pub onward_trans : (u v w : Vector) → Onward u → Onward v → Onward w → lt_z (cross u v) (pos 0) ≡ false → lt_z (cross v w) (pos 0) ≡ false
    → lt_z (cross u w) (pos 0) ≡ false
onward_trans u v w a b c p q =
    lt_z_sgn (cross u w)
    ∙ not_is _ (is_true (mp (mp (mp (all3 adds tt (sgn (cross v w)) (sgn (cross u v)) (sgn (cross u w))) (turning w v u c b a)) (no v w q)) (no u v p)))
  where
    adds : Sgn → Sgn → Sgn → Bool
    adds r s t = plus_ok r s t ⇒ (not (is_mns r) ⇒ (not (is_mns s) ⇒ not (is_mns t)))

    no : (u v : Vector) → lt_z (cross u v) (pos 0) ≡ false → Is (not (is_mns (sgn (cross u v))))
    no u v e = rw (sym (lt_z_sgn (cross u v)) ∙ e) (yes! tt)
