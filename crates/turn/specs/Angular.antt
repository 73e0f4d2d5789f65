-- The laws of the angular order, each for turning clockwise (w true) and counterclockwise (w false) at once.
use Rattle.std.specs.Prelude.{◌≡◌, refl, ◌⊎◌, Bool, false, not, ◌&&◌, ◌||◌}
use Rattle.std.proofs.Common.{sym, ◌∙◌, subst, inl, inr, ⊎_elim}
use Rattle.laws.specs.Test.{Is, yes!, or_e, fst&, snd&, ◌⇒◌, mp, ◌⇔◌, ⇔-eq, both_ways}
use Rattle.laws.specs.Sign.{Sgn, mns, zer, pls, sgn, flip, ◌⊗◌, eq_s, is_mns, plus_ok, all, all3}
use Rattle.turn.specs.declared.Vector.{Vector}
use Rattle.turn.specs.Points.{dot}
use Rattle.turn.specs.Angle.{Half, early, back, late, full, half_turn, sooner, half_of, met_before, same_direction, nonzero}
use Rattle.turn.specs.Directions.{side, side_anti, side_not, side_self, same_side, dot_comm, square_not_below, law, pluecker, same_sym, same_trans}

-- by the signs of the sides e f, e g, f g and of the dot products e f, e g
abbrev met : Sgn → Sgn → Sgn → Sgn → Sgn → Bool
met a b c d i = sooner (half_turn a d) (half_turn b i) c

-- ---- for a fixed e it is a strict order
pub irreflexive : (w : Bool) (e f : Vector) → Is (met_before w e f f) → ⊥
irreflexive w e f h =
    (mp (all3 (λ a d s. sooner (half_turn a d) (half_turn a d) zer ⇒ false) tt (side w e f) (sgn (dot e f)) zer)
    (subst (λ s. Is (sooner (half_of w e f) (half_of w e f) s)) (side_self w f) h)).is

-- every halfTurn
abbrev all_h : (Half → Bool) → Bool
all_h p = p early && (p back && (p late && p full))

all_h_at : (p : Half → Bool) → Is (all_h p) → (h : Half) → Is (p h)
all_h_at p t early = fst& (p early) (p back && (p late && p full)) t
all_h_at p t back = fst& (p back) (p late && p full) (snd& (p early) (p back && (p late && p full)) t)
all_h_at p t late = fst& (p late) (p full) (snd& (p back) (p late && p full) (snd& (p early) (p back && (p late && p full)) t))
all_h_at p t full = snd& (p late) (p full) (snd& (p back) (p late && p full) (snd& (p early) (p back && (p late && p full)) t))

-- the side that a halfTurn lies on
abbrev side_of : Half → Sgn
side_of early = mns
side_of back = zer
side_of late = pls
side_of full = zer

side_of_half : (a d : Sgn) → side_of (half_turn a d) ≡ a
side_of_half mns d = refl
side_of_half zer mns = refl
side_of_half zer zer = refl
side_of_half zer pls = refl
side_of_half pls d = refl

abbrev trans_b : Half → Half → Half → Sgn → Sgn → Sgn → Bool
trans_b hf hg hk s t u = plus_ok (side_of hf ⊗ t) (side_of hk ⊗ s) (side_of hg ⊗ u) ⇒ sooner hf hg s ⇒ sooner hg hk t ⇒ sooner hf hk u

trans_at : (hf hg hk : Half) (s t u : Sgn) → Is (trans_b hf hg hk s t u)
trans_at hf hg hk = all3 (trans_b hf hg hk)
    (all_h_at (λ k. all (λ s. all (λ t. all (trans_b hf hg k s t))))
    (all_h_at (λ g. all_h (λ k. all (λ s. all (λ t. all (trans_b hf g k s t)))))
    (all_h_at (λ f. all_h (λ g. all_h (λ k. all (λ s. all (λ t. all (trans_b f g k s t)))))) (yes! tt) hf) hg) hk).is

relation : (w : Bool) (e f g k : Vector)
    → Is (plus_ok (side_of (half_of w e f) ⊗ side w g k) (side_of (half_of w e k) ⊗ side w f g) (side_of (half_of w e g) ⊗ side w f k))
relation w e f g k = simp side_of_half (pluecker w e f g k)

pub transitive : (w : Bool) (e f g k : Vector) → Is (met_before w e f g) → Is (met_before w e g k) → Is (met_before w e f k)
transitive w e f g k p q =
    mp (mp (mp (trans_at (half_of w e f) (half_of w e g) (half_of w e k) (side w f g) (side w g k) (side w f k)) (relation w e f g k)) p) q

pub asymmetric : (w : Bool) (e f g : Vector) → Is (met_before w e f g) → Is (met_before w e g f) → ⊥
asymmetric w e f g p q = irreflexive w e f (transitive w e f g f p q)

-- e's own direction is met last: nothing is met after it
pub own_last : (w : Bool) (e g : Vector) → Is (met_before w e e g) → ⊥
own_last w e g h =
    (mp (go (sgn (dot e e)) (half_of w e g) (side w e g) (square_not_below e))
    (subst (λ s. Is (sooner (half_turn s (sgn (dot e e))) (half_of w e g) (side w e g))) (side_self w e) h)).is
  where
    go : (d : Sgn) (h : Half) (s : Sgn) → Is (not (is_mns d)) → Is (sooner (half_turn zer d) h s ⇒ false)
    go mns h s t = absurd t.is
    go zer h s t = yes! tt
    go pls h s t = yes! tt

module _ (w : Bool) (e f g : Vector) (he : Is (nonzero e)) (hf : Is (nonzero f)) (hg : Is (nonzero g)) where
  -- of two, one is met first, unless they have one direction
  pub total : Is (met_before w e f g) ⊎ (Is (same_direction f g) ⊎ Is (met_before w e g f))
  total = ⊎_elim (λ h. ⊎_elim inl (λ k. inr (inl (subst Is (same_side w f g) k))) (or_e _ _ h)) (λ h. inr (inr (rw (side_anti w f g) h)))
      (or_e _ _ (law w e f g he hf hg (λ a b c d i j. met a b c d i || eq_s c zer && eq_s j pls || met b a (flip c) i d) tt))

  -- two of one direction are met together
  pub together : Is (same_direction f g) → Is (met_before w e f g) → ⊥
  together p q = (mp (mp (law w e f g he hf hg (λ a b c d i j. eq_s c zer && eq_s j pls ⇒ met a b c d i ⇒ false) tt) (subst Is (sym (same_side w f g)) p)) q).is

  -- counterclockwise is the reverse of clockwise, but for e's own direction, which is last both ways
  pub reversed : Is (not (same_direction e f)) → Is (not (same_direction e g)) → met_before (not w) e g f ≡ met_before w e f g
  reversed p q = rw (side_not w e f, side_not w e g, side_not w g f, side_anti w f g)
      (⇔-eq (mp
      (mp (law w e f g he hf hg
      (λ a b c d i j. not (eq_s a zer && eq_s d pls) ⇒ not (eq_s b zer && eq_s i pls) ⇒ (met (flip b) (flip a) (flip (flip c)) i d ⇔ met a b c d i)) tt)
      (subst (λ b. Is (not b)) (sym (same_side w e f)) p)) (subst (λ b. Is (not b)) (sym (same_side w e g)) q)))

  -- the cyclic law: turning from f the other way, g is met before e, just where turning from e, g is met before f
  pub cyclic : met_before (not w) f g e ≡ met_before w e g f
  cyclic = rw (side_not w f g, side_not w f e, side_not w g e, side_anti w e f, side_anti w e g, side_anti w f g, dot_comm f e)
      (⇔-eq (law w e f g he hf hg (λ a b c d i j. met (flip c) (flip (flip a)) (flip (flip b)) j d ⇔ met b a (flip c) i d) tt))

-- ---- only directions matter
left_step : (w : Bool) (e f f' g : Vector) → Is (nonzero e) → Is (nonzero f) → Is (nonzero f') → Is (nonzero g) → Is (same_direction f f')
    → Is (met_before w e f g) → Is (met_before w e f' g)
left_step w e f f' g he hf hf' hg s p =
    ⊎_elim (λ q. q)
    (⊎_elim (λ q. absurd (together w e f g he hf hg (same_trans f f' g hf hf' hg s q) p))
    (λ q. absurd (together w e f f' he hf hf' s (transitive w e f g f' p q))))
    (total w e f' g he hf' hg)

right_step : (w : Bool) (e f g g' : Vector) → Is (nonzero e) → Is (nonzero f) → Is (nonzero g) → Is (nonzero g') → Is (same_direction g g')
    → Is (met_before w e f g) → Is (met_before w e f g')
right_step w e f g g' he hf hg hg' s p =
    ⊎_elim (λ q. q)
    (⊎_elim (λ q. absurd (together w e f g he hf hg (same_trans f g' g hf hg' hg q (same_sym g g' s)) p))
    (λ q. absurd (together w e g' g he hg' hg (same_sym g g' s) (transitive w e g' f g q p))))
    (total w e f g' he hf hg')

pub left_direction : (w : Bool) (e f f' g : Vector) → Is (nonzero e) → Is (nonzero f) → Is (nonzero f') → Is (nonzero g) → Is (same_direction f f')
    → met_before w e f g ≡ met_before w e f' g
left_direction w e f f' g he hf hf' hg s =
    both_ways (met_before w e f g) (met_before w e f' g) (left_step w e f f' g he hf hf' hg s) (left_step w e f' f g he hf' hf hg (same_sym f f' s))

pub right_direction : (w : Bool) (e f g g' : Vector) → Is (nonzero e) → Is (nonzero f) → Is (nonzero g) → Is (nonzero g') → Is (same_direction g g')
    → met_before w e f g ≡ met_before w e f g'
right_direction w e f g g' he hf hg hg' s =
    both_ways (met_before w e f g) (met_before w e f g') (right_step w e f g g' he hf hg hg' s) (right_step w e f g' g he hf hg' hg (same_sym g g' s))

pub base_direction : (w : Bool) (e e' f g : Vector) → Is (nonzero e) → Is (nonzero e') → Is (nonzero f) → Is (nonzero g) → Is (same_direction e e')
    → met_before w e f g ≡ met_before w e' f g
base_direction w e e' f g he he' hf hg s = sym (cyclic w e g f he hg hf) ∙ right_direction (not w) g f e e' hg hf he he' s ∙ cyclic w e' g f he' hg hf

-- ---- the order by its last vector: f and e turned from, g met
module _ (w : Bool) (e f g : Vector) (he : Is (nonzero e)) (hf : Is (nonzero f)) (hg : Is (nonzero g)) where
  pub transitive_on : (k : Vector) → Is (nonzero k) → Is (met_before w e f k) → Is (met_before w f g k) → Is (met_before w e g k)
  transitive_on k hk p q =
      subst Is (cyclic w e k g he hk hg) (transitive (not w) k g f e (subst Is (sym (cyclic w f k g hf hk hg)) q) (subst Is (sym (cyclic w e k f he hk hf)) p))

  pub total_on : (Is (same_direction e f) → ⊥) → Is (met_before w e f g) ⊎ Is (met_before w f e g)
  total_on d =
      ⊎_elim (λ h. inl (subst Is (cyclic w e g f he hg hf) h)) (⊎_elim (λ h. absurd (d (same_sym f e h))) (λ h. inr (subst Is (cyclic w f g e hf hg he) h)))
      (total (not w) g f e hg hf he)
