-- `Bridge`s by the sorts of their ends. A link's a is strictly before its b, so from a to b it runs to the right, or straight up. Ends of
-- unlike sort then never run in one direction, and ends of one sort do exactly where the links' cross product is 0.
use Rattle.std.specs.Prelude.{ℕ, ◌<◌, ◌≡◌, refl, Bool, true, false, not, ◌||◌, ◌&&◌, List, eqb, leb, ℤ, length, get_or}
use Rattle.std.proofs.Common.{sym, ap, ap₂, ◌∙◌, subst, eq-eqb, ne_eqb}
use Rattle.std.proofs.lemmas.Bool.{lt-leb}
use Rattle.laws.specs.Test.{pick, Is, true≢false, not_is, is_true, ◌⇒◌, ◌⇔◌, ⇔-eq, mp}
use Rattle.laws.specs.Sign.{Sgn, zer, pls, sgn, flip, ◌⊗◌, eq_s, plus_ok, all6}
use Rattle.turn.specs.declared.Point.{Point}
use Rattle.turn.specs.declared.Vector.{Vector}
use Rattle.turn.specs.Points.{before, differ, from_to, cross, dot}
use Rattle.turn.specs.Angle.{same_direction}
use Rattle.turn.specs.Directions.{cross_sign, dot_sign}
use Rattle.turn.specs.Rightward.{right, Right, right_before, sgn_back}
use Rattle.graph.specs.Graph.{point_at}
use Rattle.graph.specs.Checks.{node_at, skipped}
use Rattle.graph.specs.Quick.{like_wrong, bridge_wrong}
use Rattle.graph.specs.Known.{Runs}

-- ---- the other way
abbrev Left : Vector → Type 0
Left u = Is (right (flip (sgn u.x)) (flip (sgn u.y)))

left_before : (p q : Point) → before p q ≡ true → Left (from_to q p)
left_before p q e = subst (λ b. Is b) (ap₂ right (sgn_back p.x q.x) (sgn_back p.y q.y)) (right_before p q e)

-- what two vectors obey, and what follows for one direction where the first is turned (s) or not, and the second (t)
abbrev turned : Bool → Sgn → Sgn
turned s z = pick s (flip z) z

abbrev obey : Bool → Bool → Sgn → Sgn → Sgn → Sgn → Sgn → Sgn → Bool → Bool
obey s t ux uy vx vy c d goal =
    right (turned s ux) (turned s uy) ⇒ right (turned t vx) (turned t vy) ⇒ plus_ok (ux ⊗ vy) (flip (uy ⊗ vx)) c ⇒ plus_ok (ux ⊗ vx) (uy ⊗ vy) d ⇒ goal

module _ (u v : Vector) where
  abbrev parallel : Bool
  parallel = eq_s (sgn (cross u v)) zer

  like_right : Right u → Right v → same_direction u v ≡ parallel
  like_right h k =
      ⇔-eq (mp (mp (mp (mp (all6 (λ ux uy vx vy c d. obey false false ux uy vx vy c d (eq_s c zer && eq_s d pls ⇔ eq_s c zer)) tt
      (sgn u.x) (sgn u.y) (sgn v.x) (sgn v.y) (sgn (cross u v)) (sgn (dot u v))) h) k) (cross_sign u v)) (dot_sign u v))

  like_left : Left u → Left v → same_direction u v ≡ parallel
  like_left h k =
      ⇔-eq (mp (mp (mp (mp (all6 (λ ux uy vx vy c d. obey true true ux uy vx vy c d (eq_s c zer && eq_s d pls ⇔ eq_s c zer)) tt
      (sgn u.x) (sgn u.y) (sgn v.x) (sgn v.y) (sgn (cross u v)) (sgn (dot u v))) h) k) (cross_sign u v)) (dot_sign u v))

  right_left : Right u → Left v → same_direction u v ≡ false
  right_left h k =
      not_is _ (is_true (mp (mp (mp (mp (all6 (λ ux uy vx vy c d. obey false true ux uy vx vy c d (not (eq_s c zer && eq_s d pls))) tt
      (sgn u.x) (sgn u.y) (sgn v.x) (sgn v.y) (sgn (cross u v)) (sgn (dot u v))) h) k) (cross_sign u v)) (dot_sign u v)))

  left_right : Left u → Right v → same_direction u v ≡ false
  left_right h k =
      not_is _ (is_true (mp (mp (mp (mp (all6 (λ ux uy vx vy c d. obey true false ux uy vx vy c d (not (eq_s c zer && eq_s d pls))) tt
      (sgn u.x) (sgn u.y) (sgn v.x) (sgn v.y) (sgn (cross u v)) (sgn (dot u v))) h) k) (cross_sign u v)) (dot_sign u v)))

-- ---- two links, from p to q and from r to s, p before q and r before s
module _ (p q r s : Point) (h : before p q ≡ true) (k : before r s ≡ true) where
  pub a_ends_alike : same_direction (from_to p q) (from_to r s) ≡ eq_s (sgn (cross (from_to p q) (from_to r s))) zer
  a_ends_alike = like_right (from_to p q) (from_to r s) (right_before p q h) (right_before r s k)

  pub b_ends_alike : same_direction (from_to q p) (from_to s r) ≡ eq_s (sgn (cross (from_to q p) (from_to s r))) zer
  b_ends_alike = like_left (from_to q p) (from_to s r) (left_before p q h) (left_before r s k)

  pub a_b_unlike : same_direction (from_to p q) (from_to s r) ≡ false
  a_b_unlike = right_left (from_to p q) (from_to s r) (right_before p q h) (left_before r s k)

  pub b_a_unlike : same_direction (from_to q p) (from_to r s) ≡ false
  b_a_unlike = left_right (from_to q p) (from_to r s) (left_before p q h) (right_before r s k)

-- ---- a `Bridge` with entries e and f at node v
module _ {ax ay bx by : List ℤ} {a_id b_id : List ℕ} (runs : Runs ax ay bx by a_id b_id) (state : List ℕ) (v e f : ℕ) where
  abbrev a : ℕ → Point
  a = point_at ax ay

  abbrev b : ℕ → Point
  b = point_at bx by

  abbrev wrong : Bool
  wrong = bridge_wrong a_id b_id a b (node_at a_id) state v e f

  -- an entry that is no link
  pub no_link : leb (length a_id) e || leb (length a_id) f ≡ true → true ≡ wrong
  no_link = go (leb (length a_id) e) (leb (length a_id) f) _ _ _ _
    where
      go : (i j x y z w : Bool) → i || j ≡ true → true ≡ pick ((i || x) || (j || y) || z) true w
      go true j x y z w h = refl
      go false true true y z w h = refl
      go false true false y z w h = refl
      go false false x y z w h = absurd (true≢false h refl)

  -- link f has no end there
  pub no_end : (get_or a_id f 0 ≡ v → ⊥) → (get_or b_id f 0 ≡ v → ⊥) → true ≡ wrong
  no_end h k = rw (ne_eqb _ _ h, ne_eqb _ _ k) (go (leb (length a_id) e || (not (eqb (get_or a_id e 0) v) && not (eqb (get_or b_id e 0) v)))
      (leb (length a_id) f) _ _)
    where
      go : (x j z w : Bool) → true ≡ pick (x || (j || true) || z) true w
      go true j z w = refl
      go false true z w = refl
      go false false z w = refl

  module _ (le : e < length a_id) (lf : f < length a_id) where
    se : before (a e) (b e) ≡ true
    se = runs.strict e le

    sf : before (a f) (b f) ≡ true
    sf = runs.strict f lf

    -- what is left of a `Bridge` whose ends never run in one direction
    alone : (d s t : Bool) → d ≡ d || (not s && not t && false)
    alone true s t = refl
    alone false true t = refl
    alone false false true = refl
    alone false false false = refl

    -- e's b and f's a
    pub b_and_a : get_or a_id f 0 ≡ v → get_or b_id e 0 ≡ v → differ (b e) (a f) ≡ wrong
    b_and_a h k =
        rw (
          lt-leb _ _ le,
          lt-leb _ _ lf,
          eq-eqb _ _ h,
          eq-eqb _ _ k,
          ne_eqb _ _ (λ (x : get_or a_id e 0 ≡ v). runs.two e le (x ∙ sym k)),
          ne_eqb e f (λ x. runs.two e le (ap (λ i. get_or a_id i 0) x ∙ h ∙ sym k)),
          b_a_unlike (a e) (b e) (a f) (b f) se sf,
        )
        (alone (differ (b e) (a f)) (skipped state e) (skipped state f))

    -- e's a and f's b
    pub a_and_b : (get_or a_id f 0 ≡ v → ⊥) → get_or b_id f 0 ≡ v → get_or a_id e 0 ≡ v → differ (a e) (b f) ≡ wrong
    a_and_b n h k =
        rw (
          lt-leb _ _ le,
          lt-leb _ _ lf,
          ne_eqb _ _ n,
          eq-eqb _ _ h,
          eq-eqb _ _ k,
          ne_eqb e f (λ x. n (sym (ap (λ i. get_or a_id i 0) x) ∙ k)),
          a_b_unlike (a e) (b e) (a f) (b f) se sf,
        )
        (alone (differ (a e) (b f)) (skipped state e) (skipped state f))

    -- two ends of one sort: e is f, they are apart, or both unskipped and parallel
    like : (d s t c : Bool) → pick d true (pick c (not s && not t) false) ≡ d || (not s && not t && c)
    like true s t c = refl
    like false true t true = refl
    like false true t false = refl
    like false false true true = refl
    like false false true false = refl
    like false false false true = refl
    like false false false false = refl

    -- f's a, and not e's b
    pub two_a : get_or a_id f 0 ≡ v → (get_or b_id e 0 ≡ v → ⊥) → like_wrong a_id a b state v e f ≡ wrong
    two_a h n = rw (lt-leb _ _ le, lt-leb _ _ lf, eq-eqb _ _ h, ne_eqb _ _ n) (go (eqb (get_or a_id e 0) v) (eqb e f))
      where
        go : (s q : Bool) → pick (not s || q || differ (a e) (a f)) true
            (pick (eq_s (sgn (cross (from_to (a e) (b e)) (from_to (a f) (b f)))) zer) (not (skipped state e) && not (skipped state f)) false)
            ≡ pick (not s && true || false || q) true (differ (pick s (a e) (b e)) (a f) || (not (skipped state e) && not (skipped state f)
            && same_direction (pick s (from_to (a e) (b e)) (from_to (b e) (a e))) (from_to (a f) (b f))))
        go false q = refl
        go true true = refl
        go true false = rw (a_ends_alike (a e) (b e) (a f) (b f) se sf) (like (differ (a e) (a f)) (skipped state e) (skipped state f) _)

    -- f's b, and not e's a
    pub two_b : (get_or a_id f 0 ≡ v → ⊥) → get_or b_id f 0 ≡ v → (get_or a_id e 0 ≡ v → ⊥) → like_wrong b_id b a state v e f ≡ wrong
    two_b m h n = rw (lt-leb _ _ le, lt-leb _ _ lf, ne_eqb _ _ m, eq-eqb _ _ h, ne_eqb _ _ n) (go (eqb (get_or b_id e 0) v) (eqb e f))
      where
        go : (s q : Bool) → pick (not s || q || differ (b e) (b f)) true
            (pick (eq_s (sgn (cross (from_to (b e) (a e)) (from_to (b f) (a f)))) zer) (not (skipped state e) && not (skipped state f)) false)
            ≡ pick (not s || false || q) true (differ (b e) (b f) || (not (skipped state e) && not (skipped state f)
            && same_direction (from_to (b e) (a e)) (from_to (b f) (a f))))
        go false q = refl
        go true true = refl
        go true false = rw (b_ends_alike (a e) (b e) (a f) (b f) se sf) (like (differ (b e) (b f)) (skipped state e) (skipped state f) _)
