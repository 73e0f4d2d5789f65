-- How a contour bends at a point: to which side, and whether it goes on ahead or back. A point that lies on the way from one neighbour to the other may go, and
-- the bend at every other point stays as it was.
use Rattle.std.specs.Prelude.{◌≡◌, refl, Bool, true, false, not, ◌&&◌, List, [], ◌∷◌, ℤ, neg_ℤ, ◌+ℤ◌}
use Rattle.std.proofs.Common.{sym, ap, ap₂, ◌∙◌}
use Rattle.laws.specs.Test.{Is, yes!, true_is, true≢false, fst&, snd&, ◌⇒◌, mp}
use Rattle.laws.specs.Ring.{ring, ◌:+◌, ◌:-◌, ◌:*◌, neg}
use Rattle.laws.specs.Sign.{Sgn, mns, zer, pls, sgn, flip, ◌⊗◌, eq_s, is_mns, plus_ok, all3, all6, eq_s_eq, sgn_neg, sgn_add, three}
use Rattle.turn.specs.declared.Point.{Point}
use Rattle.turn.specs.declared.Vector.{Vector}
use Rattle.turn.specs.Points.{from_to, cross, dot, turn}
use Rattle.turn.specs.Angle.{same_direction, nonzero}
use Rattle.turn.specs.Directions.{VectorE, cross_e, dot_e, E, F, G, cross_anti, dot_comm, dot_sign, square, square_not_below, law}
use Rattle.straight.specs.Straight.{on_line}

-- ---- the bend at a point between two others
pub record Bend : Type 0 where
  pub side : Sgn
  pub way : Sgn

abbrev pub bend : Point → Point → Point → Bend
bend a b c = record { side = sgn (turn a b c); way = sgn (dot (from_to a b) (from_to b c)) }

-- on one line
abbrev pub level : Bend → Bool
level d = eq_s d.side zer

-- on one line, and not ahead: back, or on the spot
abbrev pub back : Bend → Bool
back d = eq_s d.side zer && not (eq_s d.way pls)

abbrev pub spike : Point → Point → Point → Bool
spike a b c = back (bend a b c)

-- b lies on the way from a to c
pub record Ahead (a b c : Point) : Type 0 where
  pub line : on_line a b c ≡ true
  pub on : spike a b c ≡ false

-- ---- vectors of one direction make the same bend with any other
towards : (f g : Vector) → Is (same_direction f g) → Is (nonzero f)
towards f g h =
    mp (mp (all6 (λ a b c d i j. plus_ok (a ⊗ c) (b ⊗ d) i ⇒ eq_s i pls ⇒ not (eq_s a zer && eq_s b zer)) tt
    (sgn f.x) (sgn f.y) (sgn g.x) (sgn g.y) (sgn (dot f g)) zer) (dot_sign f g)) (snd& (eq_s (sgn (cross f g)) zer) _ h)

-- the vector between two points, as an expression
abbrev from_to_e : VectorE → VectorE → VectorE
from_to_e p q = record { x = q.x :- p.x; y = q.y :- p.y }

module _ (e f g : Vector) (h : Is (same_direction f g)) where
  abbrev ρ : List ℤ
  ρ = e.x ∷ e.y ∷ f.x ∷ f.y ∷ g.x ∷ g.y ∷ []

  long : sgn (dot f f) ≡ pls
  long = square f (towards f g h)

  beside : sgn (cross f g) ≡ zer
  beside = eq_s_eq (fst& (eq_s (sgn (cross f g)) zer) _ h)

  onward : sgn (dot f g) ≡ pls
  onward = eq_s_eq (snd& (eq_s (sgn (cross f g)) zer) _ h)

  same_cross : sgn (cross e f) ≡ sgn (cross e g)
  same_cross =
      eq_s_eq (mp (all3 (λ a b d. plus_ok (a ⊗ pls) (zer ⊗ d) (pls ⊗ b) ⇒ eq_s a b) tt (sgn (cross e f)) (sgn (cross e g)) (sgn (dot e f)))
      (rw (long, beside, onward) at (three (dot f f) (cross e g) (cross e f) (dot f g) (cross f g) (dot e f)
      (ring ρ (dot_e F F :* cross_e E G) (cross_e E F :* dot_e F G :+ cross_e F G :* dot_e E F) tt))))

  same_dot : sgn (dot e f) ≡ sgn (dot e g)
  same_dot =
      eq_s_eq (mp (all3 (λ d i a. plus_ok (pls ⊗ i) (a ⊗ zer) (d ⊗ pls) ⇒ eq_s d i) tt (sgn (dot e f)) (sgn (dot e g)) (sgn (cross e f)))
      (rw (long, beside, onward) at (three (dot e f) (dot f g) (dot f f) (dot e g) (cross e f) (cross f g)
      (ring ρ (dot_e E F :* dot_e F G) (dot_e F F :* dot_e E G :+ cross_e E F :* cross_e F G) tt))))

-- the same, with the other vector after them
same_cross_after : (e f g : Vector) → Is (same_direction f g) → sgn (cross f e) ≡ sgn (cross g e)
same_cross_after e f g h =
    ap sgn (cross_anti e f) ∙ sgn_neg (cross e f) ∙ ap flip (same_cross e f g h) ∙ sym (ap sgn (cross_anti e g) ∙ sgn_neg (cross e g))

same_dot_after : (e f g : Vector) → Is (same_direction f g) → sgn (dot f e) ≡ sgn (dot g e)
same_dot_after e f g h = ap sgn (dot_comm f e) ∙ same_dot e f g h ∙ ap sgn (dot_comm e g)

-- ---- a point on the way from one to another
abbrev coordinates : Point → Point → Point → List ℤ
coordinates a b c = a.x ∷ a.y ∷ b.x ∷ b.y ∷ c.x ∷ c.y ∷ []

-- the turn, by the two edges at b
pub turn_by_edges : (a b c : Point) → turn a b c ≡ cross (from_to a b) (from_to b c)
turn_by_edges a b c = ring (coordinates a b c) (cross_e (from_to_e E F) (from_to_e E G)) (cross_e (from_to_e E F) (from_to_e F G)) tt

module _ (a b c : Point) where
  abbrev points : List ℤ
  points = coordinates a b c

  abbrev u : Vector
  u = from_to a b

  abbrev v : Vector
  v = from_to b c

  abbrev s : Vector
  s = from_to a c

  after_cross : cross v s ≡ neg_ℤ (turn a b c)
  after_cross = ring points (cross_e (from_to_e F G) (from_to_e E G)) (neg (cross_e (from_to_e E F) (from_to_e E G))) tt

  before_dot : dot u s ≡ dot u u +ℤ dot u v
  before_dot = ring points (dot_e (from_to_e E F) (from_to_e E G)) (dot_e (from_to_e E F) (from_to_e E F) :+ dot_e (from_to_e E F) (from_to_e F G)) tt

  after_dot : dot v s ≡ dot v v +ℤ dot u v
  after_dot = ring points (dot_e (from_to_e F G) (from_to_e E G)) (dot_e (from_to_e F G) (from_to_e F G) :+ dot_e (from_to_e E F) (from_to_e F G)) tt

  module _ (h : Ahead a b c) where
    no_side : sgn (turn a b c) ≡ zer
    no_side = eq_s_eq (true_is h.line)

    forward : sgn (dot u v) ≡ pls
    forward = by (sgn (turn a b c)) (sgn (dot u v)) no_side h.on
      where
        by : (t w : Sgn) → t ≡ zer → (eq_s t zer && not (eq_s w pls)) ≡ false → w ≡ pls
        by t mns e o = absurd (true≢false refl (rw e at o))
        by t zer e o = absurd (true≢false refl (rw e at o))
        by t pls e o = refl

    -- a square and what is above 0 come to what is above 0
    sum_ahead : (w : Vector) → sgn (dot w w +ℤ dot u v) ≡ pls
    sum_ahead w =
        eq_s_eq (mp (mp (all3 (λ x y z. not (is_mns x) ⇒ plus_ok x pls y ⇒ eq_s y pls) tt (sgn (dot w w)) (sgn (dot w w +ℤ dot u v)) zer) (square_not_below w))
        (rw forward at (sgn_add (dot w w) (dot u v))))

    before_same : Is (same_direction u s)
    before_same = rw (no_side, before_dot, sum_ahead u) (yes! tt)

    after_same : Is (same_direction v s)
    after_same = rw (after_cross, sgn_neg (turn a b c), no_side, after_dot, sum_ahead v) (yes! tt)

    -- with b gone, the bend at a, whatever comes before it
    pub next_gone : (y : Point) → bend y a b ≡ bend y a c
    next_gone y =
        let sides : sgn (turn y a b) ≡ sgn (turn y a c) =
        ap sgn (turn_by_edges y a b) ∙ same_cross (from_to y a) u s before_same ∙ sym (ap sgn (turn_by_edges y a c)) in
        let ways : sgn (dot (from_to y a) u) ≡ sgn (dot (from_to y a) s) = same_dot (from_to y a) u s before_same in
        λ i. record { side = sides i; way = ways i }

    -- and the bend at c, whatever comes after it
    pub before_gone : (y : Point) → bend b c y ≡ bend a c y
    before_gone y =
        let sides : sgn (turn b c y) ≡ sgn (turn a c y) =
        ap sgn (turn_by_edges b c y) ∙ same_cross_after (from_to c y) v s after_same ∙ sym (ap sgn (turn_by_edges a c y)) in
        let ways : sgn (dot v (from_to c y)) ≡ sgn (dot s (from_to c y)) = same_dot_after (from_to c y) v s after_same in
        λ i. record { side = sides i; way = ways i }

    -- three points round: where one lies on the way between the others, the next is a spike
    pub triangle_spike : spike b c a ≡ true
    triangle_spike = rw (round, no_side, home, sgn_neg (dot v s), after_dot, sum_ahead v)
      where
        round : turn b c a ≡ turn a b c
        round = ring points (cross_e (from_to_e F G) (from_to_e F E)) (cross_e (from_to_e E F) (from_to_e E G)) tt

        home : dot v (from_to c a) ≡ neg_ℤ (dot v s)
        home = ring points (dot_e (from_to_e F G) (from_to_e G E)) (neg (dot_e (from_to_e F G) (from_to_e E G))) tt

-- ---- two edges that leave a point in different directions make no spike there
module _ (p q r : Point) where
  side_is : turn p q r ≡ neg_ℤ (cross (from_to q p) (from_to q r))
  side_is = ring (coordinates p q r) (cross_e (from_to_e E F) (from_to_e E G)) (neg (cross_e (from_to_e F E) (from_to_e F G))) tt

  way_is : dot (from_to p q) (from_to q r) ≡ neg_ℤ (dot (from_to q p) (from_to q r))
  way_is = ring (coordinates p q r) (dot_e (from_to_e E F) (from_to_e F G)) (neg (dot_e (from_to_e F E) (from_to_e F G))) tt

  pub no_spike : Is (nonzero (from_to q p)) → Is (nonzero (from_to q r)) → (Is (same_direction (from_to q p) (from_to q r)) → ⊥) → spike p q r ≡ false
  no_spike hp hr apart =
      ap₂ (λ (s t : Sgn). eq_s s zer && not (eq_s t pls)) (ap sgn side_is ∙ sgn_neg (cross u v)) (ap sgn way_is ∙ sgn_neg (dot u v))
      ∙ by (sgn (cross u v)) (sgn (dot u v)) (law true u v v hp hr hr (λ a _ _ d _ _. not (eq_s a zer && eq_s d zer)) tt) apart
    where
      u : Vector
      u = from_to q p

      v : Vector
      v = from_to q r

      by : (a d : Sgn) → Is (not (eq_s a zer && eq_s d zer)) → (Is (eq_s a zer && eq_s d pls) → ⊥) → (eq_s (flip a) zer && not (eq_s (flip d) pls)) ≡ false
      by mns d h k = refl
      by pls d h k = refl
      by zer mns h k = refl
      by zer zer h k = absurd h.is
      by zer pls h k = absurd (k (yes! tt))
