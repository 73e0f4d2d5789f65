-- Vectors by the signs of their cross and dot products. Every law of them is a few polynomial identities (`ring`), read
-- as relations of signs (`three`), and a finite check of signs (`law`).
use Rattle.std.specs.Prelude.{◌≡◌, refl, List, [], ◌∷◌, Bool, true, false, not, ◌&&◌, T, ℤ, pos, neg_ℤ, ◌*ℤ◌}
use Rattle.std.proofs.Common.{ap, ◌∙◌}
use Rattle.laws.specs.Test.{Is, yes!, ◌⇒◌, ◌&◌, mp}
use Rattle.laws.specs.Ring.{ring, Ex, var, con, ◌:+◌, ◌:-◌, ◌:*◌, neg}
use Rattle.laws.specs.Sign.{Sgn, mns, zer, pls, sgn, flip, ◌⊗◌, eq_s, is_mns, plus_ok, all, all3, all6, eq_s_eq, sgn_neg, sgn_mul, sgn_add, three}
use Rattle.turn.specs.declared.Vector.{Vector}
use Rattle.turn.specs.Points.{cross, dot}
use Rattle.turn.specs.Angle.{turned, same_direction, nonzero}

-- ---- expressions of up to four vectors
pub record VectorE : Type 0 where
  pub x : Ex
  pub y : Ex

abbrev pub cross_e : VectorE → VectorE → Ex
cross_e u v = u.x :* v.y :- u.y :* v.x

abbrev pub dot_e : VectorE → VectorE → Ex
dot_e u v = u.x :* v.x :+ u.y :* v.y

abbrev pub E : VectorE
E = record { x = var 0; y = var 1 }

abbrev pub F : VectorE
F = record { x = var 2; y = var 3 }

abbrev pub G : VectorE
G = record { x = var 4; y = var 5 }

abbrev K : VectorE
K = record { x = var 6; y = var 7 }

abbrev at : Vector → Vector → Vector → Vector → List ℤ
at e f g k = e.x ∷ e.y ∷ f.x ∷ f.y ∷ g.x ∷ g.y ∷ k.x ∷ k.y ∷ []

-- ---- one and two vectors
pub dot_comm : (e f : Vector) → dot e f ≡ dot f e
dot_comm e f = ring (at e f f f) (dot_e E F) (dot_e F E) tt

pub cross_anti : (e f : Vector) → cross f e ≡ neg_ℤ (cross e f)
cross_anti e f = ring (at e f f f) (cross_e F E) (neg (cross_e E F)) tt

pub cross_self : (e : Vector) → cross e e ≡ pos 0
cross_self e = ring (at e e e e) (cross_e E E) (con (pos 0)) tt

-- the sign of e's and f's cross product, as the sense of turning reads it
abbrev pub side : Bool → Vector → Vector → Sgn
side w e f = turned w (sgn (cross e f))

turned_flip : (w : Bool) (s : Sgn) → turned w (flip s) ≡ flip (turned w s)
turned_flip true s = refl
turned_flip false s = refl

turned_not : (w : Bool) (s : Sgn) → turned (not w) s ≡ flip (turned w s)
turned_not true s = refl
turned_not false mns = refl
turned_not false zer = refl
turned_not false pls = refl

pub side_anti : (w : Bool) (e f : Vector) → side w f e ≡ flip (side w e f)
side_anti w e f = ap (turned w) (ap sgn (cross_anti e f) ∙ sgn_neg (cross e f)) ∙ turned_flip w (sgn (cross e f))

pub side_not : (w : Bool) (e f : Vector) → side (not w) e f ≡ flip (side w e f)
side_not w e f = turned_not w (sgn (cross e f))

pub side_self : (w : Bool) (e : Vector) → side w e e ≡ zer
side_self w e = ap (λ z. turned w (sgn z)) (cross_self e) ∙ zero w
  where
    zero : (w : Bool) → turned w zer ≡ zer
    zero true = refl
    zero false = refl

-- one direction, as either sense sees it
pub same_side : (w : Bool) (f g : Vector) → (eq_s (side w f g) zer && eq_s (sgn (dot f g)) pls) ≡ same_direction f g
same_side w f g = ap (λ b. b && eq_s (sgn (dot f g)) pls) (go w (sgn (cross f g)))
  where
    go : (w : Bool) (s : Sgn) → eq_s (turned w s) zer ≡ eq_s s zer
    go true s = refl
    go false mns = refl
    go false zer = refl
    go false pls = refl

-- the products of two vectors by their signs
pub cross_sign : (u v : Vector) → Is (plus_ok (sgn u.x ⊗ sgn v.y) (flip (sgn u.y ⊗ sgn v.x)) (sgn (cross u v)))
cross_sign u v = rw (sgn_mul u.x v.y, sgn_neg (u.y *ℤ v.x), sgn_mul u.y v.x) at (sgn_add (u.x *ℤ v.y) (neg_ℤ (u.y *ℤ v.x)))

pub dot_sign : (u v : Vector) → Is (plus_ok (sgn u.x ⊗ sgn v.x) (sgn u.y ⊗ sgn v.y) (sgn (dot u v)))
dot_sign u v = rw (sgn_mul u.x v.x, sgn_mul u.y v.y) at (sgn_add (u.x *ℤ v.x) (u.y *ℤ v.y))

-- a square is not below 0, and that of a vector that is not 0 is above
pub square_not_below : (v : Vector) → Is (not (is_mns (sgn (dot v v))))
square_not_below v = mp (all3 (λ a b c. plus_ok (a ⊗ a) (b ⊗ b) c ⇒ not (is_mns c)) tt (sgn v.x) (sgn v.y) (sgn (dot v v))) (dot_sign v v)

pub square : (v : Vector) → Is (nonzero v) → sgn (dot v v) ≡ pls
square v h =
    eq_s_eq (mp
    (mp (all3 (λ a b c. not (eq_s a zer && eq_s b zer) ⇒ plus_ok (a ⊗ a) (b ⊗ b) c ⇒ eq_s c pls) tt (sgn v.x) (sgn v.y) (sgn (dot v v))) h)
    (dot_sign v v))

-- ---- three vectors
-- what their six signs obey: a, b, c the sides of e f, e g, f g, and d, i, j the dot products of the same pairs
abbrev pub ok : Sgn → Sgn → Sgn → Sgn → Sgn → Sgn → Bool
ok a b c d i j =
    plus_ok (a ⊗ j) (c ⊗ d) b && plus_ok c (a ⊗ i) (b ⊗ d) && plus_ok a (c ⊗ i) (b ⊗ j)
    && plus_ok (d ⊗ i) (a ⊗ b) j && plus_ok i (a ⊗ c) (d ⊗ j) && plus_ok (i ⊗ j) (b ⊗ c) d
    && plus_ok (a ⊗ a) (d ⊗ d) pls && plus_ok (b ⊗ b) (i ⊗ i) pls && plus_ok (c ⊗ c) (j ⊗ j) pls

module _ (e f g : Vector) (he : Is (nonzero e)) (hf : Is (nonzero f)) (hg : Is (nonzero g)) where
  abbrev ρ : List ℤ
  ρ = at e f g g

  k1 : Is (plus_ok (sgn (cross e f) ⊗ sgn (dot f g)) (sgn (cross f g) ⊗ sgn (dot e f)) (sgn (cross e g)))
  k1 = rw (square f hf) at (three (dot f f) (cross e g) (cross e f) (dot f g) (cross f g) (dot e f)
      (ring ρ (dot_e F F :* cross_e E G) (cross_e E F :* dot_e F G :+ cross_e F G :* dot_e E F) tt))

  k2 : Is (plus_ok (sgn (cross f g)) (sgn (cross e f) ⊗ sgn (dot e g)) (sgn (cross e g) ⊗ sgn (dot e f)))
  k2 = rw (square e he) at (three (cross e g) (dot e f) (dot e e) (cross f g) (cross e f) (dot e g)
      (ring ρ (cross_e E G :* dot_e E F) (dot_e E E :* cross_e F G :+ cross_e E F :* dot_e E G) tt))

  k3 : Is (plus_ok (sgn (cross e f)) (sgn (cross f g) ⊗ sgn (dot e g)) (sgn (cross e g) ⊗ sgn (dot f g)))
  k3 = rw (square g hg) at (three (cross e g) (dot f g) (dot g g) (cross e f) (cross f g) (dot e g)
      (ring ρ (cross_e E G :* dot_e F G) (dot_e G G :* cross_e E F :+ cross_e F G :* dot_e E G) tt))

  k4 : Is (plus_ok (sgn (dot e f) ⊗ sgn (dot e g)) (sgn (cross e f) ⊗ sgn (cross e g)) (sgn (dot f g)))
  k4 = rw (square e he) at (three (dot e e) (dot f g) (dot e f) (dot e g) (cross e f) (cross e g)
      (ring ρ (dot_e E E :* dot_e F G) (dot_e E F :* dot_e E G :+ cross_e E F :* cross_e E G) tt))

  k5 : Is (plus_ok (sgn (dot e g)) (sgn (cross e f) ⊗ sgn (cross f g)) (sgn (dot e f) ⊗ sgn (dot f g)))
  k5 = rw (square f hf) at (three (dot e f) (dot f g) (dot f f) (dot e g) (cross e f) (cross f g)
      (ring ρ (dot_e E F :* dot_e F G) (dot_e F F :* dot_e E G :+ cross_e E F :* cross_e F G) tt))

  k6 : Is (plus_ok (sgn (dot e g) ⊗ sgn (dot f g)) (sgn (cross e g) ⊗ sgn (cross f g)) (sgn (dot e f)))
  k6 = rw (square g hg) at (three (dot g g) (dot e f) (dot e g) (dot f g) (cross e g) (cross f g)
      (ring ρ (dot_e G G :* dot_e E F) (dot_e E G :* dot_e F G :+ cross_e E G :* cross_e F G) tt))

-- Lagrange: not both products of two vectors are 0
k7 : (e f : Vector) → Is (nonzero e) → Is (nonzero f) → Is (plus_ok (sgn (cross e f) ⊗ sgn (cross e f)) (sgn (dot e f) ⊗ sgn (dot e f)) pls)
k7 e f he hf = rw (square e he, square f hf) at (three (dot e e) (dot f f) (cross e f) (cross e f) (dot e f) (dot e f)
    (ring (at e f f f) (dot_e E E :* dot_e F F) (cross_e E F :* cross_e E F :+ dot_e E F :* dot_e E F) tt))

module _ (w : Bool) (e f g : Vector) (he : Is (nonzero e)) (hf : Is (nonzero f)) (hg : Is (nonzero g)) where
  six_clockwise : Is (ok (sgn (cross e f)) (sgn (cross e g)) (sgn (cross f g)) (sgn (dot e f)) (sgn (dot e g)) (sgn (dot f g)))
  six_clockwise =
      k1 e f g he hf hg & k2 e f g he hf hg & k3 e f g he hf hg & k4 e f g he hf hg & k5 e f g he hf hg & k6 e f g he hf hg
      & k7 e f he hf & k7 e g he hg & k7 f g hf hg

  six : (w : Bool) → Is (ok (side w e f) (side w e g) (side w f g) (sgn (dot e f)) (sgn (dot e g)) (sgn (dot f g)))
  six true = six_clockwise
  six false = mp (all6 (λ a b c d i j. ok a b c d i j ⇒ ok (flip a) (flip b) (flip c) d i j) tt
      (sgn (cross e f)) (sgn (cross e g)) (sgn (cross f g)) (sgn (dot e f)) (sgn (dot e g)) (sgn (dot f g))) six_clockwise

  -- a law of the six signs holds of three vectors that are not 0, in either sense
  pub law : (p : Sgn → Sgn → Sgn → Sgn → Sgn → Sgn → Bool)
      → T (all (λ a. all (λ b. all (λ c. all (λ d. all (λ i. all (λ j. ok a b c d i j ⇒ p a b c d i j)))))))
      → Is (p (side w e f) (side w e g) (side w f g) (sgn (dot e f)) (sgn (dot e g)) (sgn (dot f g)))
  law p t = mp (all6 (λ a b c d i j. ok a b c d i j ⇒ p a b c d i j) t
      (side w e f) (side w e g) (side w f g) (sgn (dot e f)) (sgn (dot e g)) (sgn (dot f g))) (six w)

-- ---- four vectors: Pluecker's relation
pub pluecker : (w : Bool) (e f g k : Vector) → Is (plus_ok (side w e f ⊗ side w g k) (side w e k ⊗ side w f g) (side w e g ⊗ side w f k))
pluecker w e f g k = go w (sgn (cross e f)) (sgn (cross g k)) (sgn (cross e k)) (sgn (cross f g)) (sgn (cross e g)) (sgn (cross f k))
    (three (cross e g) (cross f k) (cross e f) (cross g k) (cross e k) (cross f g)
    (ring (at e f g k) (cross_e E G :* cross_e F K) (cross_e E F :* cross_e G K :+ cross_e E K :* cross_e F G) tt))
  where
    go : (w : Bool) (a b c d i j : Sgn) → Is (plus_ok (a ⊗ b) (c ⊗ d) (i ⊗ j))
        → Is (plus_ok (turned w a ⊗ turned w b) (turned w c ⊗ turned w d) (turned w i ⊗ turned w j))
    go true a b c d i j h = h
    go false a b c d i j h =
        mp (all6 (λ a b c d i j. plus_ok (a ⊗ b) (c ⊗ d) (i ⊗ j) ⇒ plus_ok (flip a ⊗ flip b) (flip c ⊗ flip d) (flip i ⊗ flip j)) tt a b c d i j) h

-- ---- one direction is an equivalence
pub same_refl : (f : Vector) → Is (nonzero f) → Is (same_direction f f)
same_refl f h = rw (cross_self f, square f h) (yes! tt)

pub same_sym : (f g : Vector) → Is (same_direction f g) → Is (same_direction g f)
same_sym f g h = rw (side_anti true f g, dot_comm g f) (flipped (sgn (cross f g)) (sgn (dot f g)) h)
  where
    flipped : (a d : Sgn) → Is (eq_s a zer && eq_s d pls) → Is (eq_s (flip a) zer && eq_s d pls)
    flipped mns d t = t
    flipped zer d t = t
    flipped pls d t = t

pub same_trans : (e f g : Vector) → Is (nonzero e) → Is (nonzero f) → Is (nonzero g) → Is (same_direction e f) → Is (same_direction f g) → Is
    (same_direction e g)
same_trans e f g he hf hg p q =
    mp (mp (law true e f g he hf hg (λ a b c d i j. eq_s a zer && eq_s d pls ⇒ eq_s c zer && eq_s j pls ⇒ eq_s b zer && eq_s i pls) tt) p) q
