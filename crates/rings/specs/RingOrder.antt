-- The ring order of the links at a node: those whose b is there, then those whose a is, each counterclockwise.
-- As a is before b, it is the order by angle, counterclockwise from just after straight up to straight up itself.
use Rattle.std.specs.Prelude.{ℕ, ◌≡◌, refl, Bool, true, false, not, ◌&&◌, List, [], ◌∷◌, pos, neg_ℤ, ◌-ℤ◌, get_or}
use Rattle.std.proofs.Common.{sym, ap₂, ◌∙◌}
use Rattle.std.specs.Int.Signed.{lt_z}
use Rattle.laws.specs.Test.{pick_ind, Is, is_true, true≢false, ◌⇒◌, ◌⇔◌}
use Rattle.laws.specs.Ring.{ring, var, con, ◌:+◌, ◌:-◌, ◌:*◌, neg}
use Rattle.laws.specs.Sign.{Sgn, mns, zer, pls, sgn, flip, ◌⊗◌, eq_s, plus_ok}
use Rattle.turn.specs.declared.Vector.{Vector}
use Rattle.turn.specs.Points.{before, from_to, cross, dot}
use Rattle.turn.specs.Angle.{half_turn, sooner, same_direction, nonzero}
use Rattle.turn.specs.Rightward.{right, right_before, sgn_back}
use Rattle.turn.specs.PointOrder.{nonzero_forward, nonzero_back}
use Rattle.graph.specs.Graph.{Graph}
use Rattle.graph.specs.Checks.{away_from}
use Rattle.graph.specs.Fine.{FineLinks, FineLists, FineBand}
use Rattle.next.specs.Choice.{Mem}
use Rattle.rings.specs.Ends.{starts_at}

-- e starts at the node or not, f does or not, and e's way from there to f's turns counterclockwise or not
abbrev pub in_turn : Bool → Bool → Bool → Bool
in_turn false true t = true
in_turn true false t = false
in_turn true true t = t
in_turn false false t = t

-- link e stands before link f in the ring order at node v
abbrev pub ring_before : Graph → ℕ → ℕ → ℕ → Bool
ring_before g v e f = in_turn (starts_at g v e) (starts_at g v f) (lt_z (pos 0) (cross (away_from g v e) (away_from g v f)))

-- ---- it is rule 3's order, turning counterclockwise from straight up
abbrev pub up : Vector
up = record { x = pos 0; y = pos 1 }

-- a way with an x above 0, or straight up
abbrev pub rightward : Vector → Bool
rightward u = right (sgn u.x) (sgn u.y)

pub up_cross : (u : Vector) → cross up u ≡ neg_ℤ u.x
up_cross u = ring (u.x ∷ u.y ∷ []) (con (pos 0) :* var 1 :- con (pos 1) :* var 0) (neg (var 0)) tt

pub up_dot : (u : Vector) → dot up u ≡ u.y
up_dot u = ring (u.x ∷ u.y ∷ []) (con (pos 0) :* var 0 :+ con (pos 1) :* var 1) (var 1) tt

pub flip_flip : (s : Sgn) → flip (flip s) ≡ s
flip_flip mns = refl
flip_flip zer = refl
flip_flip pls = refl

-- of the signs of two ways, not 0, and of their cross product
abbrev pub agree : Sgn → Sgn → Sgn → Sgn → Sgn → Bool
agree ax ay bx by s =
    not (eq_s ax zer && eq_s ay zer) ⇒ not (eq_s bx zer && eq_s by zer) ⇒ plus_ok (ax ⊗ by) (flip (ay ⊗ bx)) s
    ⇒ (in_turn (right ax ay) (right bx by) (eq_s s pls) ⇔ sooner (half_turn ax ay) (half_turn bx by) (flip s))

-- ---- the ways of links whose a is before their b (check 3)
abbrev pub Forward : Graph → ℕ → Type 0
Forward g k = before (g.a k) (g.b k) ≡ true

module _ (g : Graph) (v k : ℕ) (strict : Forward g k) where
  pub way_nonzero : Is (nonzero (away_from g v k))
  way_nonzero = pick_ind (starts_at g v k) (from_to (g.a k) (g.b k)) (from_to (g.b k) (g.a k)) (λ u. Is (nonzero u))
      (λ _. nonzero_forward (g.a k) (g.b k) strict) (λ _. nonzero_back (g.a k) (g.b k) strict)

  turned_back : rightward (from_to (g.b k) (g.a k)) ≡ false
  turned_back =
      ap₂ right (sgn_back (g.b k).x (g.a k).x) (sgn_back (g.b k).y (g.a k).y)
      ∙ opposite (sgn ((g.b k).x -ℤ (g.a k).x)) (sgn ((g.b k).y -ℤ (g.a k).y))
      (is_true (right_before (g.a k) (g.b k) strict))
    where
      opposite : (s t : Sgn) → right s t ≡ true → right (flip s) (flip t) ≡ false
      opposite mns t e = absurd (true≢false e refl)
      opposite zer mns e = absurd (true≢false e refl)
      opposite zer zer e = absurd (true≢false e refl)
      opposite zer pls e = refl
      opposite pls t e = refl

  pub way_side : rightward (away_from g v k) ≡ starts_at g v k
  way_side =
      pick_ind (starts_at g v k) (from_to (g.a k) (g.b k)) (from_to (g.b k) (g.a k))
      (λ u. rightward u ≡ starts_at g v k)
      (λ e. is_true (right_before (g.a k) (g.b k) strict) ∙ sym e) (λ e. turned_back ∙ sym e)

-- ---- an unskipped entry of node v
pub record Spoke (g : Graph) (state : List ℕ) (v k : ℕ) : Type 0 where
  pub listed : Mem k (g.entries v)
  pub unskipped : get_or state k 0 ≡ 1 → ⊥

-- What the ring asks of a node: the a of each unskipped entry is before its b
-- (check 3), and no two of them run from it in one direction (check 7).
pub record Spread (g : Graph) (state : List ℕ) (v : ℕ) : Type 0 where
  pub strict : (k : ℕ) → Spoke g state v k → Forward g k
  pub apart : (j k : ℕ) → Spoke g state v j → Spoke g state v k → (j ≡ k → ⊥)
      → same_direction (away_from g v j) (away_from g v k) ≡ false

pub spread_fine : {g : Graph} {m : ℕ} {top state : List ℕ} → FineLinks g m → FineLists g m → FineBand g top state
    → (v : ℕ) → Spread g state v
spread_fine links lists band v = record {
  strict = λ k s. links.strict k (lists.below v k s.listed);
  apart = λ j k s t d. band.spread v j k s.listed t.listed d s.unskipped t.unskipped;
}
