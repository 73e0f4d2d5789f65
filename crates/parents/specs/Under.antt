-- Whose edges lie under a hole's anchor: a hull's, or those of a hole that goes before it in binding's order; never its own.
use Rattle.std.specs.Prelude.{ℕ, ◌≤◌, ◌<◌, ◌≡◌, ◌⊎◌, Bool, true, false, [], ◌∷◌, ℤ, pos, neg_ℤ, ◌-ℤ◌, ◌*ℤ◌, ◌<ℤ◌}
use Rattle.std.proofs.Math.Path.{refl}
use Rattle.std.proofs.Common.{sym, ap, ◌∙◌, subst, inl, inr}
use Rattle.std.specs.Int.Signed.{lt_z, le_z}
use Rattle.laws.specs.Test.{true≢false, and_true}
use Rattle.laws.specs.Ring.{ring, var, con, ◌:-◌, ◌:*◌, neg}
use Rattle.laws.specs.Sign.{Sgn, mns, zer, pls, sgn, flip, eq_s, is_mns, sgn_mul, sgn_neg, lt_z_sgn, gt_z_sgn}
use Rattle.laws.specs.Order.{antisym, tricho, sub_pos, <-sgn}
use Rattle.laws.specs.Compare.{lower, yes_lt, no_lt, lt_no, le_yes}
use Rattle.turn.specs.declared.Point.{Point}
use Rattle.turn.specs.declared.Vector.{Vector}
use Rattle.turn.specs.Points.{before, from_to, cross, clockwise}
use Rattle.turn.specs.Directions.{cross_anti}
use Rattle.turn.specs.PointOrder.{before_total, not_before_transitive}
use Rattle.table.specs.Table.{Table, point_count, point, contour_count, contour_of, first_of, range_end, is_hole, next}
use Rattle.table.specs.Sound.{Sound}
use Rattle.table.specs.Passing.{Located, located, next_within, previous_next}
use Rattle.anchor.specs.declared.Anchor.{Anchor}
use Rattle.anchor.specs.Anchor.{anchor_way, anchor_point, anchor_edge}
use Rattle.anchor.specs.Anchored.{Anchored}
use Rattle.anchor.specs.Onward.{Onward, onward, onward_trans}
use Rattle.anchor.specs.AnchorLaws.{EdgeAt, edge_ahead, edge_lowest}
use Rattle.edges.specs.declared.Edge.{Edge}
use Rattle.edges.specs.Edges.{along, run, height, spans, lies_under}
use Rattle.edges.specs.Nearer.{spans_runs}
use Rattle.candidates.specs.Candidates.{edge_of, edge}
use Rattle.nearest.specs.Least.{counts}
use Rattle.precede.specs.Precedence.{goes_before}
use Rattle.order.specs.HoleOrder.{precedes}
use Rattle.order.specs.OrderLaws.{precedes_itself}

-- ---- an edge that spans an anchor and lies under it begins before the anchor, or in it and strictly clockwise of the anchor edge
abbrev Begins : Anchor → Edge → Type 0
Begins a e = (before e.left a.at ≡ true) ⊎ ((e.left ≡ a.at) × (lt_z (pos 0) (cross (along e) (anchor_way a)) ≡ true))

-- over the anchor the edge's height is its run times what the anchor is higher than its left end
straight_up : (a : Anchor) (e : Edge) → e.left.x ≡ a.at.x → height a e ≡ run e *ℤ (a.at.y -ℤ e.left.y)
straight_up a e h =
    ap (λ (x : ℤ). (e.right.x -ℤ e.left.x) *ℤ (a.at.y -ℤ e.left.y) -ℤ (e.right.y -ℤ e.left.y) *ℤ (x -ℤ e.left.x)) (sym h)
    ∙ ring (e.left.x ∷ e.left.y ∷ e.right.x ∷ e.right.y ∷ a.at.y ∷ [])
    ((var 2 :- var 0) :* (var 4 :- var 1) :- (var 3 :- var 1) :* (var 0 :- var 0)) ((var 2 :- var 0) :* (var 4 :- var 1)) tt

below_no : (z : ℤ) (r : Bool) → sgn z ≡ mns → lower (pos 0) z r ≡ false
below_no z r e = rw (gt_z_sgn z ∙ ap (λ (s : Sgn). eq_s s pls) e, lt_z_sgn z ∙ ap is_mns e)

begins : (a : Anchor) (e : Edge) → spans a.at.x e ≡ true → lies_under a e ≡ true → Begins a e
unfolding lies_under
begins a e s u = go (lt_z e.left.x a.at.x) refl
  where
    k : (le_z e.left.x a.at.x ≡ true) × (lt_z a.at.x e.right.x ≡ true)
    k = and_true (le_z e.left.x a.at.x) (lt_z a.at.x e.right.x) s

    r : Bool
    r = lt_z (pos 0) (cross (along e) (anchor_way a))

    nothing : (x y : ℤ) → x ≡ y → y -ℤ x ≡ pos 0
    nothing x y h = rw h (ring (y ∷ []) (var 0 :- var 0) (con (pos 0)) tt)

    back : (x y : ℤ) → x -ℤ y ≡ neg_ℤ (y -ℤ x)
    back x y = ring (x ∷ y ∷ []) (var 0 :- var 1) (neg (var 1 :- var 0)) tt

    level : lt_z e.left.x a.at.x ≡ false → e.left.x ≡ a.at.x
        → (e.left.y <ℤ a.at.y) ⊎ ((e.left.y ≡ a.at.y) ⊎ (a.at.y <ℤ e.left.y)) → Begins a e
    level h x (inl l) = inl (rw (h, no_lt (le_yes _ _ k.0), yes_lt l))
    level h x (inr (inl y)) =
        let z : height a e ≡ pos 0 = straight_up a e x ∙ rw (nothing e.left.y a.at.y y) (ring (run e ∷ []) (var 0 :* con (pos 0)) (con (pos 0)) tt) in
        inr ((λ i. record { x = x i; y = y i }), subst (λ (w : ℤ). lower (pos 0) w r ≡ true) z u)
    level h x (inr (inr l)) =
        let z : sgn (height a e) ≡ mns
        = ap sgn (straight_up a e x) ∙ sgn_mul (run e) (a.at.y -ℤ e.left.y)
        ∙ rw (
          <-sgn (run e) (spans_runs a.at.x e s),
          back a.at.y e.left.y,
          sgn_neg (e.left.y -ℤ a.at.y),
          <-sgn (e.left.y -ℤ a.at.y) (sub_pos a.at.y e.left.y l),
        ) refl in
        absurd (true≢false u (below_no (height a e) r z))

    go : (b : Bool) → lt_z e.left.x a.at.x ≡ b → Begins a e
    go true h = inl (rw h)
    go false h = level h (antisym (le_yes _ _ k.0) (lt_no _ _ h)) (tricho e.left.y a.at.y)

-- ---- angles, of vectors that run onward: what is strictly above an edge that is not lower than w is strictly above w
turned : (u v : Vector) → lt_z (cross v u) (pos 0) ≡ lt_z (pos 0) (cross u v)
turned u v =
    lt_z_sgn (cross v u) ∙ ap (λ (z : ℤ). is_mns (sgn z)) (cross_anti u v) ∙ ap is_mns (sgn_neg (cross u v)) ∙ at (sgn (cross u v)) ∙ sym (gt_z_sgn (cross u v))
  where
    at : (s : Sgn) → is_mns (flip s) ≡ eq_s s pls
    at mns = refl
    at zer = refl
    at pls = refl

above_too : (w u v : Vector) → Onward w → Onward u → Onward v → lt_z (cross w u) (pos 0) ≡ false → lt_z (pos 0) (cross u v) ≡ true
    → lt_z (pos 0) (cross w v) ≡ true
above_too w u v a b c p q = go (lt_z (pos 0) (cross w v)) refl
  where
    go : (x : Bool) → lt_z (pos 0) (cross w v) ≡ x → lt_z (pos 0) (cross w v) ≡ true
    go true h = h
    go false h = absurd (true≢false (turned u v ∙ q) (onward_trans v w u c a b (turned w v ∙ h) p))

-- ---- so its hole goes first: hole d with the anchor b, whose edge e lies under hole c's anchor, a
module _ (a b : Anchor) (c d : ℕ) (e : Edge) (ha : before a.at a.to ≡ true) (hb : before b.at b.to ≡ true)
    (least : before e.left b.at ≡ false) (lowest : e.left ≡ b.at → clockwise b.at b.to e.right ≡ false)
    (s : spans a.at.x e ≡ true) where
  at_anchor : e.left ≡ a.at → lt_z (pos 0) (cross (along e) (anchor_way a)) ≡ true → before b.at a.at ≡ false → goes_before b a d c ≡ true
  at_anchor q u h = rw (h, other, angle)
    where
      other : before a.at b.at ≡ false
      other = subst (λ (p : Point). before p b.at ≡ false) q least

      same : e.left ≡ b.at
      same = q ∙ before_total a.at b.at other h

      not_lower : lt_z (cross (anchor_way b) (along e)) (pos 0) ≡ false
      not_lower = subst (λ (p : Point). lt_z (cross (anchor_way b) (from_to p e.right)) (pos 0) ≡ false) (sym same) (lowest same)

      angle : lt_z (pos 0) (cross (anchor_way b) (anchor_way a)) ≡ true
      angle =
          above_too (anchor_way b) (along e) (anchor_way a) (onward b.at b.to hb) (inl (spans_runs a.at.x e s)) (onward a.at a.to ha) not_lower u

  goes_first : lies_under a e ≡ true → goes_before b a d c ≡ true
  goes_first u = go (before b.at a.at) refl (begins a e s u)
    where
      go : (x : Bool) → before b.at a.at ≡ x → Begins a e → goes_before b a d c ≡ true
      go true h r = rw h
      go false h (inl p) = absurd (true≢false p (not_before_transitive a.at b.at e.left h least))
      go false h (inr (q, w)) = at_anchor q w h

-- ---- in a table that passes checks 10 and 11
module _ (t : Table) (cw : Bool) (s : Sound t) (a : Anchored t cw) (right : Bool) (gives : ℕ → Bool) where
  -- an edge of the table is one of its contour, at its left end
  at_left : (right : Bool) (k d : ℕ) → Located t k d → (e : Edge) → e ≡ edge_of right (point t k) (point t (next t d k)) e.kind e.contour
      → EdgeAt t d e.left e.right
  at_left true k d h e q = record {
    position = k;
    passes = record { from = h.from; to = h.to; here = sym (ap (λ (x : Edge). x.left) q) };
    either = inl (ap (λ (x : Edge). x.right) q);
  }
  at_left false k d h e q = record {
    position = next t d k;
    passes = record { from = w.0; to = w.1; here = sym (ap (λ (x : Edge). x.left) q) };
    either = inr (ap (λ (x : Edge). x.right) q ∙ ap (point t) (sym (previous_next (first_of t d) (range_end t d) k h.from h.to)));
  }
    where
      w : (first_of t d ≤ next t d k) × (next t d k < range_end t d)
      w = next_within (first_of t d) (range_end t d) k h.from h.to

  edge_at_left : (k : ℕ) → k < point_count t → EdgeAt t (contour_of t k) (edge t right k).left (edge t right k).right
  unfolding edge
  edge_at_left k m = at_left right k (contour_of t k) (located t s k m) (edge t right k) refl

  module _ (c : ℕ) (l : c < contour_count t) (h : is_hole t c ≡ true) (k : ℕ) (m : k < point_count t)
      (counted : counts (edge t right) gives (anchor_edge t cw c) k ≡ true) where
    abbrev d : ℕ
    d = contour_of t k

    abbrev e : Edge
    e = edge t right k

    parts : (spans (anchor_edge t cw c).at.x e ≡ true) × (lies_under (anchor_edge t cw c) e ≡ true)
    parts = and_true _ _ (and_true (gives e.contour) _ counted).1

    -- the hole of an edge that lies under another's anchor goes before that other in binding's order
    pub under_before : is_hole t d ≡ true → precedes t cw d c ≡ true
    under_before g =
        goes_first (anchor_edge t cw c) (anchor_edge t cw d) c d e (edge_ahead t cw s a c l h) (edge_ahead t cw s a d below g) least
        (λ q. edge_lowest t cw s a d below g e.right (subst (λ (p : Point). EdgeAt t d p e.right) q at)) parts.0 parts.1
      where
        below : d < contour_count t
        below = (located t s k m).below

        at : EdgeAt t d e.left e.right
        at = edge_at_left k m

        least : before e.left (anchor_point t cw d) ≡ false
        least = subst (λ (p : Point). before p (anchor_point t cw d) ≡ false) at.passes.here
            (a.least d at.position below g at.passes.from at.passes.to)

    -- no edge of a hole lies under its own anchor
    pub own_never : d ≡ c → ⊥
    own_never q = true≢false (subst (λ (x : ℕ). precedes t cw x c ≡ true) q (under_before (rw q h))) (precedes_itself t cw c)
