-- An edge offered to the anchors that it spans is as good as offered to all: one that does not span an anchor leaves things as they are.
use Prim.Native.Nat.{ℕ, ◌+◌, ◌-◌, ◌≤◌, ◌<◌}
use mathlib.Core.Path.{◌≡◌, refl, ap, ◌∙◌}
use mathlib.Core.Bool.{Bool, true, false, ◌&&◌}
use mathlib.Core.List.{List}
use native.Mathlib.Omega.{arith}
use native.Mathlib.Numerals.{add-one}
use native.Mathlib.Nat.{le_trans}
use native.Mathlib.Decide.{dec_le}
use lib.ListN.{length, get_or, set, length-set}
use borrow.Author.Tests.{eq-eqb, ne_eqb}
use lib.IntN.{ℤ, pos}
use lib.Signed.{le_z, ◌<ℤ◌, ◌≤ℤ◌}
use mir.Syntax.{w32}
use mir.Val.{to_z, of_z}
use Rattle.laws.specs.Order.{≤_trans}
use Rattle.laws.specs.Compare.{yes_lt, no_lt, yes_le, no_le, le_yes, le_no}
use Rattle.laws.specs.Lists.{put_below, put_above}
use Rattle.turn.specs.Points.{Coord, OnGrid}
use Rattle.anchor.specs.declared.Anchor.{Anchor}
use Rattle.anchor.specs.Anchors.{Anchors, listed_anchor}
use Rattle.edges.specs.declared.Edge.{Edge}
use Rattle.edges.specs.Edges.{lies_under, nearer}
use Rattle.candidates.specs.EdgeLists.{EdgeLists, listed_edge}
use Rattle.candidates.specs.EdgeListLaws.{listed_contour}
use Rattle.nearest.specs.Search.{kept, offered, keep, nearest}
use Rattle.nearest.specs.SearchLists.{giving, SortedAnchors, Parted, Numbers, Offered, Nearests}
use Rattle.nearest.specs.Least.{nearest_le}
use Rattle.nearest.proofs.Parts.{coord32}

-- ---- the ways out of `kept`
module _ (edge : ℕ → Edge) (a : Anchor) (k b : ℕ) (e : Edge) (d : e ≡ edge k) where
  pub kept_not : lies_under a e ≡ false → b ≡ kept edge a k b
  unfolding kept
  kept_not u = rw (← d, u)

  pub kept_first : lies_under a e ≡ true → b ≡ 0 → k + 1 ≡ kept edge a k b
  unfolding kept
  kept_first u z = rw (← d, u, eq-eqb b 0 z)

  pub kept_nearer : (f : Edge) → f ≡ edge (b - 1) → lies_under a e ≡ true → (b ≡ 0 → ⊥) → nearer a e f ≡ true → k + 1 ≡ kept edge a k b
  unfolding kept
  kept_nearer f x u z t = rw (← d, ← x, u, ne_eqb b 0 z, t)

  pub kept_farther : (f : Edge) → f ≡ edge (b - 1) → lies_under a e ≡ true → (b ≡ 0 → ⊥) → nearer a e f ≡ false → b ≡ kept edge a k b
  unfolding kept
  kept_farther f x u z t = rw (← d, ← x, u, ne_eqb b 0 z, t)

-- ---- spanning
and_no : (b : Bool) → b && false ≡ false
and_no true = refl
and_no false = refl

module _ (edge : ℕ → Edge) (a : Anchor) (k b : ℕ) where
  offered_left : a.at.x <ℤ (edge k).left.x → b ≡ offered edge a k b
  unfolding offered
  offered_left h = rw (no_le h)

  offered_right : (edge k).right.x ≤ℤ a.at.x → b ≡ offered edge a k b
  unfolding offered
  offered_right h = rw (no_lt h, and_no (le_z (edge k).left.x a.at.x))

  offered_in : (edge k).left.x ≤ℤ a.at.x → a.at.x <ℤ (edge k).right.x → kept edge a k b ≡ offered edge a k b
  unfolding offered
  offered_in h l = rw (yes_le h, yes_lt l)

  -- an edge that does not run to the right spans nothing
  offered_back : (edge k).right.x ≤ℤ (edge k).left.x → b ≡ offered edge a k b
  offered_back h = go (le_z (edge k).left.x a.at.x) refl
    where
      go : (t : Bool) → le_z (edge k).left.x a.at.x ≡ t → b ≡ offered edge a k b
      go true t = offered_right (≤_trans h (le_yes _ _ t))
      go false t = offered_left (le_no _ _ t)

-- ---- the loop of `offer`: the anchors before j have been offered edge k, the others have not
pub record Offering (g : EdgeLists) (h : Anchors) (k : ℕ) (old new : List ℕ) (from j : ℕ) : Type 0 where
  pub len : length new ≡ length old
  pub on : from ≤ j
  pub done : (i : ℕ) → i < j → get_or new i 0 ≡ offered (listed_edge g) (listed_anchor h i) k (get_or old i 0)
  pub rest : (i : ℕ) → j ≤ i → get_or new i 0 ≡ get_or old i 0

-- the edge that the code holds
pub record Held (g : EdgeLists) (k : ℕ) (e : Edge) : Type 0 where
  pub is : e ≡ listed_edge g k
  pub left : Coord e.left.x
  pub right : Coord e.right.x

pub held : (g : EdgeLists) (k : ℕ) (e : Edge) → e ≡ listed_edge g k → OnGrid e.left → OnGrid e.right → Held g k e
held g k e d l r = record { is = d; left = l.0; right = r.0 }

-- what is kept at an anchor that the code holds
pub kept_at : (g : EdgeLists) (h : Anchors) (k j : ℕ) (a : Anchor) (r b : ℕ) → a ≡ listed_anchor h j → r ≡ kept (listed_edge g) a k b → r
    ≡ kept (listed_edge g) (listed_anchor h j) k b
kept_at g h k j a r b e q = rw e at q

-- a number as the code reads it
abbrev R : ℤ → ℤ
R z = to_z w32 (of_z w32 z)

-- an edge that the code sees not to run to the right
pub offer_back : (g : EdgeLists) (h : Anchors) (m k : ℕ) (e : Edge) → Held g k e → le_z (R e.right.x) (R e.left.x) ≡ true → (old : List ℕ)
    → Offered g h m k old old
offer_back g h m k e x t old j l =
    let b = le_yes e.right.x e.left.x (rw (coord32 e.right.x x.right, coord32 e.left.x x.left) at t) in
    offered_back (listed_edge g) (listed_anchor h j) k (get_or old j 0) (rw x.is at b)

module _ (g : EdgeLists) (h : Anchors) (m k : ℕ) (e : Edge) (from : ℕ) (hs : SortedAnchors h m) (x : Held g k e)
    (part : Parted h.x m (R e.left.x) from) (old : List ℕ) where
  pub offer_start : Offering g h k old old from from
  offer_start = record {
    len = refl;
    on = omega arith;
    done = λ i l.
        offered_left (listed_edge g) (listed_anchor h i) k (get_or old i 0)
        (rw x.is at (rw (coord32 e.left.x x.left) at (part.below i l)));
    rest = λ i l. refl;
  }

  -- an anchor's x is read as it is
  read : (j : ℕ) → j < m → R (get_or h.x j (pos 0)) ≡ get_or h.x j (pos 0)
  read j l = coord32 (get_or h.x j (pos 0)) (hs.on_grid.at j l).0

  module _ (new : List ℕ) (j : ℕ) (o : Offering g h k old new from j) where
    -- past the right end
    pub offer_past : le_z (R e.right.x) (R (get_or h.x j (pos 0))) ≡ true → j < m → Offered g h m k old new
    offer_past t f i v = at (dec_le j i)
      where
        past : e.right.x ≤ℤ get_or h.x j (pos 0)
        past = le_yes _ _ (rw (coord32 e.right.x x.right, read j f) at t)

        at : Dec (j ≤ i) → get_or new i 0 ≡ offered (listed_edge g) (listed_anchor h i) k (get_or old i 0)
        at (no u) = o.done i (omega arith)
        at (yes u) =
            let z : e.right.x ≤ℤ get_or h.x i (pos 0) = ≤_trans past (hs.sorted j i u v) in
            o.rest i u ∙ offered_right (listed_edge g) (listed_anchor h i) k (get_or old i 0) (rw x.is at z)

    -- past the last anchor
    pub offer_end : m ≤ j → Offered g h m k old new
    offer_end l i v = o.done i (omega arith)

    -- an anchor that the edge spans
    pub offer_more : (r : ℕ) → j < m → m ≤ length old → le_z (R e.right.x) (R (get_or h.x j (pos 0))) ≡ false
        → r ≡ kept (listed_edge g) (listed_anchor h j) k (get_or new j 0) → Offering g h k old (set new j r) from (j + 1)
    offer_more r l w t q = record {
      len = length-set new j r ∙ o.len;
      on = omega (arith, o.on);
      done = put_below 0 (λ i. offered (listed_edge g) (listed_anchor h i) k (get_or old i 0)) new j r (omega (arith, o.len))
          (q ∙ ap (kept (listed_edge g) (listed_anchor h j) k) (o.rest j (omega arith)) ∙ offered_in (listed_edge g) (listed_anchor h j) k (get_or old j 0)
          (rw x.is at begun) (rw x.is at before))
          o.done;
      rest = put_above 0 (λ i. get_or old i 0) new j r o.rest;
    }
      where
        begun : e.left.x ≤ℤ get_or h.x j (pos 0)
        begun = rw (coord32 e.left.x x.left) at (part.above j o.on l)

        before : get_or h.x j (pos 0) <ℤ e.right.x
        before = le_no _ _ (rw (coord32 e.right.x x.right, read j l) at t)

-- ---- the loop of `nearest_edges`: every anchor has the nearest of the first k edges
nearest_more : (edge : ℕ → Edge) (gives : ℕ → Bool) (a : Anchor) (k : ℕ) → keep edge gives a k (nearest edge gives a k) ≡ nearest edge gives a (k + 1)
unfolding nearest
nearest_more edge gives a k = rw (add-one k)

pub record Rounds (g : EdgeLists) (mute : List ℕ) (n : ℕ) (h : Anchors) (m : ℕ) (old new : List ℕ) (k : ℕ) : Type 0 where
  pub len : length new ≡ length old
  pub on : k ≤ n
  pub best : Nearests g mute k h m new

module _ (g : EdgeLists) (mute : List ℕ) (n : ℕ) (h : Anchors) (m : ℕ) (old : List ℕ) where
  pub rounds_start : ((j : ℕ) → j < m → get_or old j 0 ≡ 0) → Rounds g mute n h m old old 0
  unfolding nearest
  rounds_start z = record { len = refl; on = omega arith; best = z }

  module _ (mid : List ℕ) (k : ℕ) (r : Rounds g mute n h m old mid k) where
    pub rounds_numbers : Numbers mid m n
    rounds_numbers j l = rw (r.best j l) (le_trans (nearest_le (listed_edge g) (giving mute) (listed_anchor h j) k) r.on)

    -- a contour that gives no edges
    pub rounds_mute : k < n → (get_or mute (get_or g.of k 0) 0 ≡ 0 → ⊥) → Rounds g mute n h m old mid (k + 1)
    unfolding keep
    rounds_mute l e = record {
      len = r.len;
      on = omega arith;
      best = λ j v. r.best j v ∙ rw (listed_contour g k, ne_eqb (get_or mute (get_or g.of k 0) 0) 0 e) refl
          ∙ nearest_more (listed_edge g) (giving mute) (listed_anchor h j) k;
    }

    pub rounds_again : (new : List ℕ) → k < n → get_or mute (get_or g.of k 0) 0 ≡ 0 → length new ≡ length mid → Offered g h m k mid new
        → Rounds g mute n h m old new (k + 1)
    unfolding keep
    rounds_again new l z e o = record {
      len = e ∙ r.len;
      on = omega arith;
      best = λ j v. o j v ∙ ap (offered (listed_edge g) (listed_anchor h j) k) (r.best j v) ∙ given j ∙ nearest_more (listed_edge g) (giving mute)
          (listed_anchor h j) k;
    }
      where
        given : (j : ℕ) → offered (listed_edge g) (listed_anchor h j) k (nearest (listed_edge g) (giving mute) (listed_anchor h j) k)
            ≡ keep (listed_edge g) (giving mute) (listed_anchor h j) k (nearest (listed_edge g) (giving mute) (listed_anchor h j) k)
        given j = rw (listed_contour g k, eq-eqb (get_or mute (get_or g.of k 0) 0) 0 z)

    pub rounds_end : n ≤ k → Nearests g mute n h m mid
    rounds_end l j v = let e : k ≡ n = omega (arith, r.on) in rw e at (r.best j v)
