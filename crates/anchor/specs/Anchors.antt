-- A list of anchors, as the code has it, and anchors by their coordinates, as the definitions read them.
use Rattle.std.specs.Prelude.{ℕ, suc, ◌≤◌, ◌<◌, ◌≡◌, List, length, map, get_or, set, ℤ, pos}
use Rattle.std.proofs.Common.{arith, get_or-set_same, get_or-set_other}
use Rattle.std.proofs.Math.ListN.{get_or-map}
use Rattle.std.proofs.lemmas.List.{length-map, map-set}
use Rattle.turn.specs.Points.{OnGrid}
use Rattle.anchor.specs.declared.Anchor.{Anchor}

-- the anchors, and the other ends of the anchor edges, by their coordinates
pub record Anchors : Type 0 where
  pub x : List ℤ
  pub y : List ℤ
  pub to_x : List ℤ
  pub to_y : List ℤ

abbrev pub anchors : List ℤ → List ℤ → List ℤ → List ℤ → Anchors
anchors x y u v = record { x = x; y = y; to_x = u; to_y = v }

abbrev pub listed_anchor : Anchors → ℕ → Anchor
listed_anchor h j = record {
  at = record { x = get_or h.x j (pos 0); y = get_or h.y j (pos 0) };
  to = record { x = get_or h.to_x j (pos 0); y = get_or h.to_y j (pos 0) };
}

-- the anchors with a at place j
abbrev pub with_anchor : Anchors → ℕ → Anchor → Anchors
with_anchor h j a = anchors (set h.x j a.at.x) (set h.y j a.at.y) (set h.to_x j a.to.x) (set h.to_y j a.to.y)

-- what stands past a list of anchors
abbrev pub blank : Anchor
blank = record { at = record { x = pos 0; y = pos 0 }; to = record { x = pos 0; y = pos 0 } }

abbrev at_x : Anchor → ℤ
at_x a = a.at.x

abbrev at_y : Anchor → ℤ
at_y a = a.at.y

abbrev end_x : Anchor → ℤ
end_x a = a.to.x

abbrev end_y : Anchor → ℤ
end_y a = a.to.y

-- a list of anchors, by their coordinates
unfoldable pub anchors_of : List Anchor → Anchors
anchors_of l = anchors (map at_x l) (map at_y l) (map end_x l) (map end_y l)

-- room for n anchors
pub record AnchorRoom (h : Anchors) (n : ℕ) : Type 0 where
  pub x_room : n ≤ length h.x
  pub y_room : n ≤ length h.y
  pub to_x_room : n ≤ length h.to_x
  pub to_y_room : n ≤ length h.to_y

-- n anchors within the bounds
pub record AnchorsOnGrid (h : Anchors) (n : ℕ) : Type 0 where
  pub room : AnchorRoom h n
  pub at : (j : ℕ) → j < n → OnGrid (listed_anchor h j).at
  pub to : (j : ℕ) → j < n → OnGrid (listed_anchor h j).to

-- ---- fewer anchors
pub less_room : (h : Anchors) (n : ℕ) {m : ℕ} → AnchorRoom h m → n ≤ m → AnchorRoom h n
less_room h n r l = record {
  x_room = omega (arith, r.x_room);
  y_room = omega (arith, r.y_room);
  to_x_room = omega (arith, r.to_x_room);
  to_y_room = omega (arith, r.to_y_room);
}

pub fewer_anchors : (h : Anchors) (n : ℕ) {m : ℕ} → AnchorsOnGrid h m → n ≤ m → AnchorsOnGrid h n
fewer_anchors h n a l = record { room = less_room h n a.room l; at = λ j k. a.at j (omega arith); to = λ j k. a.to j (omega arith) }

-- ---- an anchor put at a place
module _ (h : Anchors) (j : ℕ) (a : Anchor) where
  pub anchor_here : AnchorRoom h (suc j) → listed_anchor (with_anchor h j a) j ≡ a
  anchor_here r =
      rw (
        get_or-set_same h.x j a.at.x (pos 0) r.x_room,
        get_or-set_same h.y j a.at.y (pos 0) r.y_room,
        get_or-set_same h.to_x j a.to.x (pos 0) r.to_x_room,
        get_or-set_same h.to_y j a.to.y (pos 0) r.to_y_room,
      )

  pub anchor_other : (i : ℕ) → (i ≡ j → ⊥) → listed_anchor (with_anchor h j a) i ≡ listed_anchor h i
  anchor_other i n =
      rw (
        get_or-set_other h.x j i a.at.x (pos 0) n,
        get_or-set_other h.y j i a.at.y (pos 0) n,
        get_or-set_other h.to_x j i a.to.x (pos 0) n,
        get_or-set_other h.to_y j i a.to.y (pos 0) n,
      )

-- ---- a list of anchors
module _ (l : List Anchor) where
  pub anchor_at : (j : ℕ) → listed_anchor (anchors_of l) j ≡ get_or l j blank
  unfolding anchors_of
  anchor_at j = rw (get_or-map at_x l j blank, get_or-map at_y l j blank, get_or-map end_x l j blank, get_or-map end_y l j blank)

  pub anchor_put : (j : ℕ) (a : Anchor) → anchors_of (set l j a) ≡ with_anchor (anchors_of l) j a
  unfolding anchors_of
  anchor_put j a = rw (map-set at_x l j a, map-set at_y l j a, map-set end_x l j a, map-set end_y l j a)

  pub anchors_room : (n : ℕ) → n ≤ length l → AnchorRoom (anchors_of l) n
  unfolding anchors_of
  anchors_room n r = record {
    x_room = rw (length-map l at_x) r;
    y_room = rw (length-map l at_y) r;
    to_x_room = rw (length-map l end_x) r;
    to_y_room = rw (length-map l end_y) r;
  }

  pub anchors_long : (n : ℕ) → AnchorRoom (anchors_of l) n → n ≤ length l
  unfolding anchors_of
  anchors_long n r = rw (length-map l at_x) at r.x_room
