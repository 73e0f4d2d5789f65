-- Gathering the holes with their anchors, contour by contour.
use Prim.Native.Nat.{ℕ, suc, ◌+◌, ◌≤◌, ◌<◌}
use mathlib.Core.Path.{◌≡◌, refl, sym, ap, ◌∙◌}
use mathlib.Core.Bool.{Bool, true, false}
use mathlib.Core.List.{List, [], ◌∷◌, ◌++◌}
use native.Mathlib.Omega.{arith}
use native.Mathlib.Numerals.{add-one}
use native.Mathlib.Nat.{not-suc-le-zero}
use native.Mathlib.Decide.{ℕ_discrete}
use lib.ListN.{length, get_or, set, length-append, get_or-append}
use lib.Seq.{get_or-set_same, get_or-set_other, get_or_at}
use borrow.Author.Tests.{eq-eqb, ne_eqb}
use Rattle.table.specs.Table.{Table, contour_count, kind_of, is_hole}
use Rattle.table.specs.Fronts.{kept_all, kept_set}
use Rattle.anchor.specs.declared.Anchor.{Anchor}
use Rattle.anchor.specs.Anchor.{anchor_edge}
use Rattle.anchor.specs.Anchors.{Anchors, listed_anchor, with_anchor, blank, anchors_of, anchor_here, anchor_other, anchor_put, anchors_room}
use Rattle.order.specs.HoleOrder.{holes_below}
use Rattle.order.specs.HoleLists.{GatheredInto}

-- ---- the holes among the first n contours
pub holes_skip : (t : Table) (c : ℕ) → is_hole t c ≡ false → holes_below t (c + 1) ≡ holes_below t c
unfolding holes_below
holes_skip t c e = rw (add-one c, e)

pub holes_more : (t : Table) (c : ℕ) → is_hole t c ≡ true → holes_below t (c + 1) ≡ holes_below t c ++ (c ∷ [])
unfolding holes_below
holes_more t c e = rw (add-one c, e)

-- ---- the loop of `gather_holes`: the first c contours have been looked at
pub record Gathering (t : Table) (cw : Bool) (who₀ : List ℕ) (list₀ : List Anchor) (who : List ℕ) (list : List Anchor) (m c : ℕ) : Type 0 where
  pub few : m ≤ c
  pub into : GatheredInto t cw c m who₀ list₀ who list

pub gather_start : (t : Table) (cw : Bool) (who : List ℕ) (list : List Anchor) → Gathering t cw who list who list 0 0
unfolding holes_below
gather_start t cw who list = record {
  few = omega arith;
  into = record {
    found = record { all = refl; who_is = λ j l. absurd (not-suc-le-zero l); at = λ j l. absurd (not-suc-le-zero l) };
    who_kept = kept_all 0 0 who;
    anchors_kept = kept_all blank 0 list;
  };
}

module _ (t : Table) (cw : Bool) (who₀ : List ℕ) (list₀ : List Anchor) (who : List ℕ) (list : List Anchor) (m c : ℕ)
    (g : Gathering t cw who₀ list₀ who list m c) (l : c < contour_count t) where
  -- room for the next hole's anchor
  pub gather_room : contour_count t ≤ length list₀ → m < length list
  gather_room r = omega (arith, g.few, g.into.anchors_kept.len)

  pub gather_skip : (kind_of t c ≡ 1 → ⊥) → Gathering t cw who₀ list₀ who list m (c + 1)
  gather_skip n = record {
    few = omega (arith, g.few);
    into = record {
      found = record {
        all = g.into.found.all ∙ ap length (sym (holes_skip t c (ne_eqb _ _ n)));
        who_is = rw (holes_skip t c (ne_eqb _ _ n)) g.into.found.who_is;
        at = rw (holes_skip t c (ne_eqb _ _ n)) g.into.found.at;
      };
      who_kept = g.into.who_kept;
      anchors_kept = g.into.anchors_kept;
    };
  }

  module _ (k : kind_of t c ≡ 1) (a : Anchor) (e : a ≡ anchor_edge t cw c) (r : contour_count t ≤ length who₀) (s : contour_count t ≤ length list₀)
    where
      abbrev h : Anchors
      h = anchors_of list

      more : holes_below t (c + 1) ≡ holes_below t c ++ (c ∷ [])
      more = holes_more t c (eq-eqb _ _ k)

      old_at : (j : ℕ) → j < m → get_or (holes_below t (c + 1)) j 0 ≡ get_or (holes_below t c) j 0
      old_at j i = rw more (get_or-append (holes_below t c) (c ∷ []) 0 j (omega (arith, g.into.found.all)))

      new_at : get_or (holes_below t (c + 1)) m 0 ≡ c
      new_at = rw more (get_or_at (holes_below t c) c [] 0 m (sym g.into.found.all))

      who_next : (j : ℕ) → j < m + 1 → Dec (j ≡ m) → get_or (set who m c) j 0 ≡ get_or (holes_below t (c + 1)) j 0
      who_next j i (yes z) = rw z (get_or-set_same who m c 0 (omega (arith, g.into.who_kept.len, g.few)) ∙ sym new_at)
      who_next j i (no z) = get_or-set_other who m j c 0 z ∙ g.into.found.who_is j (omega arith) ∙ sym (old_at j (omega arith))

      at_next : (j : ℕ) → j < m + 1 → Dec (j ≡ m) → listed_anchor (anchors_of (set list m a)) j ≡ anchor_edge t cw (get_or (holes_below t (c + 1)) j 0)
      at_next j i (yes z) =
          ap (λ (w : Anchors). listed_anchor w j) (anchor_put list m a) ∙ ap (listed_anchor (with_anchor h m a)) z
          ∙ anchor_here h m a (anchors_room list (suc m) (gather_room s))
          ∙ e ∙ ap (anchor_edge t cw) (sym new_at ∙ ap (λ (w : ℕ). get_or (holes_below t (c + 1)) w 0) (sym z))
      at_next j i (no z) =
          ap (λ (w : Anchors). listed_anchor w j) (anchor_put list m a) ∙ anchor_other h m a j z ∙ g.into.found.at j (omega arith)
          ∙ ap (anchor_edge t cw) (sym (old_at j (omega arith)))

      pub gather_more : Gathering t cw who₀ list₀ (set who m c) (set list m a) (m + 1) (c + 1)
      gather_more = record {
        few = omega (arith, g.few);
        into = record {
          found = record {
            all = ap (λ (w : ℕ). w + 1) g.into.found.all ∙ sym (ap length more ∙ length-append (holes_below t c) (c ∷ []));
            who_is = λ j i. who_next j i (ℕ_discrete j m);
            at = λ j i. at_next j i (ℕ_discrete j m);
          };
          who_kept = kept_set 0 m who₀ who g.into.who_kept c;
          anchors_kept = kept_set blank m list₀ list g.into.anchors_kept a;
        };
      }
