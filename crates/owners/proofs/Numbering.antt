-- The loop that writes the hulls' own numbers.
use Prim.Native.Nat.{ℕ, ◌+◌, ◌≤◌, ◌<◌}
use mathlib.Core.Path.{◌≡◌, sym, ap, ◌∙◌}
use mathlib.Core.List.{List}
use native.Mathlib.Omega.{arith}
use native.Mathlib.Nat.{add-zero, not-suc-le-zero}
use lib.ListN.{length, get_or, set, take}
use lib.Seq.{ext_get_or}
use borrow.Author.Tests.{eq-eqb, ne_eqb}
use Rattle.laws.specs.Lists.{tabulate, tabulate_length, tabulate_at, put_below}
use Rattle.laws.specs.Count.{count_none, count_more}
use Rattle.table.specs.Table.{hulls, dropped_owner}
use Rattle.owners.specs.Owners.{first_owner}

-- ---- `number_hulls`
pub record Numbering (kind new : List ℕ) (shape c : ℕ) : Type 0 where
  pub shapes : shape ≡ hulls (take c kind)
  pub few : shape ≤ c
  pub done : (i : ℕ) → i < c → get_or new i 0 ≡ first_owner kind i

pub numbering_start : (kind new : List ℕ) → Numbering kind new 0 0
numbering_start kind new = record { shapes = sym (count_none 0 kind); few = omega arith; done = λ i h. absurd (not-suc-le-zero h) }

module _ (kind new : List ℕ) (shape c : ℕ) (n : Numbering kind new shape c) (h : c < length kind) (r : length new ≡ length kind) where
  pub numbering_hull : get_or kind c 0 ≡ 0 → Numbering kind (set new c shape) (shape + 1) (c + 1)
  numbering_hull e = record {
    shapes = ap (λ (s : ℕ). s + 1) n.shapes ∙ sym (count_more 0 kind c h ∙ rw (eq-eqb _ _ e));
    few = omega (arith, n.few);
    done = put_below 0 (first_owner kind) new c shape (omega (arith, r)) (n.shapes ∙ rw (eq-eqb _ _ e)) n.done;
  }

  pub numbering_hole : (get_or kind c 0 ≡ 0 → ⊥) → Numbering kind (set new c dropped_owner) shape (c + 1)
  numbering_hole e = record {
    shapes = n.shapes ∙ sym (count_more 0 kind c h ∙ rw (ne_eqb _ _ e) (add-zero (hulls (take c kind))));
    few = omega (arith, n.few);
    done = put_below 0 (first_owner kind) new c dropped_owner (omega (arith, r)) (rw (ne_eqb _ _ e)) n.done;
  }

pub numbering_end : (kind new : List ℕ) (shape c : ℕ) → Numbering kind new shape c → length kind ≤ c → length new ≡ length kind
    → new ≡ tabulate (first_owner kind) (length kind)
numbering_end kind new shape c n h r =
    ext_get_or 0 new (tabulate (first_owner kind) (length kind)) (r ∙ sym (tabulate_length (first_owner kind) (length kind))) each
  where
    each : (i : ℕ) → i < length new → get_or new i 0 ≡ get_or (tabulate (first_owner kind) (length kind)) i 0
    each i l = n.done i (omega arith) ∙ sym (tabulate_at 0 (first_owner kind) (length kind) i (omega (arith, r)))
