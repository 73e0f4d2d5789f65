-- The ways out of the lookup, one law for each, over what the code has found there.
use Rattle.std.specs.Prelude.{Option, Some, None, Ok, Err}
use Prim.Native.Nat.{ℕ, ◌≤◌, ◌<◌}
use mathlib.Core.Path.{◌≡◌, refl, sym, ap, ◌∙◌}
use mathlib.Core.Bool.{Bool, true, false, ◌&&◌}
use mathlib.Core.List.{List}
use lib.Dec.{ltb}
use lib.ListN.{length, get_or, take}
use lib.Seq.{take-length}
use borrow.Author.Tests.{lt-ltb, le-ltb}
use Rattle.laws.specs.Test.{pick}
use Rattle.std.specs.Result.{result_ok}
use Rattle.std.proofs.lemmas.Option.{none-some}
use Rattle.turn.specs.Refusals.{Checked, is_fine, no_fault}
use Rattle.table.specs.Table.{Table, contour_count, first_of, len_of, kind_of, hulls}
use Rattle.table.specs.TableChecks.{table_checked}
use Rattle.lookup.specs.declared.records.Role.{Role}
use Rattle.lookup.specs.Lookups.{owner_right, role_of, record_if_right, looked_up}
use Rattle.lookup.specs.declared.records.ContourRecord.{ContourRecord}

module _ (t : Table) (owner : List ℕ) (c h s : ℕ) (eh : h ≡ hulls (take (length t.kind) t.kind)) (es : s ≡ hulls (take c t.kind)) where
  hulls_is : h ≡ hulls t.kind
  hulls_is = eh ∙ ap hulls (take-length t.kind)

  right_is : owner_right (kind_of t c) (get_or owner c 0) s h ≡ owner_right (kind_of t c) (get_or owner c 0) (hulls (take c t.kind)) (hulls t.kind)
  right_is = λ i. owner_right (kind_of t c) (get_or owner c 0) (es i) (hulls_is i)

  choice_no : (b : Bool) (x : Option ContourRecord) → b ≡ false → None ≡ pick b x None
  choice_no b x e = rw e

  choice_yes : (b : Bool) (x y : Option ContourRecord) → b ≡ true → y ≡ x → y ≡ pick b x None
  choice_yes b x y e f = rw e f

  pub owner_wrong : (b : Bool) → b ≡ owner_right (kind_of t c) (get_or owner c 0) s h → b ≡ false → None ≡ record_if_right t owner c
  owner_wrong b e f = choice_no _ _ (sym (e ∙ right_is) ∙ f)

  pub owner_fine : (b : Bool) (r : Role) → b ≡ owner_right (kind_of t c) (get_or owner c 0) s h → b ≡ true → r ≡ role_of (kind_of t c) (get_or owner c 0) h
      → Some (record { first = first_of t c; len = len_of t c; role = r }) ≡ record_if_right t owner c
  owner_fine b r e f q =
      choice_yes _ _ _ (sym (e ∙ right_is) ∙ f)
      (ap Some (λ i. record { first = first_of t c; len = len_of t c; role = (q ∙ ap (role_of (kind_of t c) (get_or owner c 0)) hulls_is) i }))

-- check 10's answer, by what `ok` makes of it
pub passed : (k : Checked) (u : Unit) → Some u ≡ result_ok k → k ≡ no_fault
passed (Ok v) u e = refl
passed (Err r) u e = absurd (none-some u (sym e))

module _ (t : Table) (owner : List ℕ) (c : ℕ) where
  pub lookup_past : contour_count t ≤ c → None ≡ looked_up t owner c
  unfolding looked_up
  lookup_past l = rw (le-ltb c (contour_count t) l)

  pub lookup_refused : (k : Checked) → None ≡ result_ok k → k ≡ table_checked t (length owner) → None ≡ looked_up t owner c
  unfolding looked_up
  lookup_refused (Ok u) n e = absurd (none-some u n)
  lookup_refused (Err r) n e = go (ltb c (contour_count t))
    where
      go : (b : Bool) → None ≡ pick (b && is_fine (table_checked t (length owner))) (record_if_right t owner c) None
      go true = rw (sym e)
      go false = refl

  pub lookup_found : (r : Option ContourRecord) → c < contour_count t → no_fault ≡ table_checked t (length owner) → r ≡ record_if_right t owner c
      → r ≡ looked_up t owner c
  unfolding looked_up
  lookup_found r l e q = q ∙ rw (lt-ltb c (contour_count t) l, sym e)
