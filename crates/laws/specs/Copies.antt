-- The loops that write a list over the front of a buffer, element by element: a copy, one element many times, a rule's values.
use Rattle.std.specs.Prelude.{ℕ, ◌+◌, ◌≤◌, ◌<◌, ◌≡◌, refl, List, length, get_or, set, replicate}
use Rattle.std.proofs.Common.{sym, ap, ◌∙◌, arith, add-one, zero-add, length-set, take_all}
use Rattle.std.proofs.lemmas.List.{length-replicate, get_or-replicate}
use Rattle.std.proofs.Math.Seq.{paste, paste-zero, paste-suc}
use Rattle.laws.specs.Lists.{tabulate, tabulate_length, tabulate_at, over_front}

-- the first i elements of `from` stand in front of the old tail
pub record Copying {A : Type 0} (old new from : List A) (i : ℕ) : Type 0 where
  pub on : i ≤ length from
  pub len : length new ≡ length old
  pub is : new ≡ paste old 0 from i

module _ {A : Type 0} where
  pub copy_start : (old from : List A) → Copying old old from 0
  copy_start old from = record { on = omega arith; len = refl; is = paste-zero old 0 from }

  module _ (d : A) (old new from : List A) (i : ℕ) (c : Copying old new from i) where
    pub copy_more : (v : A) → v ≡ get_or from i d → i < length old → i < length from → Copying old (set new i v) from (i + 1)
    copy_more v e h k = record {
      on = omega arith;
      len = length-set new i v ∙ c.len;
      is = let z : 0 + i ≡ i =
          omega arith in rw (e, c.is, add-one i) (ap (λ (j : ℕ). set (paste old 0 from i) j (get_or from i d)) (sym z) ∙ paste-suc old 0 from i d (rw z h) k);
    }

    pub copy_end : length from ≤ i → new ≡ over_front from old
    copy_end h =
        let q : i ≡ length from = omega (arith, c.on) in
        c.is ∙ rw (q, zero-add (length from), take_all (length from) from (omega arith))

  -- n times one element
  pub fill_more : (d : A) (old new : List A) (n : ℕ) (v : A) (i : ℕ) → Copying old new (replicate n v) i → i < length old → i < n
      → Copying old (set new i v) (replicate n v) (i + 1)
  fill_more d old new n v i c h k = copy_more d old new (replicate n v) i c v (sym (get_or-replicate n i v d k)) h (rw (length-replicate n v) k)

  -- what a rule gives for each number below n
  module _ (d : A) (f : ℕ → A) (old new : List A) (n i : ℕ) (c : Copying old new (tabulate f n) i) where
    pub list_more : (v : A) → v ≡ f i → i < length old → i < n → Copying old (set new i v) (tabulate f n) (i + 1)
    list_more v e h k = copy_more d old new (tabulate f n) i c v (e ∙ sym (tabulate_at d f n i k)) h (rw (tabulate_length f n) k)

    pub list_end : n ≤ i → new ≡ over_front (tabulate f n) old
    list_end h = copy_end d old new (tabulate f n) i c (rw (tabulate_length f n) h)
