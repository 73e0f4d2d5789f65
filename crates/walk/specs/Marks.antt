-- Marks on unvisited links: what they leave as it was.
use Rattle.std.specs.Prelude.{ℕ, suc, ◌≡◌, refl, false, List, get_or, set}
use Rattle.std.proofs.Common.{sym, ap, ◌∙◌, arith, length-set, eq-eqb, ne_eqb}
use Rattle.std.proofs.Math.Decide.{ℕ_discrete}
use Rattle.std.proofs.Math.Seq.{map-set_same}
use Rattle.next.specs.Next.{is_unvisited, unvisited}
use Rattle.walk.specs.States.{Mark, set_same, set_other, unvisited_set}
use Rattle.walk.specs.Code.{unmark, Kept, Marks}

pub is_mark : (m : ℕ) → Marks m → Mark m
is_mark m h = ne_eqb m 0 (λ e. absurd (l e))
  where
    l : m ≡ 0 → ⊥
    l e = omega arith

pub kept_mark : (st : List ℕ) (k m : ℕ) → Marks m → get_or st k 1 ≡ 0 → Kept st (set st k m)
kept_mark st k m h e = record { len = length-set st k m; marks = map-set_same unmark st k m 1 (same ∙ ap unmark (sym e)); closed = stays }
  where
    stays : (j : ℕ) → is_unvisited st j ≡ false → is_unvisited (set st k m) j ≡ false
    stays j c =
        elim (ℕ_discrete j k) [ yes q ↦ ap (is_unvisited (set st k m)) q ∙ set_same st k m (eq-eqb _ _ e) (is_mark m h) | no d ↦ set_other st k m j d ∙ c ]

    not_one : m ≡ 1 → ⊥
    not_one q = omega arith

    same : unmark m ≡ 0
    same = rw (ne_eqb m 1 not_one)

pub fewer : (st : List ℕ) (k m : ℕ) → Marks m → get_or st k 1 ≡ 0 → unvisited st ≡ suc (unvisited (set st k m))
fewer st k m h e = unvisited_set st k m (eq-eqb _ _ e) (is_mark m h)

pub kept_none : (st : List ℕ) → Kept st st
kept_none st = record { len = refl; marks = refl; closed = λ j c. c }

pub kept_then : {s t u : List ℕ} → Kept s t → Kept t u → Kept s u
kept_then h k = record { len = k.len ∙ h.len; marks = k.marks ∙ h.marks; closed = λ j c. k.closed j (h.closed j c) }
