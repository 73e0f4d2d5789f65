-- Binding's order of the holes.
use Rattle.std.specs.Prelude.{ℕ, zero, suc, Bool, List, [], ◌∷◌, ◌++◌, length, get_or, take, drop}
use Rattle.laws.specs.Test.{pick}
use Rattle.table.specs.Table.{Table, contour_count, is_hole}
use Rattle.anchor.specs.Anchor.{anchor_edge}
use Rattle.precede.specs.Precedence.{goes_before}

-- two holes of a table
abbrev pub precedes : Table → Bool → ℕ → ℕ → Bool
precedes t cw c d = goes_before (anchor_edge t cw c) (anchor_edge t cw d) c d

-- ---- an order made by insertion
-- where the run of places at the end of n begins at which a test passes
unfoldable pub slot : (ℕ → Bool) → ℕ → ℕ
slot test zero = zero
slot test (suc n) = let further = slot test n in pick (test n) further (suc n)

abbrev pub insert_at : ℕ → ℕ → List ℕ → List ℕ
insert_at p c l = take p l ++ (c ∷ drop p l)

-- c put into a list: in front of those at its end that it goes before
unfoldable pub inserted : (ℕ → ℕ → Bool) → ℕ → List ℕ → List ℕ
inserted first c l = insert_at (slot (λ p. first c (get_or l p 0)) (length l)) c l

-- the first n of a sequence in order, `first` saying which of two goes first
unfoldable pub sorted : (ℕ → ℕ → Bool) → (ℕ → ℕ) → ℕ → List ℕ
sorted first f zero = []
sorted first f (suc n) = inserted first (f n) (sorted first f n)

-- ---- the holes
-- those among the first n contours, by number
unfoldable pub holes_below : Table → ℕ → List ℕ
holes_below t zero = []
holes_below t (suc c) = let earlier = holes_below t c in pick (is_hole t c) (earlier ++ (c ∷ [])) earlier

abbrev pub holes : Table → List ℕ
holes t = holes_below t (contour_count t)

abbrev pub hole : Table → ℕ → ℕ
hole t j = get_or (holes t) j 0

abbrev pub binding_order : Table → Bool → List ℕ
binding_order t cw = sorted (precedes t cw) (hole t) (length (holes t))
