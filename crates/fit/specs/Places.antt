-- Where the points of a walk stand in the table that extraction writes: contour c of the table is the c-th kept walk.
use Rattle.std.specs.Prelude.{ℕ, zero, suc, ◌+◌, ◌≤◌, ◌<◌, ◌≡◌, refl, false, List, [], ◌∷◌, ◌++◌, length, get_or}
use Rattle.std.proofs.Common.{arith, ap, ◌∙◌, get_or-append-add}
use Rattle.std.proofs.lemmas.List.{length-map}
use Rattle.std.proofs.Math.ListN.{get_or-append, get_or-map}
use Rattle.laws.specs.Test.{pick}
use Rattle.graph.specs.Graph.{Graph}
use Rattle.table.specs.Table.{Table, table, point_in}
use Rattle.walk.specs.Walk.{Walk, left, points}
use Rattle.keep.specs.Outcome.{lens, firsts, kinds, all_points, coordinates, sum}
use Rattle.straighten.specs.Reread.{origin, coordinates_at}

-- what extraction writes of its kept walks
abbrev pub table_of : Graph → List Walk → Table
table_of g ks = table (coordinates (all_points g ks)) (firsts 0 (lens ks)) (lens ks) (kinds ks)

abbrev pub no_walk : Walk
no_walk = record { hole = false; steps = [] }

-- the c-th walk
abbrev pub walk_at : List Walk → ℕ → Walk
walk_at ks c = get_or ks c no_walk

pub firsts_from : (at : ℕ) (ns : List ℕ) (c : ℕ) → c < length ns → get_or (firsts at ns) c 0 ≡ at + get_or (firsts 0 ns) c 0
firsts_from at [] c h = absurd (nothing c h)
  where
    nothing : (c : ℕ) → c < 0 → ⊥
    nothing c h = omega arith
firsts_from at (n ∷ ns) zero h = omega arith
firsts_from at (n ∷ ns) (suc c) h = omega (arith, firsts_from (at + n) ns c (omega arith), firsts_from (0 + n) ns c (omega arith))

pub firsts_follow : (at : ℕ) (ns : List ℕ) (c : ℕ) → suc c < length ns → get_or (firsts at ns) (suc c) 0 ≡ get_or (firsts at ns) c 0 + get_or ns c 0
firsts_follow at [] c h = absurd (nothing c h)
  where
    nothing : (c : ℕ) → suc c < 0 → ⊥
    nothing c h = omega arith
firsts_follow at (n ∷ []) c h = absurd (nothing c h)
  where
    nothing : (c : ℕ) → suc c < 1 → ⊥
    nothing c h = omega arith
firsts_follow at (n ∷ (m ∷ ns)) zero h = refl
firsts_follow at (n ∷ (m ∷ ns)) (suc c) h = firsts_follow (at + n) (m ∷ ns) c (omega arith)

-- the end of the last is the sum
pub firsts_end : (at : ℕ) (ns : List ℕ) (c : ℕ) → suc c ≡ length ns → get_or (firsts at ns) c 0 + get_or ns c 0 ≡ at + sum ns
firsts_end at [] c h = absurd (nothing c h)
  where
    nothing : (c : ℕ) → suc c ≡ 0 → ⊥
    nothing c h = omega arith
firsts_end at (n ∷ []) zero h = omega arith
firsts_end at (n ∷ []) (suc c) h = absurd (nothing c h)
  where
    nothing : (c : ℕ) → suc (suc c) ≡ 1 → ⊥
    nothing c h = omega arith
firsts_end at (n ∷ (m ∷ ns)) zero h = absurd (nothing (length ns) h)
  where
    nothing : (k : ℕ) → 1 ≡ suc (suc k) → ⊥
    nothing k h = omega arith
firsts_end at (n ∷ (m ∷ ns)) (suc c) h = omega (arith, firsts_end (at + n) (m ∷ ns) c (omega arith))

pub firsts_within : (at : ℕ) (ns : List ℕ) (c : ℕ) → c < length ns → get_or (firsts at ns) c 0 + get_or ns c 0 ≤ at + sum ns
firsts_within at [] c h = absurd (nothing c h)
  where
    nothing : (c : ℕ) → c < 0 → ⊥
    nothing c h = omega arith
firsts_within at (n ∷ ns) zero h = omega arith
firsts_within at (n ∷ ns) (suc c) h = omega (arith, firsts_within (at + n) ns c (omega arith))

-- ---- the c-th walk's length, kind and points
pub lens_at : (ks : List Walk) (c : ℕ) → get_or (lens ks) c 0 ≡ length (walk_at ks c).steps
lens_at ks c = get_or-map (λ w. length w.steps) ks c no_walk

pub kinds_at : (ks : List Walk) (c : ℕ) → get_or (kinds ks) c 0 ≡ pick (walk_at ks c).hole 1 0
kinds_at ks c = get_or-map (λ w. pick w.hole 1 0) ks c no_walk

pub lens_length : (ks : List Walk) → length (lens ks) ≡ length ks
lens_length ks = length-map ks (λ w. length w.steps)

module _ (g : Graph) where
  all_at : (ks : List Walk) (c i : ℕ) → c < length ks → i < length (walk_at ks c).steps
      → get_or (all_points g ks) (get_or (firsts 0 (lens ks)) c 0 + i) origin ≡ get_or (points g (walk_at ks c)) i origin
  all_at [] c i h l = absurd (nothing c h)
    where
      nothing : (c : ℕ) → c < 0 → ⊥
      nothing c h = omega arith
  all_at (w ∷ ks) zero i h l =
      let e : 0 + i ≡ i = omega arith in
      ap (λ p. get_or (points g w ++ all_points g ks) p origin) e ∙ get_or-append (points g w) (all_points g ks) origin i (rw (length-map w.steps (left g)) l)
  all_at (w ∷ ks) (suc c) i h l =
      let n : ℕ = length w.steps in
      let e : get_or (firsts (0 + n) (lens ks)) c 0 + i ≡ length (points g w) + (get_or (firsts 0 (lens ks)) c 0 + i) =
      omega (arith, firsts_from (0 + n) (lens ks) c (rw (lens_length ks) (omega arith)), length-map w.steps (left g)) in
      ap (λ p. get_or (points g w ++ all_points g ks) p origin) e ∙ get_or-append-add (points g w) (all_points g ks) (get_or (firsts 0 (lens ks)) c 0 + i)
      origin
      ∙ all_at ks c i (omega arith) l

  -- point i of contour c
  pub point_at_lem : (ks : List Walk) (c i : ℕ) → c < length ks → i < length (walk_at ks c).steps
      → point_in (table_of g ks).points (get_or (table_of g ks).first c 0 + i) ≡ get_or (points g (walk_at ks c)) i origin
  point_at_lem ks c i h l = coordinates_at (all_points g ks) (get_or (firsts 0 (lens ks)) c 0 + i) ∙ all_at ks c i h l
