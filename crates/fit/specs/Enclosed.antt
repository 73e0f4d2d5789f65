-- The areas add up: a contour's range in the table holds its walk's points, and the areas of all contours sum to the kept total that extraction returns.
use Rattle.std.specs.Prelude.{ℕ, zero, suc, ◌+◌, ◌<◌, ◌≡◌, refl, Bool, List, [], ◌∷◌, ◌++◌, length, get_or, take, drop, ℤ, pos, ◌+ℤ◌, Ok}
use Rattle.std.proofs.Common.{arith, sym, ap, ap₂, ◌∙◌, take_at}
use Rattle.std.proofs.lemmas.List.{length-map}
use Rattle.std.proofs.Math.Seq.{drop-append-add}
use Rattle.turn.specs.Area.{area}
use Rattle.graph.specs.Graph.{Graph, Lent, graph_of}
use Rattle.keep.specs.declared.Counts.{Counts}
use Rattle.walk.specs.Walk.{Walk, left, points}
use Rattle.keep.specs.Outcome.{area_of, areas, total, kept, lens, firsts, all_points}
use Rattle.keep.specs.Ledger.{points_back}
use Rattle.extraction.specs.Extract.{extracted_as, extracted}
use Rattle.finish.specs.Finish.{Buffers}
use Rattle.table.specs.Table.{Table, contour, contour_count}
use Rattle.fit.specs.Places.{table_of, walk_at, firsts_from, lens_length}
use Rattle.keep.specs.Ledger.{firsts_length}
use Rattle.fit.specs.Fit.{written_table, ran}

-- f 0 + f 1 + .. + f (n - 1)
abbrev pub sum_to : (ℕ → ℤ) → ℕ → ℤ
sum_to f zero = pos 0
sum_to f (suc n) = f zero +ℤ sum_to (λ c. f (suc c)) n

-- the signed doubled areas of all contours of a table
abbrev pub enclosed : Table → ℤ
enclosed t = sum_to (λ c. area (contour t c)) (contour_count t)

pub sum_same : (f h : ℕ → ℤ) (n : ℕ) → ((c : ℕ) → c < n → f c ≡ h c) → sum_to f n ≡ sum_to h n
sum_same f h zero a = refl
sum_same f h (suc n) a = ap₂ ◌+ℤ◌ (a 0 (omega arith)) (sum_same (λ c. f (suc c)) (λ c. h (suc c)) n (λ c l. a (suc c) (omega arith)))

module _ (g : Graph) where
  range : (ks : List Walk) (c : ℕ) → c < length ks → take (get_or (lens ks) c 0) (drop (get_or (firsts 0 (lens ks)) c 0) (all_points g ks)) ≡ points g
      (walk_at ks c)
  range [] c h = absurd (nothing c h)
    where
      nothing : (c : ℕ) → c < 0 → ⊥
      nothing c h = omega arith
  range (w ∷ ks) zero h = take_at (points g w) (all_points g ks) (length w.steps) (length-map w.steps (left g))
  range (w ∷ ks) (suc c) h =
      let n : ℕ = length w.steps in
      let e : get_or (firsts (0 + n) (lens ks)) c 0 ≡ length (points g w) + get_or (firsts 0 (lens ks)) c 0 =
      omega (arith, firsts_from (0 + n) (lens ks) c (rw (lens_length ks) (omega arith)), length-map w.steps (left g)) in
      ap (λ i. take (get_or (lens ks) c 0) (drop i (points g w ++ all_points g ks))) e
      ∙ ap (take (get_or (lens ks) c 0)) (drop-append-add (points g w) (all_points g ks) (get_or (firsts 0 (lens ks)) c 0))
      ∙ range ks c (omega arith)

  -- contour c holds the points of the c-th kept walk
  pub contour_is : (ks : List Walk) (c : ℕ) → c < length ks → contour (table_of g ks) c ≡ points g (walk_at ks c)
  contour_is ks c h = ap (λ l. take (get_or (lens ks) c 0) (drop (get_or (firsts 0 (lens ks)) c 0) l)) (points_back (all_points g ks)) ∙ range ks c h

  sum_areas : (ks : List Walk) → sum_to (λ c. area_of g (walk_at ks c)) (length ks) ≡ total (areas g ks)
  sum_areas [] = refl
  sum_areas (w ∷ ks) = ap (λ z. area_of g w +ℤ z) (sum_areas ks)

  pub enclosed_is : (ks : List Walk) → enclosed (table_of g ks) ≡ total (areas g ks)
  enclosed_is ks =
      ap (sum_to (λ c. area (contour (table_of g ks) c))) (firsts_length 0 (lens ks) ∙ lens_length ks)
      ∙ sum_same (λ c. area (contour (table_of g ks) c)) (λ c. area_of g (walk_at ks c)) (length ks) (λ c h. ap area (contour_is ks c h))
      ∙ sum_areas ks

-- The theorem: after a success the contours in the lent buffers enclose just the kept total that is returned.
pub kept_enclosed : (g : Lent) (top : List ℕ) (cw : Bool) (minimum : ℕ) (b b' : Buffers) (c : Counts) → extracted_as (Ok c) b'
    ≡ extracted g top cw minimum b → enclosed (written_table c b') ≡ c.kept_area
kept_enclosed g top cw minimum b b' c h =
    let q = ran g top cw minimum b b' c h in
    ap enclosed q.table_is ∙ enclosed_is (graph_of g top) (kept (graph_of g top) minimum q.all) ∙ sym (ap (λ (x : Counts). x.kept_area) q.counts_are)
