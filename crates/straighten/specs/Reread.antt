-- A table that holds some contours, in front of what else its lists have room for: they are read back off it, and others are written in their place.
use Rattle.std.specs.Prelude.{ℕ, zero, suc, ◌+◌, ◌*◌, ◌-◌, ◌≤◌, ◌<◌, ◌≡◌, refl, List, [], ◌∷◌, ◌++◌, length, get_or, take, drop, replicate, ℤ, pos}
use Rattle.std.proofs.Common.{arith, add-one, sym, ap, ap₂, ◌∙◌, length-append, length-drop, take_at, drop-cons, drop-drop}
use Rattle.std.proofs.lemmas.List.{length-map, length-replicate}
use Rattle.std.proofs.Math.ListN.{get_or-append}
use Rattle.std.proofs.lemmas.List.Edits.{sets, sets-eq}
use Rattle.std.proofs.Math.Seq.{take-append_seam, drop-append_seam}
use Rattle.laws.specs.Lists.{map_from, padded}
use Rattle.turn.specs.declared.Point.{Point}
use Rattle.walk.specs.Code.{paste}
use Rattle.keep.specs.Outcome.{coordinates, sum}
use Rattle.keep.specs.Ledger.{coordinates_length, paste_length, paste_take, padded_is}
use Rattle.table.specs.Table.{point_in}
use Rattle.straighten.specs.Runs.{run, sizes_from, contours_from, contours_of, sizes, joined}

-- ---- points
abbrev pub origin : Point
origin = record { x = pos 0; y = pos 0 }

pub coordinates_at : (l : List Point) (p : ℕ) → point_in (coordinates l) p ≡ get_or l p origin
coordinates_at [] p = refl
coordinates_at (q ∷ l) zero = refl
coordinates_at (q ∷ l) (suc p) =
    let e : suc p * 2 ≡ suc (suc (p * 2)) = omega arith in
    let f : suc p * 2 + 1 ≡ suc (suc (p * 2 + 1)) = omega arith in
    ap₂ (λ i j. record { x = get_or (coordinates (q ∷ l)) i (pos 0); y = get_or (coordinates (q ∷ l)) j (pos 0) }) e f ∙ coordinates_at l p

module _ (ps : List Point) (tail : List ℤ) where
  pub point_of : (k : ℕ) → k < length ps → point_in (coordinates ps ++ tail) k ≡ get_or ps k origin
  point_of k h =
      let n = coordinates_length ps in
      let x = get_or-append (coordinates ps) tail (pos 0) (k * 2) (omega (arith, n)) in
      let y = get_or-append (coordinates ps) tail (pos 0) (k * 2 + 1) (omega (arith, n)) in
      (λ i. record { x = x i; y = y i }) ∙ coordinates_at ps k

  run_of : (n from : ℕ) → from + n ≤ length ps → run (coordinates ps ++ tail) from n ≡ take n (drop from ps)
  run_of zero from h = refl
  run_of (suc n) from h =
      let d : drop from ps ≡ get_or ps from origin ∷ drop (suc from) ps = drop-cons ps from origin (omega arith) in
      ap₂ ◌∷◌ (point_of from (omega arith)) (run_of n (from + 1) (omega arith) ∙ ap (λ i. take n (drop i ps)) (add-one from))
      ∙ ap (take (suc n)) (sym d)

  contours_of_lem : (cs : List (List Point)) (at : ℕ) → at ≤ length ps → drop at ps ≡ joined cs → contours_from (coordinates ps ++ tail) at (sizes cs) ≡ cs
  contours_of_lem [] at h e = refl
  contours_of_lem (c ∷ cs) at h e =
      let n : length ps - at ≡ length c + length (joined cs) = sym (length-drop at ps) ∙ ap length e ∙ length-append c (joined cs) in
      let r = run_of (length c) at (omega (arith, n)) ∙ ap (take (length c)) e ∙ take-append_seam c (joined cs) in
      let d : drop (at + length c) ps ≡ joined cs =
      sym (drop-drop (length c) at ps) ∙ ap (drop (length c)) e ∙ drop-append_seam c (joined cs) in
      ap₂ ◌∷◌ r (contours_of_lem cs (at + length c) (omega (arith, n)) d)

-- ---- sizes
sizes_of : (l : List ℕ) (n c : ℕ) → c + n ≤ length l → sizes_from l c n ≡ take n (drop c l)
sizes_of l zero c h = refl
sizes_of l (suc n) c h =
    ap (λ (r : List ℕ). get_or l c 0 ∷ r) (sizes_of l n (c + 1) (omega arith) ∙ ap (λ i. take n (drop i l)) (add-one c))
    ∙ ap (take (suc n)) (sym (drop-cons l c 0 (omega arith)))

pub sizes_read : (cs : List (List Point)) (m : ℕ) → sizes_from (padded 0 (sizes cs) m) 0 (length cs) ≡ sizes cs
sizes_read cs m =
    let n : length (sizes cs) ≡ length cs = length-map cs length in
    sizes_of (padded 0 (sizes cs) m) (length cs) 0
    (omega (arith, n, length-append (sizes cs) (replicate (m - length (sizes cs)) 0))) ∙ take_at (sizes cs) _ (length cs) n

pub contours_read : (cs : List (List Point)) (n m : ℕ)
    → contours_of (padded (pos 0) (coordinates (joined cs)) n) (padded 0 (sizes cs) m) (length cs) ≡ cs
contours_read cs n m =
    ap (contours_from (padded (pos 0) (coordinates (joined cs)) n) 0) (sizes_read cs m)
    ∙ contours_of_lem (joined cs) (replicate (n - length (coordinates (joined cs))) (pos 0)) cs 0 (omega arith) refl

-- ---- others in their place
pub joined_length : (cs : List (List Point)) → length (joined cs) ≡ sum (sizes cs)
joined_length [] = refl
joined_length (c ∷ cs) = length-append c (joined cs) ∙ ap (λ n. length c + n) (joined_length cs)

pub padded_length : {A : Type 0} (z : A) (l : List A) (n : ℕ) → length l ≤ n → length (padded z l n) ≡ n
padded_length z l n h = omega (arith, length-append l (replicate (n - length l) z), length-replicate (n - length l) z)

-- as many numbers in front of a list
pub numbers_rewritten : (old new : List ℕ) (n : ℕ) → length new ≡ length old → length old ≤ n → sets (padded 0 old n) 0 new ≡ padded 0 new n
numbers_rewritten old new n e h =
    let m : 0 + length new ≡ length old = omega (arith, e) in
    sets-eq new (padded 0 old n) 0 (omega (arith, e, padded_length 0 old n h))
    ∙ ap (λ (r : List ℕ). new ++ r) (ap (λ i. drop i (padded 0 old n)) m ∙ drop-append_seam old (replicate (n - length old) 0)
    ∙ ap (λ i. replicate (n - i) 0) (sym e))

-- points in front of a list, and zeros past them
pub points_rewritten : (l : List ℤ) (cs : List (List Point)) (n : ℕ) → length l ≡ n → sum (sizes cs) * 2 ≤ n
    → map_from (λ _. pos 0) (sum (sizes cs) * 2) (paste l 0 (joined cs)) ≡ padded (pos 0) (coordinates (joined cs)) n
points_rewritten l cs n e h =
    let j = joined_length cs in
    let k : (0 + length (joined cs)) * 2 ≡ sum (sizes cs) * 2 = omega (arith, j) in
    padded_is (pos 0) (sum (sizes cs) * 2) (paste l 0 (joined cs)) (coordinates (joined cs)) n
    (ap (λ i. take i (paste l 0 (joined cs))) (sym k) ∙ paste_take l 0 (joined cs) (omega (arith, j, e, h)))
    (coordinates_length (joined cs) ∙ ap (λ i. i * 2) j) (paste_length l 0 (joined cs) ∙ e)
