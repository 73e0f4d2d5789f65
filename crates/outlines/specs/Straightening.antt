-- Where no contour has a spike, dropping points on a straight line leaves of each contour its corners, and leaves no contour out: so the pass of
-- `straighten` over
-- what extraction wrote comes to the definition.
use Rattle.std.specs.Prelude.{ℕ, ◌*◌, ◌≤◌, ◌≡◌, refl, true, List, [], ◌∷◌, ◌++◌, map, length, pos, Ok}
use Rattle.std.proofs.Common.{arith, sym, ap, ap₂, ◌∙◌, subst, le-leb}
use Rattle.std.proofs.lemmas.List.{length-map}
use Rattle.laws.specs.Test.{pick, pick_true, pick_ind}
use Rattle.laws.specs.Lists.{padded}
use Rattle.turn.specs.declared.Point.{Point}
use Rattle.graph.specs.Graph.{Graph}
use Rattle.walk.specs.Walk.{Walk, points, left}
use Rattle.keep.specs.Outcome.{keeps, kept, lens, firsts, kinds, all_points, coordinates, sum, counts_of}
use Rattle.keep.specs.Ledger.{coordinates_length, all_points_length, firsts_length}
use Rattle.finish.specs.Finish.{Buffers, buffers}
use Rattle.extraction.specs.Extract.{extracted_as, done, after_walks}
use Rattle.straight.specs.Straight.{drop_straight}
use Rattle.straight.specs.Corners.{all_corners, Spikeless, corners_left, corners_few}
use Rattle.straighten.specs.Runs.{contours_of, corners_of, sizes, joined}
use Rattle.straighten.specs.Promises.{Straightened, rewritten, with_points}
use Rattle.straighten.specs.Reread.{contours_read, numbers_rewritten, points_rewritten, padded_length}
use Rattle.outlines.specs.Outlines.{Outline, straightened, is_whole, whole, left_out, outline_sizes, outline_kinds, outline_points, outlines_of}
use Rattle.outlines.specs.Outlines.{straight_counts, after_straight}

-- ---- no walk of a list runs back on itself, and each has three points or more
abbrev pub AllSpikeless : Graph → List Walk → Type 0
AllSpikeless g [] = Unit {0}
AllSpikeless g (w ∷ ws) = ((Spikeless (points g w)) × (3 ≤ length (points g w))) × (AllSpikeless g ws)

pub kept_spikeless : (g : Graph) (minimum : ℕ) (ws : List Walk) → AllSpikeless g ws → AllSpikeless g (kept g minimum ws)
kept_spikeless g minimum [] h = tt
kept_spikeless g minimum (w ∷ ws) h =
    pick_ind (keeps g minimum w) (w ∷ kept g minimum ws) (kept g minimum ws) (AllSpikeless g)
    (λ _. (h.0, kept_spikeless g minimum ws h.1)) (λ _. kept_spikeless g minimum ws h.1)

-- ---- the walks' contours as lists of points
abbrev pub contours : Graph → List Walk → List (List Point)
contours g ks = map (points g) ks

joined_walks : (g : Graph) (ks : List Walk) → joined (contours g ks) ≡ all_points g ks
joined_walks g [] = refl
joined_walks g (w ∷ ks) = ap (λ (r : List Point). points g w ++ r) (joined_walks g ks)

pub sizes_walks : (g : Graph) (ks : List Walk) → sizes (contours g ks) ≡ lens ks
sizes_walks g [] = refl
sizes_walks g (w ∷ ks) = ap₂ ◌∷◌ (length-map w.steps (left g)) (sizes_walks g ks)

-- ---- what is left of them
module _ (g : Graph) where
  -- the corners of each are what the rule leaves
  pub corners_are : (ks : List Walk) → AllSpikeless g ks → corners_of (contours g ks) ≡ map (λ o. o.points) (map (straightened g) ks)
  corners_are [] h = refl
  corners_are (w ∷ ks) h = ap₂ ◌∷◌ (sym (corners_left (points g w) h.0.0 h.0.1).0) (corners_are ks h.1)

  is_whole_lem : (w : Walk) → Spikeless (points g w) → 3 ≤ length (points g w) → is_whole (straightened g w) ≡ true
  is_whole_lem w s n = let c = corners_left (points g w) s n in
      le-leb 3 (length (drop_straight (points g w))) (subst (λ (l : List Point). 3 ≤ length l) (sym c.0) c.1)

  -- so none is left out: their numbers, their kinds and their order stay
  pub all_whole : (ks : List Walk) → AllSpikeless g ks → whole (map (straightened g) ks) ≡ map (straightened g) ks
  all_whole [] h = refl
  all_whole (w ∷ ks) h =
      pick_true _ _ (is_whole_lem w h.0.0 h.0.1) ∙ ap (λ (r : List Outline). straightened g w ∷ r) (all_whole ks h.1)

  pub none_left_out : (ks : List Walk) → AllSpikeless g ks → left_out (map (straightened g) ks) ≡ 0
  none_left_out [] h = refl
  none_left_out (w ∷ ks) h = pick_true _ _ (is_whole_lem w h.0.0 h.0.1) ∙ none_left_out ks h.1

  pub same_kinds : (ks : List Walk) → outline_kinds (map (straightened g) ks) ≡ kinds ks
  same_kinds [] = refl
  same_kinds (w ∷ ks) = ap (λ (r : List ℕ). pick w.hole 1 0 ∷ r) (same_kinds ks)

sizes_joined : (os : List Outline) → outline_sizes os ≡ sizes (map (λ o. o.points) os)
sizes_joined [] = refl
sizes_joined (o ∷ os) = ap (λ (r : List ℕ). length o.points ∷ r) (sizes_joined os)

points_joined : (os : List Outline) → outline_points os ≡ joined (map (λ o. o.points) os)
points_joined [] = refl
points_joined (o ∷ os) = ap (λ (r : List Point). o.points ++ r) (points_joined os)

corners_sum : (cs : List (List Point)) → sum (sizes (corners_of cs)) ≤ sum (sizes cs)
corners_sum [] = omega arith
corners_sum (c ∷ cs) = omega (arith, corners_sum cs, corners_few c)

corners_many : (cs : List (List Point)) → length (sizes (corners_of cs)) ≡ length cs
corners_many cs = length-map (corners_of cs) length ∙ length-map cs all_corners

-- ---- the pass over what extraction wrote
module _ (g : Graph) (minimum : ℕ) (ws : List Walk) (b : Buffers) (smooth : AllSpikeless g (kept g minimum ws))
    (points_room : sum (lens (kept g minimum ws)) * 2 ≤ length b.points) (first_room : length (kept g minimum ws) ≤ length b.first)
    (len_room : length (kept g minimum ws) ≤ length b.len) where
  abbrev ks : List Walk
  ks = kept g minimum ws

  abbrev cs : List (List Point)
  cs = contours g ks

  abbrev ds : List (List Point)
  ds = corners_of cs

  abbrev os : List Outline
  os = outlines_of g minimum ws

  abbrev before : Buffers
  before = after_walks g minimum ws b

  many : length cs ≡ length ks
  many = length-map ks (points g)

  sizes_many : length (sizes cs) ≡ length ks
  sizes_many = length-map cs length ∙ many

  read : contours_of before.points before.len (length ks) ≡ cs
  read =
      ap₂ (λ (p : List Point) (l : List ℕ). contours_of (padded (pos 0) (coordinates p) (length b.points)) (padded 0 l (length b.len)) (length ks))
      (sym (joined_walks g ks)) (sym (sizes_walks g ks))
      ∙ ap (contours_of (padded (pos 0) (coordinates (joined cs)) (length b.points)) (padded 0 (sizes cs) (length b.len))) (sym many)
      ∙ contours_read cs (length b.points) (length b.len)

  sum_fits : sum (sizes ds) * 2 ≤ length b.points
  sum_fits = omega (arith, corners_sum cs, ap sum (sizes_walks g ks), points_room)

  left_are : ds ≡ map (λ o. o.points) os
  left_are = corners_are g ks smooth

  sizes_left : sizes ds ≡ outline_sizes (whole os)
  sizes_left = ap sizes left_are ∙ sym (sizes_joined os) ∙ ap outline_sizes (sym (all_whole g ks smooth))

  points_left : joined ds ≡ outline_points (whole os)
  points_left = ap joined left_are ∙ sym (points_joined os) ∙ ap outline_points (sym (all_whole g ks smooth))

  many_left : length ks ≡ length (whole os)
  many_left = sym (length-map ks (straightened g)) ∙ ap length (sym (all_whole g ks smooth))

  before_long : length before.points ≡ length b.points
  before_long = padded_length (pos 0) (coordinates (all_points g ks)) (length b.points)
      (omega (arith, coordinates_length (all_points g ks), all_points_length g ks, points_room))

  new_many : length (sizes ds) ≡ length (lens ks)
  new_many = corners_many cs ∙ many ∙ sym (length-map ks (λ w. length w.steps))

  points_are : (rewritten before.points before.first before.len (counts_of g minimum ws) ds).points ≡ (after_straight g minimum ws b).points
  points_are =
      points_rewritten before.points ds (length b.points) before_long sum_fits
      ∙ ap (λ (p : List Point). padded (pos 0) (coordinates p) (length b.points)) points_left

  first_are : (rewritten before.points before.first before.len (counts_of g minimum ws) ds).first ≡ (after_straight g minimum ws b).first
  first_are =
      numbers_rewritten (firsts 0 (lens ks)) (firsts 0 (sizes ds)) (length b.first)
      (firsts_length 0 (sizes ds) ∙ new_many ∙ sym (firsts_length 0 (lens ks)))
      (omega (arith, firsts_length 0 (lens ks), length-map ks (λ w. length w.steps), first_room))
      ∙ ap (λ (l : List ℕ). padded 0 (firsts 0 l) (length b.first)) sizes_left

  len_are : (rewritten before.points before.first before.len (counts_of g minimum ws) ds).len ≡ (after_straight g minimum ws b).len
  len_are =
      numbers_rewritten (lens ks) (sizes ds) (length b.len) new_many (omega (arith, length-map ks (λ w. length w.steps), len_room))
      ∙ ap (λ (l : List ℕ). padded 0 l (length b.len)) sizes_left

  kind_are : before.kind ≡ (after_straight g minimum ws b).kind
  kind_are = ap (λ (l : List ℕ). padded 0 l (length b.kind)) (sym (same_kinds g ks) ∙ ap outline_kinds (sym (all_whole g ks smooth)))

  counts_are : with_points (counts_of g minimum ws) (sum (sizes ds)) ≡ straight_counts g minimum ws
  counts_are =
      let p : sum (sizes ds) ≡ sum (outline_sizes (whole os)) = ap sum sizes_left in
      let n : 0 ≡ left_out os = sym (none_left_out g ks smooth) in
      λ i. record {
        contours = many_left i;
        points = p i;
        rejected = (counts_of g minimum ws).rejected;
        walked = (counts_of g minimum ws).walked;
        left_out = n i;
        kept_area = (counts_of g minimum ws).kept_area;
        rejected_area = (counts_of g minimum ws).rejected_area;
      }

  -- what the pass leaves is what the definition leaves
  pub straightened_as : (o : Straightened)
      → o ≡ rewritten before.points before.first before.len (counts_of g minimum ws) (corners_of (contours_of before.points before.len (length ks)))
      → extracted_as (Ok o.counts) (buffers before.state o.points o.first o.len before.kind)
      ≡ done (straight_counts g minimum ws) (after_straight g minimum ws b)
  straightened_as o e =
      let q = e ∙ ap (λ (x : List (List Point)). rewritten before.points before.first before.len (counts_of g minimum ws) (corners_of x)) read in
      ap (λ (x : Straightened). extracted_as (Ok x.counts) (buffers before.state x.points x.first x.len before.kind)) q
      ∙ (λ i. extracted_as (Ok (counts_are i)) (buffers before.state (points_are i) (first_are i) (len_are i) (kind_are i)))
