-- What extraction leaves is a table that the pass over it can read, and what the pass leaves is the definition's outcome.
use Rattle.std.specs.Prelude.{Result, Ok, Err}
use Prim.Native.Nat.{ℕ, ◌*◌, ◌-◌, ◌≤◌, ◌<◌}
use native.Mathlib.Omega.{arith}
use mathlib.Core.Path.{◌≡◌, refl, sym, ap, ap₂, ◌∙◌, subst}
use mathlib.Core.Bool.{Bool, true, false}
use mathlib.Core.List.{List, [], ◌∷◌}
use lib.ListN.{length, get_or, replicate, length-map}
use lib.IntN.{ℤ, pos}
use Rattle.laws.specs.Test.{pick, pick_ind}
use Rattle.laws.specs.Lists.{padded, member}
use Rattle.turn.specs.Points.{OnGrid}
use Rattle.graph.specs.Graph.{Graph}
use Rattle.next.specs.Known.{Links}
use Rattle.rings.specs.Field.{Reads}
use Rattle.walk.specs.Walk.{Step, Walk, left, points}
use Rattle.walk.specs.States.{unvisited_some}
use Rattle.keep.specs.declared.Counts.{Counts}
use Rattle.keep.specs.Outcome.{kept, lens, firsts, all_points, coordinates, sum, counts_of}
use Rattle.keep.specs.Ledger.{coordinates_length, all_points_length, firsts_length}
use Rattle.contour.specs.Notes.{Roomy}
use Rattle.scan.specs.Scan.{Scanned, stopped, walks, scan}
use Rattle.scan.specs.Visits.{scanned}
use Rattle.finish.specs.Finish.{Buffers, buffers}
use Rattle.extraction.specs.Extract.{Extracted, extracted_as, after_walks, after_scan}
use Rattle.table.specs.Table.{point_in}
use Rattle.straighten.specs.Runs.{sizes_from, Positive, Stands}
use Rattle.straighten.specs.Reread.{origin, point_of, sizes_read, padded_length}
use Rattle.outlines.specs.Outlines.{straight_scan}
use Rattle.outlines.specs.Straightening.{kept_spikeless, contours, sizes_walks, straightened_as}
use Rattle.outlines.specs.Grid.{Threes, walked_below, kept_of, kept_sum, kept_threes, threes_sum, points_on_grid}
use Rattle.outlines.specs.Promises.{Answered, straight_by, StandsFor, SpikelessScan}
use Rattle.turn.specs.declared.Refusal.{Refusal}

positive : (ks : List Walk) → Threes ks → Positive (lens ks)
positive [] h = tt
positive (w ∷ ks) h = (omega (arith, h.0), positive ks h.1)

module _ (ax ay bx by : List ℤ) (g : Graph) (cw : Bool) (minimum : ℕ) (b : Buffers) (reads : Reads g ax ay bx by)
    (links : Links ax ay bx by (length b.state))
    (room : Roomy (length b.state) (length b.points) (length b.first) (length b.len) (length b.kind)) where
  -- a point that a walk leaves is on the grid
  on : (p : Step) → p.link < length b.state → OnGrid (left g p)
  on p h = pick_ind p.forward (g.a p.link) (g.b p.link) OnGrid
      (λ _. subst OnGrid (sym (reads.a_is p.link)) (links.a_grid p.link h))
      (λ _. subst OnGrid (sym (reads.b_is p.link)) (links.b_grid p.link h))

  module _ (ws : List Walk) (after : List ℕ) (e : scan g cw b.state ≡ walks ws after) where
    abbrev ks : List Walk
    ks = kept g minimum ws

    abbrev before : Buffers
    before = after_walks g minimum ws b

    few_links : sum (lens ks) ≤ length b.state
    few_links = omega (arith, kept_sum g minimum ws, (scanned g cw b.state ws after e).count, unvisited_some b.state)

    threes : length ks * 3 ≤ sum (lens ks)
    threes = threes_sum ks (kept_threes g minimum ws)

    first_room : length ks ≤ length b.first
    first_room = omega (arith, threes, few_links, room.first_room)

    len_room : length ks ≤ length b.len
    len_room = omega (arith, first_room, room.len_room)

    points_room : sum (lens ks) * 2 ≤ length b.points
    points_room = omega (arith, few_links, room.points_room)

    lens_long : length (lens ks) ≡ length ks
    lens_long = length-map ks (λ w. length w.steps)

    sizes_are : sizes_from before.len 0 (length ks) ≡ lens ks
    sizes_are =
        let n : length (contours g ks) ≡ length ks = length-map ks (points g) in
        ap₂ (λ (l : List ℕ) n. sizes_from (padded 0 l (length b.len)) 0 n) (sym (sizes_walks g ks)) (sym n)
        ∙ sizes_read (contours g ks) (length b.len) ∙ sizes_walks g ks

    grid : (k : ℕ) → k < sum (lens ks) → OnGrid (point_in before.points k)
    grid k h =
        let i : k < length (all_points g ks) = omega (arith, h, all_points_length g ks) in
        subst OnGrid (sym (point_of (all_points g ks) (replicate (length b.points - length (coordinates (all_points g ks))) (pos 0)) k i))
        (points_on_grid g (length b.state) on ks
        (λ w m. walked_below b.state ws (scanned g cw b.state ws after e).fresh w (kept_of g minimum ws w m))
        (get_or (all_points g ks) k origin) (member origin (all_points g ks) k i))

    stands : Stands before.points before.first before.len (length ks)
    stands = record {
      first_room =
          omega (arith, first_room, padded_length 0 (firsts 0 (lens ks)) (length b.first) (omega (arith, firsts_length 0 (lens ks), lens_long, first_room)));
      len_room = omega (arith, len_room, padded_length 0 (lens ks) (length b.len) (omega (arith, lens_long, len_room)));
      some = subst Positive (sym sizes_are) (positive ks (kept_threes g minimum ws));
      few = omega (arith, ap sum sizes_are, few_links, room.few);
      within =
          omega (
            arith,
            ap sum sizes_are,
            points_room,
            padded_length (pos 0) (coordinates (all_points g ks)) (length b.points)
                (omega (arith, coordinates_length (all_points g ks), all_points_length g ks, points_room)),
          );
      grid = λ k _ h. grid k (omega (arith, h, ap sum sizes_are));
    }

  -- ---- what extraction answers, by its cases
  zero_one : ◌≡◌ {A = ℕ} 0 1 → ⊥
  zero_one x = omega arith

  stands_by : (r : Result Counts Refusal) (b' : Buffers) (o : Scanned) → scan g cw b.state ≡ o → extracted_as r b' ≡ after_scan g minimum b o
      → StandsFor r b'.points b'.first b'.len
  stands_by (Err r) b' o e h = tt
  stands_by (Ok c) b' (stopped reason place) e h =
      let z = ap (λ (x : Extracted). x.answer) h in let x : ◌≡◌ {A = ℕ} 0 1 = cc in absurd (zero_one x)
  stands_by (Ok c) b' (walks ws after) e h =
      let z : Ok c ≡ Ok (counts_of g minimum ws) = ap (λ (x : Extracted). x.answer) h in
      let d : c ≡ counts_of g minimum ws = cc in
      let l : b' ≡ after_walks g minimum ws b = ap (λ (x : Extracted). x.lent) h in
      subst (λ (x : Buffers). Stands x.points x.first x.len c.contours) (sym l)
      (subst (λ (x : Counts). Stands (after_walks g minimum ws b).points (after_walks g minimum ws b).first (after_walks g minimum ws b).len x.contours)
      (sym d)
      (stands ws after e))

  pub stands_after : (r : Result Counts Refusal) (b' : Buffers) → extracted_as r b' ≡ after_scan g minimum b (scan g cw b.state)
      → StandsFor r b'.points b'.first b'.len
  stands_after r b' = stands_by r b' (scan g cw b.state) refl

  -- ---- and what becomes of it
  module _ (smooth : SpikelessScan g cw b.state) where
    -- with the answer, the points and two lists of the table told anew
    abbrev told : Buffers → Answered → Extracted
    told b' a = extracted_as a.answer (buffers b'.state a.points a.first a.len b'.kind)

    straight_by_lem : (r : Result Counts Refusal) (b' : Buffers) (o : Scanned) → scan g cw b.state ≡ o → extracted_as r b' ≡ after_scan g minimum b o
        → told b' (straight_by true r b'.points b'.first b'.len) ≡ straight_scan g minimum b o
    straight_by_lem (Err r) b' (stopped m p) e h = h
    straight_by_lem (Err r) b' (walks ws after) e h =
        let z = ap (λ (x : Extracted). x.answer) h in let x : ◌≡◌ {A = ℕ} 0 1 = cc in absurd (zero_one x)
    straight_by_lem (Ok c) b' (stopped reason place) e h =
        let z = ap (λ (x : Extracted). x.answer) h in let x : ◌≡◌ {A = ℕ} 0 1 = cc in absurd (zero_one x)
    straight_by_lem (Ok c) b' (walks ws after) e h =
        let z : Ok c ≡ Ok (counts_of g minimum ws) = ap (λ (x : Extracted). x.answer) h in
        let d : c ≡ counts_of g minimum ws = cc in
        let l : b' ≡ after_walks g minimum ws b = ap (λ (x : Extracted). x.lent) h in
        ap₂ (λ (x : Buffers) (n : Counts). told x (straight_by true (Ok n) x.points x.first x.len)) l d
        ∙ straightened_as g minimum ws b (kept_spikeless g minimum ws (smooth ws after e)) (points_room ws after e) (first_room ws after e)
        (len_room ws after e) _ refl

    by_setting : (drop : Bool) (r : Result Counts Refusal) (b' : Buffers) (o : Scanned) → scan g cw b.state ≡ o → extracted_as r b' ≡ after_scan g minimum b o
        → told b' (straight_by drop r b'.points b'.first b'.len) ≡ pick drop (straight_scan g minimum b o) (after_scan g minimum b o)
    by_setting true r b' o e h = straight_by_lem r b' o e h
    by_setting false r b' o e h = h

    pub drawn_as : (drop : Bool) (r : Result Counts Refusal) (b' : Buffers) (a : Answered) → extracted_as r b' ≡ after_scan g minimum b (scan g cw b.state)
        → a ≡ straight_by drop r b'.points b'.first b'.len
        → told b' a
        ≡ pick drop (straight_scan g minimum b (scan g cw b.state)) (after_scan g minimum b (scan g cw b.state))
    drawn_as drop r b' a h q = ap (told b') q ∙ by_setting drop r b' (scan g cw b.state) refl h
