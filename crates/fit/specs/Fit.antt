-- The layers fit: whatever extraction writes on success passes binding's checks 10 and 11, so that binding can answer neither.
use Rattle.std.specs.Prelude.{ℕ, zero, suc, ◌+◌, ◌*◌, ◌-◌, ◌≤◌, ◌<◌, ◌≡◌, Bool, true, false, length, get_or, take, Ok, Err}
use Rattle.std.proofs.Common.{arith, sym, ap, ap₂, ◌∙◌, subst, take_at, eqb-true}
use Rattle.std.proofs.Math.Path.{refl}
use mathlib.Core.List.{List, [], ◌∷◌, map, Memᴰ}
use Rattle.std.proofs.lemmas.List.{length-map}
use Rattle.laws.specs.Test.{pick}
use Rattle.turn.specs.Points.{before}
use Rattle.graph.specs.Graph.{Graph, Lent, graph_of}
use Rattle.graph.specs.Checks.{Room, room, checked}
use Rattle.graph.specs.Fine.{FineGraph, fine}
use Rattle.next.specs.Next.{unvisited}
use Rattle.keep.specs.declared.Counts.{Counts}
use Rattle.walk.specs.Walk.{Step, Walk, left}
use Rattle.scan.specs.Scan.{Scanned, stopped, walks, scan}
use Rattle.keep.specs.Outcome.{kept, lens, firsts, kinds, all_points, coordinates, sum, counts_of}
use Rattle.keep.specs.Ledger.{coordinates_length, all_points_length, firsts_length}
use Rattle.straighten.specs.Reread.{origin}
use Rattle.scan.specs.Visits.{scanned}
use Rattle.extraction.specs.Extract.{Extracted, extracted_as, after_scan, after_checks, extracted}
use Rattle.finish.specs.Finish.{Buffers}
use Rattle.tour.specs.ThreePoints.{finished}
use Rattle.table.specs.Table.{Table, table, first_of, range_end, contour_count, point, is_hole}
use Rattle.anchor.specs.Anchor.{anchor_point}
use Rattle.table.specs.TableChecks.{table_checked}
use Rattle.anchor.specs.AnchorChecks.{anchors_checked}
use Rattle.table.specs.Passing.{passes_sound}
use Rattle.anchor.specs.Anchoring.{passes_anchored}
use Rattle.fit.specs.Places.{table_of, walk_at, lens_length, lens_at, kinds_at, point_at_lem}
use Rattle.fit.specs.Sizes.{table_sound, at_walks, three, links_in}
use Rattle.fit.specs.Anchors.{AllBegin, Led, scan_begins}
use Rattle.fit.specs.Leads.{lead, Leads, all_lead, all_ordered, kept_ordered, ordered_at, anchor_lead}
use Rattle.turn.specs.Refusals.{Checked, no_fault}

module _ (g : Lent) (top st : List ℕ) (r : Room) (e : checked g top st r ≡ no_fault) (cw : Bool) (minimum : ℕ) (ws : List Walk) (after : List ℕ)
    (s : scan (graph_of g top) cw st ≡ walks ws after) where
  abbrev G : Graph
  G = graph_of g top

  abbrev ks : List Walk
  ks = kept G minimum ws

  abbrev t : Table
  t = table_of G ks

  many : contour_count t ≡ length ks
  many = firsts_length 0 (lens ks) ∙ lens_length ks

  -- check 10
  pub passes_10 : (owners : ℕ) → length ks ≤ owners → table_checked t owners ≡ no_fault
  passes_10 owners h = (passes_sound t owners).from (table_sound g top st r e cw minimum ws after s, rw many h)

  -- ---- check 11
  f : FineGraph g top st r
  f = fine g top st r e

  led : AllBegin G cw st ws
  led = subst (Led g top st r f cw st) s (scan_begins g top st r f cw (suc (unvisited st)) st f.band.state_long)

  in_table : (c : ℕ) → c < contour_count t → c < length ks
  in_table c h = rw many at h

  leads : (c : ℕ) → c < length ks → Leads g top st r f cw (walk_at ks c)
  leads c h =
      all_lead g top st r f cw st ws (scanned G cw st ws after s).fresh led (links_in g top st r e cw minimum ws after s) (walk_at ks c)
      (at_walks g top st r e cw minimum ws after s c h)

  hole_of : (c : ℕ) → is_hole t c ≡ true → (walk_at ks c).hole ≡ true
  hole_of c h = by (walk_at ks c).hole (sym (kinds_at ks c) ∙ eqb-true _ _ h)
    where
      by : (b : Bool) → ◌≡◌ {A = ℕ} (pick b 1 0) 1 → b ≡ true
      by true q = refl
      by false q = absurd (no q)
        where
          no : ◌≡◌ {A = ℕ} 0 1 → ⊥
          no q = omega arith

  -- a hole's anchor is the a of its first link
  anchor_is : (c : ℕ) → c < length ks → is_hole t c ≡ true → anchor_point t cw c ≡ G.a (lead (walk_at ks c).steps)
  anchor_is c h k =
      let w = at_walks g top st r e cw minimum ws after s c h in
      let n = three g top st r e cw minimum ws after s c h in
      let closed = (finished g top st r cw e ws after s (walk_at ks c) w).closed in
      point_at_lem G ks c (pick cw 1 0) h (low cw n) ∙ anchor_lead g top st r f cw (walk_at ks c) closed.0 (leads c h) (hole_of c k)
      (links_in g top st r e cw minimum ws after s (walk_at ks c) w) closed.1 (omega arith)
    where
      low : (b : Bool) → 3 ≤ length (walk_at ks c).steps → pick b 1 0 < length (walk_at ks c).steps
      low true n = omega arith
      low false n = omega arith

  least : (c p : ℕ) → c < contour_count t → is_hole t c ≡ true → first_of t c ≤ p → p < range_end t c → before (point t p) (anchor_point t cw c) ≡ false
  least c p h k low high =
      let i = in_table c h in
      let n : get_or (lens ks) c 0 ≡ length (walk_at ks c).steps = lens_at ks c in
      let at : first_of t c + (p - first_of t c) ≡ p = omega arith in
      let here = ap (point t) (sym at) ∙ point_at_lem G ks c (p - first_of t c) i (omega arith) in
      ap₂ before here (anchor_is c i k) ∙ each (walk_at ks c).steps (leads c i).least (p - first_of t c) (omega arith)
    where
      each : (l : List Step) → ((q : Step) → Memᴰ q l → before (left G q) (G.a (lead (walk_at ks c).steps)) ≡ false) → (i : ℕ) → i < length l
          → before (get_or (map (left G) l) i origin) (G.a (lead (walk_at ks c).steps)) ≡ false
      each [] a i h = absurd (nothing i h)
        where
          nothing : (i : ℕ) → i < 0 → ⊥
          nothing i h = omega arith
      each (q ∷ l) a zero h = a q (Memᴰ.head refl)
      each (q ∷ l) a (suc i) h = each l (λ x m. a x (Memᴰ.tail m)) i (omega arith)

  pub passes_11 : anchors_checked t cw ≡ no_fault
  passes_11 = (passes_anchored t cw).from (record {
    least = least;
    order = λ c d h k hc hd.
        ap₂ before (anchor_is d (in_table d k) hd) (anchor_is c (in_table c (omega arith)) hc)
        ∙ ordered_at g top st r f cw ks
        (kept_ordered g top st r f cw minimum ws (all_ordered g top st r f cw st ws (scanned G cw st ws after s).fresh led)) c d h (in_table d k);
  })

-- ---- what stands in the lent buffers after success, up to the counts that are returned
abbrev pub written_table : Counts → Buffers → Table
written_table c b = table (take (c.points * 2) b.points) (take c.contours b.first) (take c.contours b.len) (take c.contours b.kind)

module _ (g : Lent) (top : List ℕ) (cw : Bool) (minimum : ℕ) (b b' : Buffers) (c : Counts) where
  abbrev H : Graph
  H = graph_of g top

  abbrev rooms : Room
  rooms = room (length b.points) (length b.first) (length b.len) (length b.kind)

  -- the run behind a success: the checks passed, and these walks were done
  pub record Ran : Type 0 where
    pub fine_graph : checked g top b.state rooms ≡ no_fault
    pub all : List Walk
    pub states : List ℕ
    pub scanned_as : scan H cw b.state ≡ walks all states
    pub table_is : written_table c b' ≡ table_of H (kept H minimum all)
    pub contours_are : c.contours ≡ length (kept H minimum all)
    pub counts_are : c ≡ counts_of H minimum all

  zero_one : ◌≡◌ {A = ℕ} 0 1 → ⊥
  zero_one x = omega arith

  by_scan : (o : Scanned) → scan H cw b.state ≡ o → checked g top b.state rooms ≡ no_fault → extracted_as (Ok c) b' ≡ after_scan H minimum b o → Ran
  by_scan (stopped number place) q k h = let z = ap (λ (x : Extracted). x.answer) h in let x : ◌≡◌ {A = ℕ} 0 1 = cc in absurd (zero_one x)
  by_scan (walks ws after) q k h =
      let ks : List Walk = kept H minimum ws in
      let z : Ok c ≡ Ok (counts_of H minimum ws) = ap (λ (x : Extracted). x.answer) h in
      let d : c ≡ counts_of H minimum ws = cc in
      let n : c.contours ≡ length ks = ap (λ (x : Counts). x.contours) d in
      let m : c.points ≡ sum (lens ks) = ap (λ (x : Counts). x.points) d in
      let ps : length (coordinates (all_points H ks)) ≡ c.points * 2 = coordinates_length (all_points H ks) ∙ ap (λ i. i * 2)
      (all_points_length H ks ∙ sym m) in
      let p = ap (λ (x : Extracted). take (c.points * 2) x.lent.points) h ∙ take_at (coordinates (all_points H ks)) _ (c.points * 2) ps in
      let x = ap (λ (x : Extracted). take c.contours x.lent.first) h ∙ take_at (firsts 0 (lens ks)) _ c.contours
      (firsts_length 0 (lens ks) ∙ lens_length ks ∙ sym n) in
      let y = ap (λ (x : Extracted). take c.contours x.lent.len) h ∙ take_at (lens ks) _ c.contours (lens_length ks ∙ sym n) in
      let v = ap (λ (x : Extracted). take c.contours x.lent.kind) h
      ∙ take_at (kinds ks) _ c.contours (length-map ks (λ w. pick w.hole 1 0) ∙ sym n) in
      record { fine_graph = k; all = ws; states = after; scanned_as = q; table_is = λ i. table (p i) (x i) (y i) (v i); contours_are = n; counts_are = d }

  by_checks : (o : Checked) → checked g top b.state rooms ≡ o → extracted_as (Ok c) b' ≡ after_checks H cw minimum b o → Ran
  by_checks (Err r) q h = let z = ap (λ (x : Extracted). x.answer) h in let x : ◌≡◌ {A = ℕ} 0 1 = cc in absurd (zero_one x)
  by_checks (Ok u) q h = by_scan (scan H cw b.state) refl q h

  pub ran : extracted_as (Ok c) b' ≡ extracted g top cw minimum b → Ran
  unfolding extracted
  ran h = by_checks (checked g top b.state rooms) refl h

  -- The theorem: what `extract` writes passes checks 10 and 11, with room for an owner for each contour.
  pub extraction_passes : (owners : ℕ) → c.contours ≤ owners → extracted_as (Ok c) b' ≡ extracted g top cw minimum b
      → (table_checked (written_table c b') owners ≡ no_fault) × (anchors_checked (written_table c b') cw ≡ no_fault)
  extraction_passes owners l h =
      let q = ran h in (
        subst (λ t. table_checked t owners ≡ no_fault) (sym q.table_is)
            (passes_10 g top b.state rooms q.fine_graph cw minimum q.all q.states q.scanned_as owners
            (subst (λ k. k ≤ owners) q.contours_are l)),
        subst (λ t. anchors_checked t cw ≡ no_fault) (sym q.table_is)
            (passes_11 g top b.state rooms q.fine_graph cw minimum q.all q.states q.scanned_as),
      )
