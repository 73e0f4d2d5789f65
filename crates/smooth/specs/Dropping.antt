-- Of a graph that passes checks 1 to 7 dropping points on a straight line leaves no contour out, and the points that go are exactly those that are straight
-- in the
-- full contour: so contours keep their numbers, their kinds, their order and their areas. A refusal is what it was.
use Rattle.std.specs.Prelude.{ℕ, ◌≡◌, Bool, length, Ok, Err}
use Rattle.std.proofs.Common.{arith, sym, ap, ap₂, ◌∙◌, subst, ⊎_elim}
use Rattle.std.proofs.Math.Path.{refl}
use mathlib.Core.List.Memᴰ
use mathlib.Core.List.{List, [], ◌∷◌, map, Memᴰ}
use Rattle.std.proofs.lemmas.List.{length-map}
use Rattle.laws.specs.Lists.{padded}
use Rattle.turn.specs.declared.Point.{Point}
use Rattle.turn.specs.Area.{area}
use Rattle.graph.specs.Graph.{Lent, Graph, graph_of}
use Rattle.graph.specs.Checks.{Room, room, checked}
use Rattle.walk.specs.Walk.{Walk, points}
use Rattle.keep.specs.declared.Counts.{Counts}
use Rattle.keep.specs.Outcome.{area_of, kept, counts_of}
use Rattle.scan.specs.Scan.{Scanned, stopped, walks, scan}
use Rattle.scan.specs.Visits.{scanned}
use Rattle.finish.specs.Finish.{Buffers}
use Rattle.extraction.specs.Extract.{Extracted, after_scan, after_checks, extracted}
use Rattle.straight.specs.Corners.{all_corners, corners_left}
use Rattle.straight.specs.Areas.{area_stays}
use Rattle.outlines.specs.Outlines.{Outline, straightened, whole, outline_kinds}
use Rattle.outlines.specs.Outlines.{outlines_of, straight_counts, straight_scan, straight_checks, extracted_straight}
use Rattle.outlines.specs.Straightening.{AllSpikeless, kept_spikeless, all_whole, none_left_out, same_kinds}
use Rattle.smooth.specs.Spikes.{spikeless}
use Rattle.turn.specs.Refusals.{Checked, refused, no_fault}
use Rattle.turn.specs.declared.Reason.{Reason}

-- the contour of a walk without the points that are straight in it
abbrev pub cornered : Graph → Walk → Outline
cornered g w = record { hole = w.hole; points = all_corners (points g w) }

module _ (g : Graph) where
  cornered_are : (ks : List Walk) → AllSpikeless g ks → map (straightened g) ks ≡ map (cornered g) ks
  cornered_are [] h = refl
  cornered_are (w ∷ ks) h =
      ap₂ (λ (p : List Point) (r : List Outline). record { hole = w.hole; points = p } ∷ r) (corners_left (points g w) h.0.0 h.0.1).0
      (cornered_are ks h.1)

-- ---- a refusal is what it was
module _ (g : Lent) (top : List ℕ) (cw : Bool) (minimum : ℕ) (b : Buffers) where
  abbrev G : Graph
  G = graph_of g top

  abbrev rooms : Room
  rooms = room (length b.points) (length b.first) (length b.len) (length b.kind)

  zero_one : ◌≡◌ {A = ℕ} 0 1 → ⊥
  zero_one x = omega arith

  refused_scan : (reason : Reason) (place : ℕ) (o : Scanned) → (after_scan G minimum b o).answer ≡ refused reason place
      → straight_scan G minimum b o ≡ after_scan G minimum b o
  refused_scan reason place (stopped m p) h = refl
  refused_scan reason place (walks ws after) h = let x : ◌≡◌ {A = ℕ} 0 1 = cc in absurd (zero_one x)

  refused_checks : (reason : Reason) (place : ℕ) (k : Checked) → (after_checks G cw minimum b k).answer ≡ refused reason place
      → straight_checks G cw minimum b k ≡ after_checks G cw minimum b k
  refused_checks reason place (Err r) h = refl
  refused_checks reason place (Ok u) h = refused_scan reason place (scan G cw b.state) h

  pub same_refusal : (reason : Reason) (place : ℕ) → (extracted g top cw minimum b).answer ≡ refused reason place
      → extracted_straight g top cw minimum b ≡ extracted g top cw minimum b
  unfolding extracted extracted_straight
  same_refusal reason place h = refused_checks reason place (checked g top b.state rooms) h

  -- ---- after success
  pub record Dropping (c : Counts) : Type 0 where
    -- the walks behind it
    pub found : List Walk
    pub found_is : scan G cw b.state ≡ walks found (extracted g top cw minimum b).lent.state
    -- it is a success too, with the same counts but for the points
    pub answer : (extracted_straight g top cw minimum b).answer ≡ Ok (straight_counts G minimum found)
    pub contours : (straight_counts G minimum found).contours ≡ c.contours
    pub rejected : (straight_counts G minimum found).rejected ≡ c.rejected
    pub walked : (straight_counts G minimum found).walked ≡ c.walked
    pub kept_area : (straight_counts G minimum found).kept_area ≡ c.kept_area
    pub rejected_area : (straight_counts G minimum found).rejected_area ≡ c.rejected_area
    -- nothing is left out
    pub none_out : (straight_counts G minimum found).left_out ≡ 0
    -- each contour that was kept, in its order, with its kind and with its corners
    pub outlines : whole (outlines_of G minimum found) ≡ map (cornered G) (kept G minimum found)
    pub states : (extracted_straight g top cw minimum b).lent.state ≡ (extracted g top cw minimum b).lent.state
    pub kinds_stay : (extracted_straight g top cw minimum b).lent.kind ≡ (extracted g top cw minimum b).lent.kind
    -- and of each the signed area of the full one
    pub areas_stay : (w : Walk) → Memᴰ w (kept G minimum found) → area (cornered G w).points ≡ area_of G w

  areas_of : (w : Walk) (ks : List Walk) → AllSpikeless G ks → Memᴰ w ks → area (all_corners (points G w)) ≡ area_of G w
  areas_of w [] h i = absurd (Memᴰ.not-nil i)
  areas_of w (v ∷ ks) h i =
      ⊎_elim (λ (e : w ≡ v). subst (λ (x : Walk). area (all_corners (points G x)) ≡ area_of G x) (sym e)
      (ap area (sym (corners_left (points G v) h.0.0 h.0.1).0) ∙ area_stays (points G v)))
      (λ k. areas_of w ks h.1 k) (Memᴰ.cases_cons i)

  by_scan : (c : Counts) (o : Scanned) → scan G cw b.state ≡ o → checked g top b.state rooms ≡ no_fault
      → extracted g top cw minimum b ≡ after_scan G minimum b o → extracted_straight g top cw minimum b ≡ straight_scan G minimum b o
      → (after_scan G minimum b o).answer ≡ Ok c → Dropping c
  by_scan c (stopped reason place) e k q r d = let x : ◌≡◌ {A = ℕ} 0 1 = cc in absurd (zero_one x)
  by_scan c (walks ws after) e k q r d =
      let n : counts_of G minimum ws ≡ c = cc in
      let smooth : AllSpikeless G (kept G minimum ws) = kept_spikeless G minimum ws (spikeless g top b.state rooms cw k ws after e) in
      let all = all_whole G (kept G minimum ws) smooth in
      let state : after ≡ (extracted g top cw minimum b).lent.state = (scanned G cw b.state ws after e).states ∙ sym (ap (λ (x : Extracted). x.lent.state) q) in
      record {
        found = ws;
        found_is = e ∙ ap (walks ws) state;
        answer = ap (λ (x : Extracted). x.answer) r;
        contours = ap length all ∙ length-map (kept G minimum ws) (straightened G) ∙ ap (λ (x : Counts). x.contours) n;
        rejected = ap (λ (x : Counts). x.rejected) n;
        walked = ap (λ (x : Counts). x.walked) n;
        kept_area = ap (λ (x : Counts). x.kept_area) n;
        rejected_area = ap (λ (x : Counts). x.rejected_area) n;
        none_out = none_left_out G (kept G minimum ws) smooth;
        outlines = all ∙ cornered_are G (kept G minimum ws) smooth;
        states = ap (λ (x : Extracted). x.lent.state) r ∙ sym (ap (λ (x : Extracted). x.lent.state) q);
        kinds_stay = ap (λ (x : Extracted). x.lent.kind) r
            ∙ ap (λ (l : List ℕ). padded 0 l (length b.kind)) (ap outline_kinds all ∙ same_kinds G (kept G minimum ws))
            ∙ sym (ap (λ (x : Extracted). x.lent.kind) q);
        areas_stay = λ w i. areas_of w (kept G minimum ws) smooth i;
      }

  by_checks : (c : Counts) (k : Checked) → checked g top b.state rooms ≡ k → extracted g top cw minimum b ≡ after_checks G cw minimum b k
      → extracted_straight g top cw minimum b ≡ straight_checks G cw minimum b k → (after_checks G cw minimum b k).answer ≡ Ok c → Dropping c
  by_checks c (Err w) e q r d = let x : ◌≡◌ {A = ℕ} 0 1 = cc in absurd (zero_one x)
  by_checks c (Ok u) e q r d = by_scan c (scan G cw b.state) refl e q r d

  pub dropping : (c : Counts) → (extracted g top cw minimum b).answer ≡ Ok c → Dropping c
  unfolding extracted extracted_straight
  dropping c d = by_checks c (checked g top b.state rooms) refl refl refl d
