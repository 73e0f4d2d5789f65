-- A contour lent by itself, as a table of one hull with owner 0, is reported: one of a table that passes check 10, with its straight points or without.
use Rattle.std.specs.Prelude.{ℕ, zero, suc, ◌+◌, ◌≤◌, ◌<◌, ◌≡◌, Bool, true, false, ℤ, pos, length, get_or, take, drop, Some, Ok}
use Rattle.std.proofs.Common.{arith, not-suc-le-zero, add-one, ap₂, ◌∙◌, subst, ⊎_elim, length-take, length-drop, le-ltb, take_all, get_or-take, get_or-drop}
use Rattle.std.proofs.Math.Decide.{ℕ_discrete}
use Rattle.std.proofs.Math.Path.{refl, sym, ap}
use mathlib.Core.List.Memᴰ
use mathlib.Core.List.{List, [], ◌∷◌, Memᴰ}
use Rattle.laws.specs.Test.{pick, pick_false, true≢false}
use Rattle.laws.specs.Sign.{zer, sgn, eq_s}
use Rattle.laws.specs.Count.{count}
use Rattle.laws.specs.Ring.{ring, var, con, ◌:-◌, ◌:*◌}
use Rattle.turn.specs.Limits.{max_links}
use Rattle.turn.specs.declared.Point.{Point}
use Rattle.turn.specs.Points.{differ, OnGrid, turn}
use Rattle.turn.specs.Area.{points_of}
use Rattle.turn.specs.PointOrder.{same_of_differ}
use Rattle.graph.specs.Graph.{Graph, Lent, graph_of}
use Rattle.walk.specs.Walk.{Walk, points}
use Rattle.keep.specs.declared.Counts.{Counts}
use Rattle.keep.specs.Outcome.{kept, lens, coordinates}
use Rattle.keep.specs.Ledger.{coordinates_length, points_back, firsts_length}
use Rattle.finish.specs.Finish.{Buffers}
use Rattle.extraction.specs.Extract.{extracted_as, extracted}
use Rattle.outlines.specs.Straightening.{AllSpikeless, kept_spikeless}
use Rattle.smooth.specs.Spikes.{spikeless}
use Rattle.fit.specs.Places.{table_of, walk_at, lens_length}
use Rattle.fit.specs.Sizes.{grid_of, table_sound}
use Rattle.fit.specs.Fit.{written_table, Ran, ran}
use Rattle.fit.specs.Enclosed.{contour_is}
use Rattle.straighten.specs.Reread.{origin, coordinates_at}
use Rattle.table.specs.Table.{Table, table, contour, contour_count, first_of, len_of, range_end, point, next, next_in}
use Rattle.table.specs.TableChecks.{table_checked}
use Rattle.table.specs.TableLaws.{next_inside, next_last}
use Rattle.table.specs.Sound.{Sound}
use Rattle.table.specs.Passing.{passes_sound}
use Rattle.lookup.specs.LookupLaws.{found_record_lem}
use Rattle.report.specs.Reports.{measured, reported}
use Rattle.extent.specs.Parts.{points_at, points_many}
use Rattle.report.proofs.Reported.{measured_is}
use Rattle.report.specs.ReportLaws.{points_few, on_grid}
use Rattle.straight.specs.Straight.{on_line, head_or, last_or, without, remove_lowest, removal, removals, drop_straight}
use Rattle.straight.specs.Corners.{Spikeless, corners, all_corners, corners_left, corners_few, enough}
use Rattle.turn.specs.Refusals.{no_fault}

abbrev pub alone : List Point → Table
alone l = table (coordinates l) (0 ∷ []) (length l ∷ []) (0 ∷ [])

abbrev pub AllOn : List Point → Type 0
AllOn l = (p : Point) → Memᴰ p l → OnGrid p

-- round it no point is the next
abbrev pub Apart : List Point → Type 0
Apart l = (k : ℕ) → k < length l → differ (get_or l k origin) (get_or l (next_in 0 (length l) k) origin) ≡ true

module _ (l : List Point) (three : 3 ≤ length l) (few : length l ≤ max_links) (on : AllOn l) (apart : Apart l) where
  alone_sound : Sound (alone l)
  alone_sound =
      let n = coordinates_length l in
      record {
        len_long = refl;
        kind_long = refl;
        whole = omega (arith, n);
        few = omega (arith, n);
        starts = λ h. refl;
        follows = λ c h. absurd (one c h);
        ends = omega (arith, n);
        within = λ c h. rw (first c h) (omega (arith, n));
        long = λ c h. rw (first c h) three;
        kinds = λ c h. rw (first c h) (omega arith);
        grid = grid_of l on;
        neighbours = λ c p h low high. rw (first c h) (near p (rw (first c h) at high));
      }
    where
      one : (c : ℕ) → c + 1 < 1 → ⊥
      one c h = omega arith

      first : (c : ℕ) → c < 1 → c ≡ 0
      first c h = omega arith

      near : (p : ℕ) → p < 0 + length l → differ (point (alone l) p) (point (alone l) (next_in 0 (0 + length l) p)) ≡ true
      near p h =
          let z : 0 + length l ≡ length l = omega arith in
          ap₂ differ (coordinates_at l p) (ap (λ n. point (alone l) (next_in 0 n p)) z ∙ coordinates_at l (next_in 0 (length l) p)) ∙ apart p (omega arith)

  pub alone_fine : table_checked (alone l) 1 ≡ no_fault
  alone_fine = (passes_sound (alone l) 1).from (alone_sound, omega arith)

  contour_alone : contour (alone l) 0 ≡ l
  contour_alone = ap (take (length l)) (points_back l) ∙ take_all (length l) l (omega arith)

  -- its report is that of its points
  pub alone_reported : reported (alone l) (0 ∷ []) 0 ≡ Some (measured l)
  unfolding count
  alone_reported =
      sym (measured_is (alone l) (0 ∷ []) 0 _ (found_record_lem (alone l) (0 ∷ []) 0 (record { below = omega arith; passes = alone_fine; owned = refl })))
      ∙ ap (λ x. Some (measured x)) contour_alone

-- ---- a contour of a table that passes check 10
module _ (t : Table) (s : Sound t) (c : ℕ) (l : c < contour_count t) where
  contour_long : length (contour t c) ≡ len_of t c
  contour_long =
      let n = length-take (len_of t c) (drop (first_of t c) (points_of t.points)) in
      let r = length-drop (first_of t c) (points_of t.points) in
      omega (arith, n, r, points_many t.points, s.within c l)

  contour_at : (k : ℕ) → k < len_of t c → get_or (contour t c) k origin ≡ point t (first_of t c + k)
  contour_at k h =
      get_or-take (len_of t c) (drop (first_of t c) (points_of t.points)) k origin h ∙ get_or-drop (first_of t c) (points_of t.points) k origin
      ∙ points_at origin t.points (first_of t c + k) (omega (arith, s.within c l))

  contour_apart : Apart (contour t c)
  contour_apart k h = go (ℕ_discrete (k + 1) (len_of t c))
    where
      in_range : k < len_of t c
      in_range = omega (arith, contour_long)

      there : differ (point t (first_of t c + k)) (point t (next t c (first_of t c + k))) ≡ true
      there = s.neighbours c (first_of t c + k) l (omega arith) (omega (arith, in_range))

      both : (i : ℕ) → next_in 0 (length (contour t c)) k ≡ i → i < len_of t c → next t c (first_of t c + k) ≡ first_of t c + i
          → differ (get_or (contour t c) k origin) (get_or (contour t c) (next_in 0 (length (contour t c)) k) origin) ≡ true
      both i e m f =
          ap₂ differ (contour_at k in_range) (ap (λ n. get_or (contour t c) n origin) e ∙ contour_at i m ∙ ap (point t) (sym f)) ∙ there

      go : Dec (k + 1 ≡ len_of t c) → differ (get_or (contour t c) k origin) (get_or (contour t c) (next_in 0 (length (contour t c)) k) origin) ≡ true
      go (yes e) =
          let z : first_of t c ≡ first_of t c + 0 = omega arith in
          both 0 (next_last 0 (length (contour t c)) k (omega (arith, contour_long))) (omega (arith, in_range))
          (next_last (first_of t c) (range_end t c) (first_of t c + k) (omega arith) ∙ z)
      go (no n) =
          let z : first_of t c + k + 1 ≡ first_of t c + (k + 1) = omega arith in
          both (k + 1) (next_inside 0 (length (contour t c)) k (omega (arith, contour_long, in_range))) (omega (arith, in_range))
          (next_inside (first_of t c) (range_end t c) (first_of t c + k) (omega (arith, in_range)) ∙ z)

  -- The theorem: it is reported by itself.
  pub contour_reported : reported (alone (contour t c)) (0 ∷ []) 0 ≡ Some (measured (contour t c))
  contour_reported =
      alone_reported (contour t c) (omega (arith, contour_long, s.long c l)) (points_few t s c l) (on_grid t s c l) contour_apart

-- ---- without its straight points
-- as many removals as there are points have left nothing to remove
still_removed : (n : ℕ) (l : List Point) → removal (removals n l) ≡ removals n (removal l)
still_removed zero l = refl
still_removed (suc n) l = still_removed n (removal l)

none_left : (l : List Point) → removal (drop_straight l) ≡ drop_straight l
none_left l =
    ap removal (sym (enough (length l) l (omega arith))) ∙ still_removed (length l) l ∙ enough (suc (length l)) l (omega arith)

-- every point of a run between two points bends
abbrev Bent : Point → Point → List Point → Type 0
Bent prev home [] = Unit {0}
Bent prev home (p ∷ l) = (on_line prev p (head_or home l) ≡ false) × (Bent p home l)

bent : (prev home : Point) (l : List Point) → without prev home l ≡ l → Bent prev home l
bent prev home [] e = tt
bent prev home (p ∷ l) e = by (on_line prev p (head_or home l)) refl e (λ q. bent p home l q)
  where
    tail : List Point → List Point
    tail [] = []
    tail (x ∷ r) = r

    no : (n : ℕ) → n ≡ suc n → ⊥
    no n e = omega arith

    by : (b : Bool) → on_line prev p (head_or home l) ≡ b → pick b l (p ∷ without p home l) ≡ p ∷ l → (without p home l ≡ l → Bent p home l)
        → (on_line prev p (head_or home l) ≡ false) × (Bent p home l)
    by true q h r = absurd (no (length l) (ap length h))
    by false q h r = (q, r (ap tail h))

-- a point where a run bends is not the next one
no_turn : (a b : Point) → turn a b b ≡ pos 0
no_turn a b =
    let ax = var 0 in let ay = var 1 in let bx = var 2 in let by = var 3 in
    ring (a.x ∷ a.y ∷ b.x ∷ b.y ∷ []) ((bx :- ax) :* (by :- ay) :- (by :- ay) :* (bx :- ax)) (con (pos 0)) tt

bends_apart : (a b c : Point) → on_line a b c ≡ false → differ b c ≡ true
bends_apart a b c h = by (differ b c) refl
  where
    by : (d : Bool) → differ b c ≡ d → d ≡ true
    by true e = refl
    by false e =
        let s : on_line a b b ≡ true = ap (λ (z : ℤ). eq_s (sgn z) zer) (no_turn a b) in
        absurd (true≢false s (ap (on_line a b) (same_of_differ b c e) ∙ h))

bent_apart : (prev home : Point) (l : List Point) → Bent prev home l → (k : ℕ) → k < length l
    → differ (get_or l k origin) (head_or home (drop (suc k) l)) ≡ true
bent_apart prev home [] b k h = absurd (not-suc-le-zero h)
bent_apart prev home (p ∷ l) b zero h = bends_apart prev p (head_or home l) b.0
bent_apart prev home (p ∷ l) b (suc k) h = bent_apart p home l b.1 k (omega arith)

-- the one after the last is the first
head_at : (home : Point) (l : List Point) (k : ℕ) → k < length l → head_or home (drop k l) ≡ get_or l k origin
head_at home [] k h = absurd (not-suc-le-zero h)
head_at home (p ∷ l) zero h = refl
head_at home (p ∷ l) (suc k) h = head_at home l k (omega arith)

head_past : (home : Point) (l : List Point) → head_or home (drop (length l) l) ≡ home
head_past home [] = refl
head_past home (p ∷ l) = head_past home l

round_apart : (p : Point) (l : List Point) → Bent (last_or p l) p (p ∷ l) → Apart (p ∷ l)
round_apart p l b k h = go (ℕ_discrete (k + 1) (length (p ∷ l)))
  where
    d : differ (get_or (p ∷ l) k origin) (head_or p (drop (suc k) (p ∷ l))) ≡ true
    d = bent_apart (last_or p l) p (p ∷ l) b k h

    go : Dec (k + 1 ≡ length (p ∷ l)) → differ (get_or (p ∷ l) k origin) (get_or (p ∷ l) (next_in 0 (length (p ∷ l)) k) origin) ≡ true
    go (yes e) =
        let n : length (p ∷ l) ≡ suc k = omega arith in
        ap (λ i. differ (get_or (p ∷ l) k origin) (get_or (p ∷ l) i origin)) (next_last 0 (length (p ∷ l)) k e)
        ∙ ap (differ (get_or (p ∷ l) k origin)) (sym (head_past p (p ∷ l)) ∙ ap (λ i. head_or p (drop i (p ∷ l))) n) ∙ d
    go (no m) =
        ap (λ i. differ (get_or (p ∷ l) k origin) (get_or (p ∷ l) i origin)) (next_inside 0 (length (p ∷ l)) k (omega arith) ∙ add-one k)
        ∙ ap (differ (get_or (p ∷ l) k origin)) (sym (head_at p (p ∷ l) (suc k) (omega arith))) ∙ d

settled_apart : (l : List Point) → 3 ≤ length l → removal l ≡ l → Apart l
settled_apart [] h e k m = absurd (not-suc-le-zero m)
settled_apart (p ∷ l) h e k m = round_apart p l (bent (last_or p l) p (p ∷ l)
    (sym (pick_false (p ∷ l) (remove_lowest (p ∷ l)) (le-ltb (length (p ∷ l)) 3 h)) ∙ e)) k m

-- what is left was there
kept_of : (prev home : Point) (l : List Point) (q : Point) → Memᴰ q (corners prev home l) → Memᴰ q l
kept_of prev home [] q m = m
kept_of prev home (p ∷ l) q m = by (on_line prev p (head_or home l)) m (λ n. kept_of p home l q n)
  where
    by : (b : Bool) → Memᴰ q (pick b (corners p home l) (p ∷ corners p home l)) → (Memᴰ q (corners p home l) → Memᴰ q l) → Memᴰ q (p ∷ l)
    by true n r = Memᴰ.tail (r n)
    by false n r = ⊎_elim (λ (e : q ≡ p). Memᴰ.head e) (λ k. Memᴰ.tail (r k)) (Memᴰ.cases_cons n)

corners_of_lem : (l : List Point) (q : Point) → Memᴰ q (all_corners l) → Memᴰ q l
corners_of_lem [] q m = m
corners_of_lem (p ∷ l) q m = kept_of (last_or p l) p (p ∷ l) q m

-- The theorem: a contour without a spike, as extraction writes it without its straight points, is reported by itself.
pub straight_reported : (l : List Point) → Spikeless l → 3 ≤ length l → length l ≤ max_links → AllOn l
    → reported (alone (drop_straight l)) (0 ∷ []) 0 ≡ Some (measured (drop_straight l))
straight_reported l s h few on =
    let c = corners_left l s h in
    let three : 3 ≤ length (drop_straight l) = rw c.0 c.1 in
    let less : length (drop_straight l) ≤ max_links = rw c.0 (omega (arith, corners_few l)) in
    alone_reported (drop_straight l) three less (λ q m. on q (corners_of_lem l q (rw c.0 at m))) (settled_apart (drop_straight l) three (none_left l))

-- ---- what extraction wrote
one_of : (g : Graph) (ks : List Walk) → AllSpikeless g ks → (c : ℕ) → c < length ks → Spikeless (points g (walk_at ks c))
one_of g [] a c h = absurd (not-suc-le-zero h)
one_of g (w ∷ ks) a zero h = a.0.0
one_of g (w ∷ ks) a (suc c) h = one_of g ks a.1 c (omega arith)

-- The theorem: each contour of a table that extraction wrote is reported by itself without its straight points too.
module _ (g : Lent) (top : List ℕ) (cw : Bool) (minimum : ℕ) (b b' : Buffers) (n : Counts) (h : extracted_as (Ok n) b' ≡ extracted g top cw minimum b) where
  pub written_reported : (c : ℕ) → c < contour_count (written_table n b')
      → reported (alone (drop_straight (contour (written_table n b') c))) (0 ∷ []) 0
      ≡ Some (measured (drop_straight (contour (written_table n b') c)))
  written_reported c l = subst So (sym q.table_is) go l
    where
      q : Ran g top cw minimum b b' n
      q = ran g top cw minimum b b' n h

      ks : List Walk
      ks = kept (graph_of g top) minimum q.all

      t : Table
      t = table_of (graph_of g top) ks

      sound : Sound t
      sound = table_sound g top b.state _ q.fine_graph cw minimum q.all q.states q.scanned_as

      So : Table → Type 0
      So u = c < contour_count u → reported (alone (drop_straight (contour u c))) (0 ∷ []) 0 ≡ Some (measured (drop_straight (contour u c)))

      go : So t
      go m =
          let k : c < length ks = omega (arith, firsts_length 0 (lens ks), lens_length ks) in
          let smooth = kept_spikeless (graph_of g top) minimum q.all (spikeless g top b.state _ cw q.fine_graph q.all q.states q.scanned_as) in
          straight_reported (contour t c) (rw (contour_is (graph_of g top) ks c k) (one_of (graph_of g top) ks smooth c k))
          (omega (arith, contour_long t sound c m, sound.long c m)) (points_few t sound c m) (on_grid t sound c m)
