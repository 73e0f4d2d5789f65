-- What is true of every extraction that is done, for any lent graph: each unvisited link is walked exactly once and no
-- other, the states tell which, and the counts add up.
-- That every walk is closed and has three points or more, and what the totals come to, is proved above, of graphs that
-- pass the checks (crate tour: ThreePoints, Statement).
use Rattle.std.specs.Prelude.{ℕ, ◌+◌, ◌≡◌, ◌⊎◌, Bool, true, false, List, [], ◌∷◌, length, get_or, set, pos, ◌+ℤ◌, Ok, Err}
use Rattle.std.proofs.Common.{arith, sym, ap, ◌∙◌, subst, inl, inr, ⊎_elim, get_or-set_same, get_or-set_other, eqb-true, eq-eqb}
use Rattle.std.proofs.Math.Decide.{ℕ_discrete}
use Rattle.std.proofs.Math.Path.{refl}
use Rattle.std.proofs.Math.IntN.{+ℤ_assoc, +ℤ_idl}
use Rattle.laws.specs.Test.{pick, true≢false}
use Rattle.laws.specs.Int.{+ℤ-left}
use Rattle.graph.specs.Graph.{Graph, Lent, graph_of}
use Rattle.graph.specs.Checks.{checked, room}
use Rattle.next.specs.Next.{is_unvisited, unvisited}
use Rattle.next.specs.States.{unvisited_below}
use Rattle.keep.specs.declared.Counts.{Counts}
use Rattle.walk.specs.Walk.{Step, Walk, marked, mark_of}
use Rattle.scan.specs.Scan.{Scanned, stopped, walks, scan}
use Rattle.keep.specs.Outcome.{states_after, area_of, keeps, kept, rejected, all_points, areas, total, counts_of}
use Rattle.walk.specs.States.{Unvisited, NoneUnvisited}
use Rattle.walk.specs.Visits.{Fresh}
use Rattle.scan.specs.Visits.{AllFresh, times, scanned}
use Rattle.keep.specs.Ledger.{all_points_length}
use Rattle.extraction.specs.Extract.{Extracted, after_walks, after_scan, after_checks, extracted}
use Rattle.finish.specs.Finish.{Buffers}
use Rattle.turn.specs.Refusals.{Checked}

-- ---- a state at entry and at exit: as it was, or 0 and then 2 or 3
abbrev pub TwoOrThree : ℕ → Type 0
TwoOrThree y = (y ≡ 2) ⊎ (y ≡ 3)

abbrev Became : ℕ → ℕ → Type 0
Became x y = (y ≡ x) ⊎ ((x ≡ 0) × TwoOrThree y)

became_then : (x y z : ℕ) → Became x y → Became y z → Became x z
became_then x y z (inl p) (inl q) = inl (q ∙ p)
became_then x y z (inl p) (inr q) = inr (sym p ∙ q.0, q.1)
became_then x y z (inr p) (inl q) = inr (p.0, subst TwoOrThree (sym q) p.1)
became_then x y z (inr p) (inr q) = inr (p.0, q.1)

mark_two_or_three : (hole : Bool) → TwoOrThree (mark_of hole)
mark_two_or_three true = inl refl
mark_two_or_three false = inr refl

module _ (k : ℕ) where
  set_became : (st : List ℕ) (f m : ℕ) → TwoOrThree m → Unvisited st f → Became (get_or st k 1) (get_or (set st f m) k 1)
  set_became st f m t o = elim (ℕ_discrete k f) [ yes q ↦ here q | no d ↦ inl (get_or-set_other st f k m 1 d) ]
    where
      here : k ≡ f → Became (get_or st k 1) (get_or (set st f m) k 1)
      here q = inr (
        ap (λ j. get_or st j 1) q ∙ eqb-true (get_or st f 1) 0 o,
        subst TwoOrThree (sym (ap (λ j. get_or (set st f m) j 1) q ∙ get_or-set_same st f m 1 (unvisited_below st f o))) t,
      )

  marked_became : (m : ℕ) (st : List ℕ) (l : List Step) → TwoOrThree m → Fresh m st l → Became (get_or st k 1) (get_or (marked m l st) k 1)
  marked_became m st [] t f = inl refl
  marked_became m st (s ∷ l) t f = became_then _ _ _ (set_became st s.link m t f.0) (marked_became m (set st s.link m) l t f.1)

  all_became : (st : List ℕ) (ws : List Walk) → AllFresh st ws → Became (get_or st k 1) (get_or (states_after ws st) k 1)
  all_became st [] f = inl refl
  all_became st (w ∷ ws) f =
      became_then _ _ _ (marked_became (mark_of w.hole) st w.steps (mark_two_or_three w.hole) f.0)
      (all_became (marked (mark_of w.hole) w.steps st) ws f.1)

-- ---- the totals of kept and of rejected walks, by any minimum, are the total of all
pub kept_and_rejected : (g : Graph) (minimum : ℕ) (ws : List Walk) → total (areas g (kept g minimum ws)) +ℤ total (areas g (rejected g minimum ws))
    ≡ total (areas g ws)
kept_and_rejected g minimum [] = +ℤ_idl (pos 0)
kept_and_rejected g minimum (w ∷ ws) = by (keeps g minimum w) (kept g minimum ws) (rejected g minimum ws) (kept_and_rejected g minimum ws)
  where
    by : (b : Bool) (p q : List Walk) → total (areas g p) +ℤ total (areas g q) ≡ total (areas g ws)
        → total (areas g (pick b (w ∷ p) p)) +ℤ total (areas g (pick b q (w ∷ q))) ≡ area_of g w +ℤ total (areas g ws)
    by true p q e = +ℤ_assoc (area_of g w) (total (areas g p)) (total (areas g q)) ∙ ap (λ z. area_of g w +ℤ z) e
    by false p q e = +ℤ-left (total (areas g p)) (area_of g w) (total (areas g q)) ∙ ap (λ z. area_of g w +ℤ z) e

-- each walk is kept or rejected
pub kept_or_rejected : (g : Graph) (minimum : ℕ) (ws : List Walk) → length (kept g minimum ws) + length (rejected g minimum ws) ≡ length ws
kept_or_rejected g minimum [] = refl
kept_or_rejected g minimum (w ∷ ws) = by (keeps g minimum w) (kept g minimum ws) (rejected g minimum ws) (kept_or_rejected g minimum ws)
  where
    by : (b : Bool) (p q : List Walk) → length p + length q ≡ length ws → length (pick b (w ∷ p) p) + length (pick b q (w ∷ q)) ≡ length (w ∷ ws)
    by true p q e = omega arith
    by false p q e = omega arith

-- ---- the theorem
pub record Success (g : Lent) (top : List ℕ) (clockwise : Bool) (minimum : ℕ) (b : Buffers) (c : Counts) : Type 0 where
  -- all walks in order, kept and rejected alike: those of the scan
  pub found : List Walk
  pub found_is : scan (graph_of g top) clockwise b.state ≡ walks found (extracted g top clockwise minimum b).lent.state
  -- buffers and counts are read off them
  pub lent_is : (extracted g top clockwise minimum b).lent ≡ after_walks (graph_of g top) minimum found b
  pub counts_are : c ≡ counts_of (graph_of g top) minimum found
  -- "On success, links walked is the number of states that were 0 at entry."
  pub walked : c.walked ≡ unvisited b.state
  -- each such link is walked exactly once, and no other
  pub once : (k : ℕ) → times k found ≡ pick (is_unvisited b.state k) 1 0
  -- its state is then 2 or 3, and any other state as it was
  pub walked_states : (k : ℕ) → is_unvisited b.state k ≡ true → TwoOrThree (get_or (extracted g top clockwise minimum b).lent.state k 1)
  pub other_states : (k : ℕ) → is_unvisited b.state k ≡ false → get_or (extracted g top clockwise minimum b).lent.state k 1 ≡ get_or b.state k 1
  -- the points of the kept walks are as many as the counts say
  pub points : length (all_points (graph_of g top) (kept (graph_of g top) minimum found)) ≡ c.points
  pub contours : c.contours + c.rejected ≡ length found
  -- the two totals together are the total over all walks
  pub totals : c.kept_area +ℤ c.rejected_area ≡ total (areas (graph_of g top) found)

module _ (g : Lent) (top : List ℕ) (cw : Bool) (minimum : ℕ) (b : Buffers) (c : Counts) where
  abbrev G : Graph
  G = graph_of g top

  by_scan : (o : Scanned) → scan G cw b.state ≡ o → extracted g top cw minimum b ≡ after_scan G minimum b o
      → (after_scan G minimum b o).answer ≡ Ok c → Success g top cw minimum b c
  by_scan (stopped reason place) e q d = absurd (true≢false (cc) refl)
  by_scan (walks ws after) e q d =
      let s = scanned G cw b.state ws after e in
      let k : counts_of G minimum ws ≡ c = cc in
      let l : (extracted g top cw minimum b).lent ≡ after_walks G minimum ws b = ap (λ (x : Extracted). x.lent) q in
      let f : (extracted g top cw minimum b).lent.state ≡ states_after ws b.state = ap (λ (x : Buffers). x.state) l in
      let became : (j : ℕ) → Became (get_or b.state j 1) (get_or (extracted g top cw minimum b).lent.state j 1) =
      λ j. subst (λ t. Became (get_or b.state j 1) (get_or t j 1)) (sym f) (all_became j b.state ws s.fresh) in
      let shut : NoneUnvisited (extracted g top cw minimum b).lent.state = subst NoneUnvisited (s.states ∙ sym f) s.none in
      record {
        found = ws;
        found_is = e ∙ ap (walks ws) (s.states ∙ sym f);
        lent_is = l;
        counts_are = sym k;
        walked = subst (λ (x : Counts). x.walked ≡ unvisited b.state) k s.count;
        once = s.once;
        walked_states = λ j o. ⊎_elim
            (λ p. absurd (true≢false (eq-eqb _ _ (p ∙ eqb-true (get_or b.state j 1) 0 o)) (shut j)))
            (λ p. p.1) (became j);
        other_states = λ j n. ⊎_elim (λ p. p) (λ p. absurd (true≢false (eq-eqb _ _ p.0) n)) (became j);
        points = subst (λ (x : Counts). length (all_points G (kept G minimum ws)) ≡ x.points) k (all_points_length G (kept G minimum ws));
        contours = subst (λ (x : Counts). x.contours + x.rejected ≡ length ws) k (kept_or_rejected G minimum ws);
        totals = subst (λ (x : Counts). x.kept_area +ℤ x.rejected_area ≡ total (areas G ws)) k (kept_and_rejected G minimum ws);
      }

  by_checks : (k : Checked) → extracted g top cw minimum b ≡ after_checks G cw minimum b k → (after_checks G cw minimum b k).answer ≡ Ok c
      → Success g top cw minimum b c
  by_checks (Err r) q d = absurd (true≢false (cc) refl)
  by_checks (Ok u) q d = by_scan (scan G cw b.state) refl q d

  pub success : (extracted g top cw minimum b).answer ≡ Ok c → Success g top cw minimum b c
  unfolding extracted
  success d = by_checks (checked g top b.state (room (length b.points) (length b.first) (length b.len) (length b.kind))) refl d
