-- On a graph that passes the checks, by turns or not, every finished walk is closed and has three points or more: rule
-- 6's "at least 3 points" decides nothing there.
use Prim.Native.Nat.{ℕ, zero, suc, ◌≤◌, ◌<◌}
use Rattle.std.proofs.Common.{arith, sym, ap₂, ◌∙◌, subst, inl, inr, ⊎_elim, eqb-true, eq-eqb, ne_eqb, le-leb}
use Rattle.std.specs.Prelude.{◌≡◌, refl, ◌⊎◌, Bool, true, false, not, ◌||◌, length, set, eqb, leb, ltb, Option, Some, None}
use mathlib.Core.List.Memᴰ
use mathlib.Core.List.{List, [], ◌∷◌, Memᴰ}
use Rattle.laws.specs.Test.{Is, pick, pick_true, pick_false, pick_ind, true≢false}
use Rattle.turn.specs.Points.{from_to}
use Rattle.turn.specs.Directions.{same_refl}
use Rattle.turn.specs.Angle.{same_direction}
use Rattle.turn.specs.Size.{half}
use Rattle.graph.specs.Graph.{Lent, Graph, graph_of}
use Rattle.graph.specs.Checks.{Room, checked, away_from}
use Rattle.next.specs.Next.{other, next_link, first_link, unvisited}
use Rattle.next.specs.Choice.{Mem}
use Rattle.walk.specs.Walk.{Step, Walk, Walked, stuck, done, cons_step, on_next, step_from, walk_on, walk_from, left, marked, mark_of}
use Rattle.scan.specs.Scan.{sense_of, walk_of, Scanned, stopped, walks, cons_walk, after_walk, scan_at, lowest_unvisited, scan_on, scan}
use Rattle.keep.specs.Outcome.{area_of, keeps}
use Rattle.walk.specs.States.{Unvisited, Mark, set_of}
use Rattle.onward.specs.Named.{Among, next_among}
use Rattle.walk.specs.Visits.{Fresh, mark_of_lem}
use Rattle.scan.specs.Visits.{AllFresh, scanned}
use Rattle.tour.specs.Statement.{node_left, node_reached, Line, Closed, reached}
use Rattle.tour.specs.Ends.{Listed}
use Rattle.tour.specs.Sums.{meet}
use Rattle.tour.specs.Sound.{Sound, below}
use Rattle.tour.specs.Passing.{sound}
use Rattle.turn.specs.declared.Reason.TheVariants.{WrongLastLink}
use Rattle.turn.specs.Refusals.{no_fault}

-- ---- a finished walk is closed
module _ (g : Graph) (ok : Listed g) where
  -- a step from node v leaves it
  step_left : (v f : ℕ) → Mem f (g.entries v) → node_left g (step_from g v f) ≡ v
  step_left v f m = pick_ind (eqb (g.a_node f) v) (g.a_node f) (g.b_node f) (λ u. u ≡ v) (eqb-true (g.a_node f) v)
      (λ n. ⊎_elim (λ e. absurd (true≢false (eq-eqb (g.a_node f) v e) n)) (λ e. e) (ok.only v f m))

  abbrev Runs : ℕ → ℕ → Walked → Type 0
  Runs v u (stuck reason) = Unit {0}
  Runs v u (done l after) = Line g v l u

  runs_cons : (v u : ℕ) (s : Step) (o : Walked) → node_left g s ≡ v → Runs (node_reached g s) u o → Runs v u (cons_step s o)
  runs_cons v u s (stuck reason) e h = tt
  runs_cons v u s (done l after) e h = (e, h)

  module _ (w : Bool) (home last mark : ℕ) where
    runs_next : (go : ℕ → ℕ → List ℕ → Walked) (v : ℕ) (st : List ℕ) → ((v e : ℕ) (st : List ℕ) → Runs v home (go v e st)) → (o : Option ℕ)
        → Among st (g.entries v) o
        → Runs v home (on_next (λ f. cons_step (step_from g v f) (go (other g v f) f (set st f mark))) o)
    runs_next go v st h None a = tt
    runs_next go v st h (Some f) a =
        runs_cons v home (step_from g v f) (go (other g v f) f (set st f mark)) (step_left v f a.0) (h (other g v f) f (set st f mark))

    walk_runs : (fuel v e : ℕ) (st : List ℕ) → Runs v home (walk_on fuel g w home last mark v e st)
    unfolding walk_on
    walk_runs zero v e st = tt
    walk_runs (suc fuel) v e st =
        pick_ind (eqb e last) (pick (eqb v home) (done [] st) (stuck WrongLastLink)) _ (Runs v home)
        (λ p. pick_ind (eqb v home) (done [] st) (stuck WrongLastLink) (Runs v home) (eqb-true v home) (λ q. tt))
        (λ n. runs_next (λ v e st. walk_on fuel g w home last mark v e st) v st (walk_runs fuel) (next_link g w st v e) (next_among g w st v e))

  -- closed, with a step at least
  abbrev Round : List Step → Type 0
  Round l = ((v : ℕ) × Line g v l v) × (0 < length l)

  abbrev Rounds : Walked → Type 0
  Rounds (stuck reason) = Unit {0}
  Rounds (done l after) = Round l

  rounds_cons : (h : ℕ) (s : Step) (o : Walked) → node_left g s ≡ h → Runs (node_reached g s) h o → Rounds (cons_step s o)
  rounds_cons h s (stuck reason) e r = tt
  rounds_cons h s (done l after) e r = ((h, (e, r)), omega arith)

  from_rounds : (forward sense : Bool) (mark : ℕ) (st : List ℕ) (s : ℕ) → Rounds (walk_from g forward sense mark st s)
  unfolding walk_from
  from_rounds forward sense mark st s = by (next_link g (not sense) (set st s mark) (pick forward (g.a_node s) (g.b_node s)) s)
    where
      home : ℕ
      home = pick forward (g.a_node s) (g.b_node s)

      ahead : ℕ
      ahead = pick forward (g.b_node s) (g.a_node s)

      by : (o : Option ℕ)
          → Rounds (on_next
          (λ last. cons_step (record { link = s; forward = forward })
          (walk_on (suc (unvisited (set st s mark))) g sense home last mark ahead s (set st s mark))) o)
      by None = tt
      by (Some last) =
          rounds_cons home (record { link = s; forward = forward })
          (walk_on (suc (unvisited (set st s mark))) g sense home last mark ahead s (set st s mark)) refl
          (walk_runs sense home last mark (suc (unvisited (set st s mark))) ahead s (set st s mark))

  module _ (cw : Bool) where
    abbrev AllRounds : Scanned → Type 0
    AllRounds (stopped reason place) = Unit {0}
    AllRounds (walks ws after) = (w : Walk) → Memᴰ w ws → Round w.steps

    all_cons : (w : Walk) (o : Scanned) → Round w.steps → AllRounds o → AllRounds (cons_walk w o)
    all_cons w (stopped reason place) r h = tt
    all_cons w (walks ws after) r h = λ x m. ⊎_elim (λ (e : x ≡ w). subst (λ y. Round y.steps) (sym e) r) (λ k. h x k) (Memᴰ.cases_cons m)

    after_walk_lem : (go : List ℕ → Scanned) (k : ℕ) (hole : Bool) (o : Walked) → Rounds o → ((after : List ℕ) → AllRounds (go after))
        → AllRounds (after_walk k hole go o)
    after_walk_lem go k hole (stuck reason) r h = tt
    after_walk_lem go k hole (done l after) r h = all_cons (record { hole = hole; steps = l }) (go after) r (h after)

    at_first : (go : List ℕ → Scanned) (st : List ℕ) (k : ℕ) (o : Option ℕ) → ((after : List ℕ) → AllRounds (go after)) → AllRounds (scan_at g cw go st k o)
    at_first go st k None h = tt
    at_first go st k (Some s) h = after_walk_lem go k (g.top s) (walk_of g cw st s) (from_rounds (not (sense_of g cw s)) (sense_of g cw s)
        (mark_of (g.top s)) st s) h

    none_there : (st : List ℕ) → AllRounds (walks [] st)
    none_there st w m = absurd (Memᴰ.not-nil m)

    scan_rounds : (fuel : ℕ) (st : List ℕ) → AllRounds (scan_on fuel g cw st)
    unfolding scan_on
    scan_rounds zero st = none_there st
    scan_rounds (suc fuel) st = pick_ind (ltb (lowest_unvisited st) (length st)) _ (walks [] st) AllRounds
        (λ t. at_first (λ after. scan_on fuel g cw after) st (lowest_unvisited st) (first_link g st (lowest_unvisited st)) (scan_rounds fuel))
        (λ n. none_there st)

-- ---- a closed walk along different links has three steps or more
module _ (g : Graph) (st : List ℕ) (ok : Sound g st) where
  abbrev pub Known : Step → Type 0
  Known s = Unvisited st s.link

  differ : (s : Step) → Known s → g.a_node s.link ≡ g.b_node s.link → ⊥
  differ s o = ok.lists.differ s.link (below g st ok s.link o)

  -- how a link runs from the node that a step along it leaves, and from the one that it reaches
  pub away_left : (h : ℕ) (s : Step) → Known s → node_left g s ≡ h → away_from g h s.link ≡ from_to (left g s) (reached g s)
  away_left h s o = by s.forward
    where
      k : ℕ
      k = s.link

      by : (b : Bool) → pick b (g.a_node k) (g.b_node k) ≡ h → away_from g h k ≡ from_to (pick b (g.a k) (g.b k)) (pick b (g.b k) (g.a k))
      by true e = pick_true (from_to (g.a k) (g.b k)) (from_to (g.b k) (g.a k)) (eq-eqb (g.a_node k) h e)
      by false e = pick_false (from_to (g.a k) (g.b k)) (from_to (g.b k) (g.a k)) (ne_eqb (g.a_node k) h (λ q. differ s o (q ∙ sym e)))

  pub away_reached : (h : ℕ) (s : Step) → Known s → node_reached g s ≡ h → away_from g h s.link ≡ from_to (reached g s) (left g s)
  away_reached h s o = by s.forward
    where
      k : ℕ
      k = s.link

      by : (b : Bool) → pick b (g.b_node k) (g.a_node k) ≡ h → away_from g h k ≡ from_to (pick b (g.b k) (g.a k)) (pick b (g.a k) (g.b k))
      by true e = pick_false (from_to (g.a k) (g.b k)) (from_to (g.b k) (g.a k)) (ne_eqb (g.a_node k) h (λ q. differ s o (q ∙ sym e)))
      by false e = pick_true (from_to (g.a k) (g.b k)) (from_to (g.b k) (g.a k)) (eq-eqb (g.a_node k) h e)

  pub at_node : (h : ℕ) (s : Step) → Known s → (node_left g s ≡ h) ⊎ (node_reached g s ≡ h) → Mem s.link (g.entries h)
  at_node h s o e = ⊎_elim (left_of s.forward) (reached_of s.forward) e
    where
      k : ℕ
      k = s.link

      left_of : (b : Bool) → pick b (g.a_node k) (g.b_node k) ≡ h → Mem k (g.entries h)
      left_of true q = subst (λ v. Mem k (g.entries v)) q (ok.lists.at_a k (below g st ok k o))
      left_of false q = subst (λ v. Mem k (g.entries v)) q (ok.lists.at_b k (below g st ok k o))

      reached_of : (b : Bool) → pick b (g.b_node k) (g.a_node k) ≡ h → Mem k (g.entries h)
      reached_of true q = subst (λ v. Mem k (g.entries v)) q (ok.lists.at_b k (below g st ok k o))
      reached_of false q = subst (λ v. Mem k (g.entries v)) q (ok.lists.at_a k (below g st ok k o))

  not_one : (h : ℕ) (s : Step) → Known s → Line g h (s ∷ []) h → ⊥
  not_one h s o l = by s.forward (l.1 ∙ sym l.0)
    where
      by : (b : Bool) → pick b (g.b_node s.link) (g.a_node s.link) ≡ pick b (g.a_node s.link) (g.b_node s.link) → ⊥
      by true e = differ s o (sym e)
      by false e = differ s o e

  -- two links with the same two ends run from each in one direction
  not_two : (h : ℕ) (s t : Step) → Known s → Known t → (t.link ≡ s.link → ⊥) → Line g h (s ∷ (t ∷ [])) h → ⊥
  not_two h s t os ot d l =
      let bs = below g st ok s.link os in
      let bt = below g st ok t.link ot in
      let there : reached g s ≡ left g t = meet g ok.points true s.forward t.forward s.link t.link bs bt (sym l.1.0) in
      let home : reached g t ≡ left g s = meet g ok.points true t.forward s.forward t.link s.link bt bs (l.1.1 ∙ sym l.0) in
      let one : away_from g h s.link ≡ away_from g h t.link = away_left h s os l.0 ∙ ap₂ from_to (sym home) there ∙ sym (away_reached h t ot l.1.1) in
      ok.spread.apart h s.link t.link os ot (at_node h s os (inl l.0)) (at_node h t ot (inr l.1.1)) (λ q. d (sym q))
      (subst (λ u. Is (same_direction (away_from g h s.link) u)) one (same_refl (away_from g h s.link) (ok.spread.long h s.link os)))

  three_steps : (m : ℕ) (now : List ℕ) (l : List Step) → Mark m → Fresh m now l → ((k : ℕ) → Unvisited now k → Unvisited st k)
      → ((v : ℕ) × Line g v l v) → 0 < length l → 3 ≤ length l
  three_steps m now [] n f sub c z = absurd (none z)
    where
      none : 0 < 0 → ⊥
      none z = omega arith
  three_steps m now (s ∷ []) n f sub c z = absurd (not_one c.0 s (sub s.link f.0) c.1)
  three_steps m now (s ∷ (t ∷ [])) n f sub c z =
      let o = set_of now s.link m t.link f.0 n f.1.0 in
      absurd (not_two c.0 s t (sub s.link f.0) (sub t.link o.0) o.1 c.1)
  three_steps m now (s ∷ (t ∷ (u ∷ l))) n f sub c z = omega arith

  -- what is unvisited after a walk was unvisited before
  pub unvisited_before : (m : ℕ) (now : List ℕ) (l : List Step) → Mark m → Fresh m now l → (k : ℕ) → Unvisited (marked m l now) k → Unvisited now k
  unvisited_before m now [] n f k o = o
  unvisited_before m now (s ∷ l) n f k o = (set_of now s.link m k f.0 n (unvisited_before m (set now s.link m) l n f.1 k o)).0

  all_three : (now : List ℕ) (ws : List Walk) → AllFresh now ws → ((k : ℕ) → Unvisited now k → Unvisited st k)
      → ((w : Walk) → Memᴰ w ws → ((v : ℕ) × Line g v w.steps v) × (0 < length w.steps)) → (w : Walk) → Memᴰ w ws → 3 ≤ length w.steps
  all_three now [] f sub c w i = absurd (Memᴰ.not-nil i)
  all_three now (x ∷ ws) f sub c w i =
      let m : ℕ = mark_of x.hole in
      ⊎_elim
      (λ (e : w ≡ x). let r = c w i in three_steps m now w.steps (mark_of_lem x.hole) (subst (λ y. Fresh m now y.steps) (sym e) f.0) sub r.0 r.1)
      (λ k. all_three (marked m x.steps now) ws f.1 (λ j o. sub j (unvisited_before m now x.steps (mark_of_lem x.hole) f.0 j o))
      (λ y q. c y (Memᴰ.tail q)) w k)
      (Memᴰ.cases_cons i)

-- ---- of what is lent: closed, and with three points or more
pub record Finished (g : Graph) (w : Walk) : Type 0 where
  pub closed : Closed g w
  pub three : 3 ≤ length w.steps

pub finished : (g : Lent) (top st : List ℕ) (r : Room) (cw : Bool) → checked g top st r ≡ no_fault → (ws : List Walk) (after : List ℕ)
    → scan (graph_of g top) cw st ≡ walks ws after
    → (w : Walk) → Memᴰ w ws → Finished (graph_of g top) w
finished g top st r cw e ws after s w m =
    let G : Graph = graph_of g top in
    let ok = sound g top st r e in
    let c = subst (AllRounds G ok.lists cw) s (scan_rounds G ok.lists cw (suc (unvisited st)) st) in
    record { closed = (c w m).0; three = all_three G st ok st ws (scanned G cw st ws after s).fresh (λ k o. o) c w m }

-- so the size alone decides whether it is kept
pub kept_by_size : (g : Graph) (minimum : ℕ) (w : Walk) → Finished g w → keeps g minimum w ≡ (eqb minimum 0 || leb minimum (half (area_of g w)))
kept_by_size g minimum w f = rw (le-leb 3 (length w.steps) f.three)
