-- The third demand from the second form of its condition: no walk is refused, each link is walked once in its direction, and the areas add up.
use Rattle.std.specs.Prelude.{ℕ, ◌+◌, ◌≡◌, refl, Bool, true, false, not, eqb}
use Rattle.std.proofs.Common.{arith, sym, ap, ◌∙◌, subst, ⊎_elim, true≢false, eq-eqb, ne_eqb}
use Rattle.std.specs.Bool.{beq}
use Rattle.std.proofs.lemmas.Bool.{false≢true}
use mathlib.Core.List.Memᴰ
use mathlib.Core.List.{List, [], ◌∷◌, ◌++◌, map, Memᴰ}
use Rattle.laws.specs.Test.{pick}
use Rattle.graph.specs.Graph.{Graph}
use Rattle.laws.specs.Count.{count}
use Rattle.next.specs.Next.{is_unvisited, met_first}
use Rattle.next.specs.Choice.{Mem}
use Rattle.walk.specs.Walk.{Step, Walk}
use Rattle.scan.specs.Scan.{walks, scan}
use Rattle.walk.specs.States.{Unvisited}
use Rattle.walk.specs.Visits.{times_in}
use Rattle.scan.specs.Visits.{times, scanned}
use Rattle.tour.specs.Statement.{leaves, fill_on_left, Line, links_of, Toured}
use Rattle.tour.specs.Alternation.{Cyc, no_not}
use Rattle.tour.specs.Ends.{End, hd, tl, link, arrives, head_n, node, UnvisitedEnd, end_at_lem, listed, same_end}
use Rattle.tour.specs.OneWalk.{Chain, ByTurns}
use Rattle.tour.specs.AllWalks.{Closed, Scans, all_ok}
use Rattle.tour.specs.Around.{Met, met_irr, met_trans, cyc, seen}
use Rattle.tour.proofs.Sums.{areas_total}
use Rattle.tour.specs.Sound.{Sound, below, At, NoneBetween, NextTurns}

-- ---- how a link leaves, by its end
leave_tl : (t cw : Bool) (p q v : ℕ) → (p ≡ q → ⊥) → pick (not (beq t cw)) p q ≡ v → eqb (pick t p q) v ≡ beq false cw
leave_tl true true p q v d e = ne_eqb p v (λ k. d (k ∙ sym e))
leave_tl true false p q v d e = eq-eqb p v e
leave_tl false true p q v d e = ne_eqb q v (λ k. d (e ∙ sym k))
leave_tl false false p q v d e = eq-eqb q v e

leave_hd : (t cw : Bool) (p q v : ℕ) → (p ≡ q → ⊥) → pick (not (beq t cw)) q p ≡ v → eqb (pick t p q) v ≡ beq true cw
leave_hd true true p q v d e = eq-eqb p v e
leave_hd true false p q v d e = ne_eqb p v (λ k. d (k ∙ sym e))
leave_hd false true p q v d e = eq-eqb q v e
leave_hd false false p q v d e = ne_eqb q v (λ k. d (e ∙ sym k))

sorts : (a b cw : Bool) → beq a cw ≡ not (beq b cw) → a ≡ not b
sorts true true true e = absurd (true≢false e)
sorts true true false e = absurd (false≢true e)
sorts true false cw e = refl
sorts false true cw e = refl
sorts false false true e = absurd (false≢true e)
sorts false false false e = absurd (true≢false e)

-- ---- what the walks' chains say
filled : (t cw b : Bool) → b ≡ not (beq t cw) → beq t b ≡ not cw
filled t cw b e = ap (beq t) e ∙ by t cw
  where
    by : (t cw : Bool) → beq t (not (beq t cw)) ≡ not cw
    by true true = refl
    by true false = refl
    by false true = refl
    by false false = refl

module _ (g : Graph) (cw : Bool) where
  chain_fill : (v u : ℕ) (l : List Step) → Chain g cw v l u → (s : Step) → Memᴰ s l → fill_on_left g s ≡ not cw
  chain_fill v u [] c s m = absurd (Memᴰ.not-nil m)
  chain_fill v u (p ∷ l) c s m =
      ⊎_elim (λ (e : s ≡ p). subst (λ r. fill_on_left g r ≡ not cw) (sym e) (filled (g.top p.link) cw p.forward c.1))
      (λ k. chain_fill (head_n g cw p.link) u l c.2 s k) (Memᴰ.cases_cons m)

  chain_line : (v u : ℕ) (l : List Step) → Chain g cw v l u → Line g v l u
  chain_line v u [] c = c
  chain_line v u (p ∷ l) c = (
    ap (λ b. pick b (g.a_node p.link) (g.b_node p.link)) c.1 ∙ c.0,
    subst (λ b. Line g (pick b (g.b_node p.link) (g.a_node p.link)) l u) (sym c.1) (chain_line (head_n g cw p.link) u l c.2),
  )

  in_closed : (ws : List Walk) → Closed g cw ws → (w : Walk) → Memᴰ w ws → (u : ℕ) × Chain g cw u w.steps u
  in_closed [] c w m = absurd (Memᴰ.not-nil m)
  in_closed (x ∷ ws) c w m =
      ⊎_elim (λ (e : w ≡ x). subst (λ y. (u : ℕ) × Chain g cw u y.steps u) (sym e) c.0) (λ k. in_closed ws c.1 w k) (Memᴰ.cases_cons m)

-- ---- how often a link is walked, two ways to say it
count_append : (k : ℕ) (l m : List ℕ) → count k (l ++ m) ≡ count k l + count k m
unfolding count
count_append k [] m = omega arith
count_append k (x ∷ l) m = omega (arith, count_append k l m)

times_in_lem : (k : ℕ) (l : List Step) → count k (map (λ s. s.link) l) ≡ times_in k l
unfolding count
times_in_lem k [] = refl
times_in_lem k (s ∷ l) = ap (λ n. pick (eqb s.link k) 1 0 + n) (times_in_lem k l)

times_of : (k : ℕ) (ws : List Walk) → count k (links_of ws) ≡ times k ws
unfolding count
times_of k [] = refl
times_of k (w ∷ ws) = omega (arith, count_append k (map (λ s. s.link) w.steps) (links_of ws), times_in_lem k w.steps, times_of k ws)

-- ---- the theorem
module _ (g : Graph) (st : List ℕ) (ok : Sound g st) (turns : NextTurns g st) (cw : Bool) where
  one_end : (x y : End) → UnvisitedEnd st x → link x ≡ link y → node g cw x ≡ node g cw y → x ≡ y
  one_end x y o = same_end g ok.lists cw x y (below g st ok (link x) o)

  in_list : (x : End) → UnvisitedEnd st x → Mem (link x) (g.entries (node g cw x))
  in_list x o = listed g ok.lists cw x (below g st ok (link x) o)

  by_end : (v : ℕ) (x : End) → UnvisitedEnd st x → node g cw x ≡ v → leaves g v (link x) ≡ beq (arrives x) cw
  by_end v (hd k) o n = leave_hd (g.top k) cw (g.a_node k) (g.b_node k) v (ok.lists.differ k (below g st ok k o)) n
  by_end v (tl k) o n = leave_tl (g.top k) cw (g.a_node k) (g.b_node k) v (ok.lists.differ k (below g st ok k o)) n

  C : Cyc End (node g cw) (UnvisitedEnd st) (Met g cw st)
  C = cyc g cw st ok.spread in_list one_end

  by_turns : ByTurns g cw (Met g cw st) (UnvisitedEnd st)
  by_turns v x y ox oy nx ny s =
      let mx : Mem (link x) (g.entries v) = subst (λ u. Mem (link x) (g.entries u)) nx (in_list x ox) in
      let my : Mem (link y) (g.entries v) = subst (λ u. Mem (link y) (g.entries u)) ny (in_list y oy) in
      let r = turns v (link x) (mx, ox) in
      ⊎_elim (λ p. found r my (tl r.0) refl p) (λ p. found r my (hd r.0) refl p) (end_at_lem g ok.lists cw v r.0 r.1.0.0)
    where
      found : (r : (z : ℕ) × (At g st v z × NoneBetween g st v (link x) z) × (leaves g v z ≡ not (leaves g v (link x)))) → Mem (link y) (g.entries v)
          → (ζ : End) → link ζ ≡ r.0 → node g cw ζ ≡ v
          → (z : End) × UnvisitedEnd st z × (node g cw z ≡ v) × (arrives z ≡ not (arrives x)) × Met g cw st x z y
      found r my ζ lz nz =
          let oz : UnvisitedEnd st ζ = subst (Unvisited st) (sym lz) r.1.0.1 in
          let sz : arrives ζ ≡ not (arrives x) =
          sorts (arrives ζ) (arrives x) cw (sym (by_end v ζ oz nz) ∙ ap (leaves g v) lz ∙ r.2 ∙ ap not (by_end v x ox nx)) in (
            ζ,
            oz,
            nz,
            sz,
            ⊎_elim (λ h. h)
                (λ h. absurd
                (r.1.1 (link y) (my, oy)
                (subst (λ k. met_first g true v (link x) (link y) k ≡ true) lz
                (subst (λ u. met_first g true u (link x) (link y) (link ζ) ≡ true) nx h.is))))
                (C.total v x ζ y ox oz oy nx nz ny (λ q. no_not (arrives x) (s ∙ ap arrives (sym q) ∙ sz))),
          )

  scans : Scans g cw (scan g cw st)
  scans = all_ok g ok.lists cw st ok.states C (seen g cw st ok.spread in_list one_end) (met_irr g) (met_trans g) by_turns

  pub tour : Toured g cw st
  tour =
      let r = scans in
      let f = scanned g cw st r.all r.state r.is in
      record {
        found = r.all;
        done = r.is ∙ ap (walks r.all) f.states;
        once = λ k. times_of k r.all ∙ f.once k;
        fill = λ w m. let c = in_closed g cw r.all r.closed w m in chain_fill g cw c.0 c.0 w.steps c.1;
        closed = λ w m. let c = in_closed g cw r.all r.closed w m in (c.0, chain_line g cw c.0 c.0 w.steps c.1);
        area = areas_total g ok.points cw st r.all f.fresh (λ k. ap (λ s. is_unvisited s k) (sym f.states) ∙ f.none k) ok.states
            (below g st ok) r.closed;
      }
