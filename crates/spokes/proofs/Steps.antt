-- One entry is taken: what the search and the linking are lent, and what they leave.
use Prim.Native.Nat.{ℕ, suc, ◌+◌, ◌*◌, ◌-◌, ◌/◌, ◌≤◌, ◌<◌, zero-le}
use native.Mathlib.Omega.{arith}
use native.Mathlib.Decide.{dec_le}
use mathlib.Core.Path.{◌≡◌, refl, sym, ap, ◌∙◌, subst}
use mathlib.Core.Logic.{◌⊎◌, inr, ⊎_elim}
use mathlib.Core.Bool.{false}
use mathlib.Core.List.Memᴰ
use mathlib.Core.List.{List, [], ◌∷◌, ◌++◌, append_assoc}
use lib.IntN.{ℤ}
use lib.ListN.{length, get_or, take, drop, length-drop}
use lib.Seq.{split_at, get_or-drop}
use borrow.Author.Count.{below_more}
use Rattle.laws.specs.Lists.{place_of, member}
use Rattle.turn.specs.declared.Point.{Point}
use Rattle.turn.specs.Points.{differ}
use Rattle.graph.specs.Graph.{Graph, lent, graph_of, point_at}
use Rattle.graph.specs.Checks.{node_at, end_at, stray}
use Rattle.graph.specs.Quick.{stands_before}
use Rattle.graph.specs.Known.{Points, Grids}
use Rattle.spokes.specs.Links.{links_of}
use Rattle.next.specs.Choice.{Mem}
use Rattle.rings.specs.Ends.{end_of, end_node_lem, end_link, end_below}
use Rattle.rings.specs.RingOrder.{Forward}
use Rattle.rings.proofs.RingOrder.{ring_irreflexive}
use Rattle.rings.specs.Rings.{InOrder}
use Rattle.rings.specs.Sorted.{BeforeAll, Sorted, sorted_short}
use Rattle.rings.specs.Linked.{Leads}
use Rattle.rings.specs.Making.{RingOf}
use Rattle.rings.proofs.Making.{take_skipped, take_front, take_after}
use Rattle.rings.specs.Field.{cross_mark, prev_of, end_node, ElseKept}
use Rattle.hoop.specs.declared.Hoop.{Hoop}
use Rattle.hoop.specs.declared.Place.{Place}
use Rattle.hoop.specs.declared.Place.TheVariants.{First, After, Alike}
use Rattle.hoop.specs.Hoops.{Before, Backed, Sought, GoesAfter, Placed, Outcome, put_end, PlaceFits, Fits}
use Rattle.spokes.specs.Entries.{Stood, Told, Held, wrong_at, Laying, Entered}
use Rattle.spokes.proofs.Orders.{in_order, run_alike}
use Rattle.spokes.proofs.Lasts.{last_at, split_two, neighbours}
use Rattle.spokes.proofs.Grows.{both_sides, not_among, Ready, next_is}
use Rattle.spokes.proofs.Holds.{KeptOff, Grown, grown_first, grown_after}
use Rattle.spokes.proofs.Among.{link_there, take_more, own_x, below_f, below_x, forward_f, forward_x, home_x, home_f}
use Rattle.spokes.proofs.Among.{wrong_alike, right_ordered, right_skipped}

module _ {ax ay bx by : List ℤ} {aid bid state here : List ℕ} {v : ℕ} {home : Point} {nxt prv : List ℕ} {j : ℕ} {hoop : Hoop}
    (y : Laying ax ay bx by aid bid state here v home nxt prv j hoop) (jn : j < length here) (own : stray aid bid v (get_or here j 0) ≡ false) where
  abbrev g : Graph
  g = links_of ax ay bx by aid

  abbrev e : ℕ → ℕ
  e = end_of g v

  abbrev f : ℕ
  f = get_or here j 0

  abbrev l : List ℕ
  l = y.held.links

  st : Stood g state v (take j here) nxt prv l
  st = y.held.stood

  told : Told g v l hoop
  told = y.held.told

  -- ---- what the search is lent
  pub own_points : Points ax ay bx by (length ax)
  own_points = let p = y.points in record {
    ax_long = refl;
    ay_long = p.ay_long ∙ sym p.ax_long;
    bx_long = p.bx_long ∙ sym p.ax_long;
    by_long = p.by_long ∙ sym p.ax_long;
  }

  pub own_grids : Grids ax ay bx by (length ax)
  own_grids = record {
    a_grid = λ k h. y.grids.a_grid k (subst (λ n. k < n) y.points.ax_long h);
    b_grid = λ k h. y.grids.b_grid k (subst (λ n. k < n) y.points.ax_long h);
  }

  tail_is : 0 < length l → hoop.tail ≡ e (get_or l (length l - 1) 0)
  tail_is h = told.tailed h ∙ ap e (sym (last_at l h))

  pub backed : Backed e l prv hoop.tail hoop.count
  backed = record {
    counted = told.counted;
    tailed = subst (λ n. 0 < n → hoop.tail ≡ e (get_or l (n - 1) 0)) (sym told.counted) tail_is;
    back = neighbours (λ x z. Leads g v (prev_of prv) z x) l st.linked.back;
  }

  end_in : (i : ℕ) → i < length l → e (get_or l i 0) < 2 * length aid
  end_in i h = end_below g v (get_or l i 0) (length aid) (below_x y jn own (get_or l i 0) (member 0 l i h))

  pub sought : Sought (length ax) prv hoop
  sought = record {
    few = omega (arith, y.points.ax_long, y.few);
    long = omega (arith, y.points.ax_long, y.prv_long);
    ends = e;
    links = l;
    below = λ i h. omega (arith, end_in i h, y.points.ax_long);
    backed = backed;
  }

  -- ---- what the linking is lent
  short : length l ≤ length aid
  short = sorted_short (InOrder g v) l (length aid) (λ x m. ring_irreflexive g v x (forward_x y jn own x m)) st.ring.sorted (below_x y jn own)

  module _ (place : Place) (p : Placed (point_at ax ay) (point_at bx by) home e l (e f) place) where
    pub fits : Fits nxt prv hoop place (e f)
    fits = record {
      n = length aid;
      few = y.few;
      nxt_long = y.nxt_long;
      prv_long = y.prv_long;
      below = end_below g v f (length aid) (below_f y jn own);
      count = omega (arith, told.counted, short);
      hoop_below = λ h. let k : 0 < length l = omega (arith, told.counted) in (
        subst (λ x. x < 2 * length aid) (sym (told.headed k)) (end_in 0 k),
        subst (λ x. x < 2 * length aid) (sym (tail_is k)) (end_in (length l - 1) (omega arith)),
      );
      place_fits = at place p;
    }
      where
        at : (place : Place) → Placed (point_at ax ay) (point_at bx by) home e l (e f) place → PlaceFits (length aid) nxt hoop place
        at First p = tt
        at Alike p = tt
        at (After h) p = (
          omega (arith, told.counted, p.within),
          subst (λ x. x < 2 * length aid) (sym p.here) (end_in p.place p.within),
          λ d. inner d (dec_le (length l) (p.place + 1)),
        )
          where
            inner : (h ≡ hoop.tail → ⊥) → Dec (length l ≤ p.place + 1) → (cross_mark ≤ get_or nxt h 0) × (get_or nxt h 0 < cross_mark + 2 * length aid)
            inner d (yes k) =
                let i : p.place ≡ length l - 1 = omega (arith, p.within) in
                absurd (d (p.here ∙ ap (λ x. e (get_or l x 0)) i ∙ sym (tail_is (omega (arith, p.within)))))
            inner d (no k) =
                let i : p.place + 1 < length l = omega arith in
                let z : get_or nxt h 0 ≡ cross_mark + e (get_or l (p.place + 1) 0) = ap (λ x. get_or nxt x 0) p.here
                ∙ next_is g v (take p.place l) (get_or l p.place 0) (get_or l (p.place + 1) 0) (drop (suc (p.place + 1)) l)
                (subst (Stood g state v (take j here) nxt prv) (split_two l p.place i) st) in
                (omega arith, omega (arith, end_in (p.place + 1) i))

  -- ---- what they leave
  pub record Step (o : Outcome) : Type 0 where
    pub entered : Entered ax ay bx by aid bid state here v home o.nxt o.prv j o.taken
    pub kept_nxt : ElseKept aid bid v nxt o.nxt
    pub kept_prv : ElseKept aid bid v prv o.prv

  -- one more entry has been taken
  taken_one : (nxt' prv' : List ℕ) (hoop' : Hoop) → length nxt' ≡ length nxt → length prv' ≡ length prv
      → wrong_at ax ay bx by aid bid state here v j ≡ false
      → Held g state v (take j here ++ (f ∷ [])) nxt' prv' hoop' → Laying ax ay bx by aid bid state here v home nxt' prv' (j + 1) hoop'
  taken_one nxt' prv' hoop' n p c h = record {
    points = y.points;
    grids = y.grids;
    strict = y.strict;
    same = y.same;
    states = y.states;
    few = y.few;
    nxt_long = omega (arith, y.nxt_long);
    prv_long = omega (arith, y.prv_long);
    first_below = y.first_below;
    home_is = y.home_is;
    clear = below_more (λ k. wrong_at ax ay bx by aid bid state here v k ≡ false) j y.clear c;
    held = subst (λ t. Held g state v t nxt' prv' hoop') (take_more here j jn) h;
  }

  -- only ends at node v have been written
  at_node : (x : ℕ) → stray aid bid v x ≡ false → end_node aid bid (e x) ≡ v
  at_node x n = end_node_lem (graph_of (lent ax ay bx by aid bid [] []) []) v x (link_there aid bid v x n)

  kept_off : (old new : List ℕ) → KeptOff g v (f ∷ l) old new → ElseKept aid bid v old new
  kept_off old new k h d = k h (λ x m q. d (subst (λ z. end_node aid bid z ≡ v) (sym q) (⊎_elim
      (λ (p : x ≡ f). subst (λ z. end_node aid bid (e z) ≡ v) (sym p) (at_node f own)) (λ i. at_node x (own_x y jn own x i)) (Memᴰ.cases_cons m))))

  module _ (same : differ home (end_at (point_at ax ay) (point_at bx by) (node_at aid) v f) ≡ false) where
    -- a skipped entry changes nothing
    pub skip_entry : get_or state f 0 ≡ 1 → stands_before here j f ≡ false → Laying ax ay bx by aid bid state here v home nxt prv (j + 1) hoop
    skip_entry s n = taken_one nxt prv hoop refl refl (right_skipped y jn own same s n) (record {
      links = l;
      stood = record { ring = take_skipped f st.ring s; linked = st.linked; marked = st.marked; last = st.last };
      told = told;
    })

    module _ (unskipped : get_or state f 0 ≡ 1 → ⊥) where
      -- f has been put at its place
      put_step : (order : (x : ℕ) → Mem x l → InOrder g v x f ⊎ InOrder g v f x) → (o : Outcome)
          → (Ready g v (length aid) nxt prv l f → Grown g state v (take j here ++ (f ∷ [])) nxt prv (f ∷ l) o) → Step o
      put_step order o grow =
          let new = not_among g v f l (forward_f y jn own) order in
          let w = grow (record {
            few = y.few;
            nxt_long = y.nxt_long;
            prv_long = y.prv_long;
            forward = λ x m. ⊎_elim (λ (p : x ≡ f). subst (Forward g) (sym p) (forward_f y jn own)) (forward_x y jn own x) (Memᴰ.cases_cons m);
            below = λ x m. ⊎_elim (λ (p : x ≡ f). subst (λ z. z < length aid) (sym p) (below_f y jn own)) (below_x y jn own x) (Memᴰ.cases_cons m);
            new = new;
          }) in
          record {
            entered = subst (Entered ax ay bx by aid bid state here v home o.nxt o.prv j) (sym w.makes_it)
                (taken_one o.nxt o.prv w.hoop w.nxt_len w.prv_len (right_ordered y jn own unskipped order new same) w.held);
            kept_nxt = kept_off nxt o.nxt w.kept_nxt;
            kept_prv = kept_off prv o.prv w.kept_prv;
          }

      -- the order of ends is that of links
      after_f : (x : ℕ) → Mem x l → Before (point_at ax ay) (point_at bx by) home (e f) (e x) → InOrder g v f x
      after_f x m t = in_order g v home f x (home_f y jn own same) (home_x y jn own x m) t

      first_step : Placed (point_at ax ay) (point_at bx by) home e l (e f) First → Step (put_end nxt prv hoop First (e f))
      first_step p =
          put_step (λ x m. inr (all x m)) (put_end nxt prv hoop First (e f))
          (λ h. grown_first l h st told (take_front f l st.ring unskipped all))
        where
          all : BeforeAll (InOrder g v) f l
          all x m = let i = place_of 0 l m in
              subst (InOrder g v f) i.here (after_f (get_or l i.place 0) (member 0 l i.place i.within) (p i.place zero-le i.within))

      -- after r, which stands behind s
      behind_step : (s : List ℕ) (r : ℕ) (t : List ℕ) → l ≡ s ++ (r ∷ t) → InOrder g v r f → BeforeAll (InOrder g v) f t
          → Step (put_end nxt prv hoop (After (e r)) (e f))
      behind_step s r t is first rest =
          put_step (λ x m. both_sides (InOrder g v) (s ++ (r ∷ [])) t f (subst (Sorted (InOrder g v)) (sym (append_assoc s (r ∷ []) (f ∷ t))) ring.sorted)
          x (subst (Mem x) (is ∙ sym (append_assoc s (r ∷ []) t)) m)) (put_end nxt prv hoop (After (e r)) (e f))
          (λ h. subst (λ m. Grown g state v (take j here ++ (f ∷ [])) nxt prv (f ∷ m) (put_end nxt prv hoop (After (e r)) (e f))) (sym is)
          (grown_after s r t (subst (λ m. Ready g v (length aid) nxt prv m f) is h) (subst (Stood g state v (take j here) nxt prv) is st)
          (subst (λ m. Told g v m hoop) is told) ring))
        where
          forward : (x : ℕ) → Mem x (f ∷ (s ++ (r ∷ t))) → Forward g x
          forward x m = ⊎_elim (λ (p : x ≡ f). subst (Forward g) (sym p) (forward_f y jn own))
              (λ i. forward_x y jn own x (subst (Mem x) (sym is) i)) (Memᴰ.cases_cons m)

          ring : RingOf g state v (take j here ++ (f ∷ [])) (s ++ (r ∷ (f ∷ t)))
          ring = take_after f s r t (subst (RingOf g state v (take j here)) is st.ring) unskipped forward first rest

      after_step : (h : ℕ) → GoesAfter (point_at ax ay) (point_at bx by) home e l (e f) h → Step (put_end nxt prv hoop (After h) (e f))
      after_step h p =
          subst (λ x. Step (put_end nxt prv hoop (After x) (e f))) (sym p.here)
          (behind_step (take i l) r (drop (suc i) l) (split_at l i 0 p.within)
          (in_order g v home r f (home_x y jn own r in_r) (home_f y jn own same)
          (subst (λ x. Before (point_at ax ay) (point_at bx by) home x (e f)) p.here p.first)) rest)
        where
          i : ℕ
          i = p.place

          r : ℕ
          r = get_or l i 0

          in_r : Mem r l
          in_r = member 0 l i p.within

          rest : BeforeAll (InOrder g v) f (drop (suc i) l)
          rest x m =
              let k = place_of 0 (drop (suc i) l) m in
              let n : suc i + k.place < length l = omega (arith, k.within, length-drop (suc i) l) in
              subst (InOrder g v f) (sym (get_or-drop (suc i) l k.place 0) ∙ k.here)
              (after_f (get_or l (suc i + k.place) 0) (member 0 l (suc i + k.place) n) (p.rest (suc i + k.place) (omega arith) n))

      -- by its place
      pub place_step : (place : Place) → Placed (point_at ax ay) (point_at bx by) home e l (e f) place → Step (put_end nxt prv hoop place (e f))
      place_step First p = first_step p
      place_step (After h) p = after_step h p
      place_step Alike p =
          let m = member 0 l p.place p.within in
          record {
            entered = wrong_alike y jn own unskipped (get_or l p.place 0) m
                (run_alike g v home (get_or l p.place 0) f (home_x y jn own _ m) (home_f y jn own same) (forward_x y jn own _ m)
                (forward_f y jn own) p.parallel);
            kept_nxt = λ h d. refl;
            kept_prv = λ h d. refl;
          }

  -- ---- the same of a number q that is f's end, as the code has it
  module _ (q : ℕ) (is : q ≡ e f) where
    pub end_link_below : q / 2 < length ax
    end_link_below = subst (λ x. x / 2 < length ax) (sym is) (omega (arith, end_link g v f, below_f y jn own, y.points.ax_long))

    module _ (place : Place) (p : Placed (point_at ax ay) (point_at bx by) home e l q place) where
      placed : Placed (point_at ax ay) (point_at bx by) home e l (e f) place
      placed = subst (λ x. Placed (point_at ax ay) (point_at bx by) home e l x place) is p

      pub fits_at : Fits nxt prv hoop place q
      fits_at = subst (Fits nxt prv hoop place) (sym is) (fits place placed)

      pub step_at_lem : differ home (end_at (point_at ax ay) (point_at bx by) (node_at aid) v f) ≡ false → (get_or state f 0 ≡ 1 → ⊥) → (o : Outcome)
          → o ≡ put_end nxt prv hoop place q → Step o
      step_at_lem same unskipped o z =
          subst Step (sym (z ∙ ap (put_end nxt prv hoop place) is)) (place_step same unskipped place placed)
