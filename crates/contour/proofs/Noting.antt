-- A walk, as the code notes it: what the walk left, the counts after it.
use Rattle.std.specs.Prelude.{Result, Ok, Err}
use Prim.Native.Nat.{ℕ, ◌+◌, ◌*◌, ◌-◌, ◌≤◌, ◌<◌}
use mathlib.Core.Path.{◌≡◌, refl, sym, ap, ◌∙◌, subst}
use mathlib.Core.Bool.{Bool, true, false, true≢false}
use mathlib.Core.List.{List, map}
use native.Mathlib.Omega.{arith}
use lib.ListN.{length}
use lib.IntN.{ℤ, nat_abs}
use Rattle.laws.specs.Test.{pick}
use Rattle.turn.specs.Limits.{max_links}
use Rattle.turn.specs.Area.{area, wedge_bound}
use Rattle.turn.specs.Size.{is_kept}
use Rattle.graph.specs.Graph.{Graph}
use Rattle.next.specs.Next.{unvisited}
use Rattle.keep.specs.declared.Counts.{Counts}
use Rattle.walk.specs.declared.Finished.{Finished}
use Rattle.keep.specs.Tables.{sum_within, Tables, tables, enter, enter_kept, enter_rejected, noted, Within}
use Rattle.walk.specs.Walk.{Step, Walk, Walked, stuck, done, left, mark_of}
use Rattle.keep.specs.Ledger.{kept_three}
use Rattle.walk.specs.Code.{paste, Marks, finished, WalkLeaves, Counted, Sized}
use Rattle.contour.specs.Notes.{WalkNoted, Fewer, within_less, entered}
use Rattle.turn.specs.declared.Reason.{Reason}
use Rattle.contour.specs.declared.Entered.{Entered}

pub marks_of : (hole : Bool) → Marks (mark_of hole)
marks_of true = omega arith
marks_of false = omega arith

-- ---- what the walk was, by how the code ended
pub record Finish (g : Graph) (pts : List ℤ) (at : ℕ) (o : Walked) (f : Finished) (st' : List ℕ) (pts' : List ℤ) : Type 0 where
  pub steps : List Step
  pub is : o ≡ done steps st'
  pub end : f.to ≡ at + length steps
  pub area_is : f.area ≡ area (map (left g) steps)
  pub written : pts' ≡ paste pts at (map (left g) steps)

module _ (g : Graph) (pts : List ℤ) (at : ℕ) (r : Result Finished Reason) (st' : List ℕ) (pts' : List ℤ) where
  pub finish : (o : Walked) (f : Finished) → WalkLeaves g pts at o r st' pts' → r ≡ Ok f → Finish g pts at o f st' pts'
  finish (stuck reason) f h e = absurd (true≢false (cc))
  finish (done l st) f h e =
      let d : Finished = finished (at + length l) (area (map (left g) l)) in
      let q : Ok f ≡ Ok d = sym e ∙ h.0 in
      let z : f ≡ d = cc in
      record {
        steps = l;
        is = ap (done l) (sym h.1);
        end = ap (λ (x : Finished). x.to) z;
        area_is = ap (λ (x : Finished). x.area) z;
        written = h.2;
      }

  pub stuck_at : (o : Walked) (reason : Reason) → WalkLeaves g pts at o r st' pts' → r ≡ Err reason → o ≡ stuck reason
  stuck_at (stuck k) reason h e = let q : Err k ≡ Err reason = sym h ∙ e in let z : k ≡ reason = cc in ap stuck z
  stuck_at (done l st) reason h e =
      let q : Ok (finished (at + length l) (area (map (left g) l))) ≡ Err reason = sym h.0 ∙ e in absurd (true≢false (cc))

-- ---- the counts after a walk
module _ (minimum : ℕ) (hole : Bool) (n size rest : ℕ) (a : ℤ) (t : Tables) (w : Within n (size + rest) t.counts) (some : 1 ≤ size)
    (b : nat_abs a ≤ size * (2 * wedge_bound)) where
  within_enter : Within n rest (enter minimum hole size a t).counts
  within_enter = by (is_kept size a minimum) refl
    where
      by : (k : Bool) → is_kept size a minimum ≡ k → Within n rest (pick k (enter_kept hole size a t) (enter_rejected size a t)).counts
      by true e =
          let three = kept_three size a minimum e in
          record {
            links = omega (arith, w.links);
            points = omega (arith, w.points);
            contours = omega (arith, w.contours, three);
            rejected = omega (arith, w.rejected);
            kept_area = sum_within t.counts.kept_area a t.counts.walked size w.kept_area b;
            rejected_area = omega (arith, w.rejected_area);
          }
      by false e = record {
        links = omega (arith, w.links);
        points = omega (arith, w.points);
        contours = w.contours;
        rejected = omega (arith, w.rejected);
        kept_area = omega (arith, w.kept_area);
        rejected_area = sum_within t.counts.rejected_area a t.counts.walked size w.rejected_area b;
      }

-- ---- one walk noted: the counts c before it, its points from number `c.points` on
module _ (n : ℕ) (st st' : List ℕ) (c : Counts) (w : Within n (unvisited st) c) (f : Finished) (r : Result Finished Reason) (e : r ≡ Ok f)
    (some : Counted (c.points + 1) c.points st st' r) (sized : Sized c.points r) where
  abbrev size : ℕ
  size = f.to - c.points

  pub counted : (c.points + 1 ≤ f.to) × (f.to + unvisited st' ≡ c.points + unvisited st)
  counted = subst (Counted (c.points + 1) c.points st st') e some

  pub area_within : nat_abs f.area ≤ size * (2 * wedge_bound)
  area_within = let b : nat_abs f.area ≤ size * wedge_bound = subst (Sized c.points) e sized in omega arith

  pub to_fits : f.to ≤ n
  to_fits = omega (arith, counted.1, w.points, w.links)

  pub walk_within : n ≤ max_links → Within max_links size c
  walk_within few = within_less n max_links (unvisited st) size c w (omega (arith, counted.0, counted.1)) few

  pub area_small : n ≤ max_links → nat_abs f.area < 9223372036854775808
  area_small few = omega (arith, area_within, to_fits)

  -- as the code enters it
  module _ (minimum : ℕ) (hole : Bool) (first len kind first' len' kind' : List ℕ) (d : Counts)
      (q : (pts : List ℤ) → tables pts first' len' kind' d ≡ enter minimum hole size f.area (tables pts first len kind c)) where
    pub walk_fewer : (pts : List ℤ) (s : ℕ) → Fewer n st st' (entered d s)
    walk_fewer pts s =
        let u : unvisited st ≡ size + unvisited st' = omega (arith, counted.0, counted.1) in (
          omega (arith, counted.0, counted.1),
          subst (Within n (unvisited st')) (sym (ap (λ (x : Tables). x.counts) (q pts)))
              (within_enter minimum hole n size (unvisited st') f.area (tables pts first len kind c)
              (subst (λ k. Within n k c) u w) (omega (arith, counted.0)) area_within),
        )

    module _ (g : Graph) (pts pts' : List ℤ) (o : Walked) (h : Finish g pts c.points o f st' pts') where
      abbrev walked : Walk
      walked = record { hole = hole; steps = h.steps }

      entered_is : tables pts' first' len' kind' d ≡ noted g minimum (tables pts first len kind c) walked
      entered_is =
          let z : size ≡ length h.steps = omega (arith, h.end) in
          q pts' ∙ ap (λ k. enter minimum hole k f.area (tables pts' first len kind c)) z
          ∙ ap (λ a. enter minimum hole (length h.steps) a (tables pts' first len kind c)) h.area_is
          ∙ ap (λ p. enter minimum hole (length h.steps) (area (map (left g) h.steps)) (tables p first len kind c)) h.written

      pub walk_noted : (s : ℕ) → WalkNoted g minimum (tables pts first len kind c) hole s o (entered d s) st' pts' first' len' kind'
      walk_noted s =
          subst (λ x. WalkNoted g minimum (tables pts first len kind c) hole s x (entered d s) st' pts' first' len' kind') (sym h.is) (
            ap (λ (x : Tables). entered x.counts s) entered_is,
            refl,
            ap (λ (x : Tables). x.points) entered_is,
            ap (λ (x : Tables). x.first) entered_is,
            ap (λ (x : Tables). x.len) entered_is,
            ap (λ (x : Tables). x.kind) entered_is,
          )

pub stuck_noted : (g : Graph) (minimum : ℕ) (t : Tables) (hole : Bool) (s : ℕ) (o : Walked) (reason : Reason) (r : Result Entered Reason)
    (st' : List ℕ) (pts' : List ℤ) (first len kind : List ℕ)
    → o ≡ stuck reason → r ≡ Err reason → WalkNoted g minimum t hole s o r st' pts' first len kind
stuck_noted g minimum t hole s o reason r st' pts' first len kind e q = subst (λ x. WalkNoted g minimum t hole s x r st' pts' first len kind) (sym e) q
