-- The scan's loop: what it keeps, and one law for each way out of a turn.
use Rattle.std.specs.Prelude.{Option, Some, None, Result, Ok, Err}
use Prim.Native.Nat.{ℕ, suc, ◌+◌, ◌≤◌, ◌<◌}
use mathlib.Core.Path.{◌≡◌, refl, sym, ap, ◌∙◌, subst}
use mathlib.Core.Bool.{Bool, true, false, true≢false}
use mathlib.Core.List.{List, []}
use native.Mathlib.Omega.{arith}
use native.Mathlib.Decide.{dec_le}
use lib.ListN.{length}
use lib.IntN.{ℤ}
use borrow.Author.Tests.{lt-ltb, le-ltb}
use borrow.Author.Count.{below_more}
use Rattle.laws.specs.Lowest.{NoneBelow, none, found}
use Rattle.graph.specs.Graph.{Graph}
use Rattle.next.specs.Next.{is_unvisited, unvisited, first_link}
use Rattle.keep.specs.declared.Counts.{Counts}
use Rattle.walk.specs.Walk.{Walk, Walked, stuck, done}
use Rattle.scan.specs.Scan.{walk_of, Scanned, stopped, walks, cons_walk, after_walk, scan_at, lowest_unvisited, scan_on}
use Rattle.scan.specs.Enough.{scan_enough}
use Rattle.keep.specs.Tables.{Tables, tables, noted, Within, no_counts}
use Rattle.contour.specs.Notes.{WalkNoted, Fewer, entered, entered_same}
use Rattle.scan.specs.Notes.{FirstNoted, ScanLeaves}
use Rattle.scan.specs.Held.{Held, no_link, one_link, named_then}
use Rattle.walk.specs.Code.{Kept}
use Rattle.walk.specs.Marks.{kept_none, kept_then}
use Rattle.walk.specs.States.{unvisited_some}
use Rattle.turn.specs.Refusals.{refused}
use Rattle.turn.specs.declared.Reason.{Reason}
use Rattle.turn.specs.declared.Reason.TheVariants.{NoNextLink}
use Rattle.turn.specs.declared.Refusal.{Refusal}
use Rattle.contour.specs.declared.Entered.{Entered}

-- ---- where the scan stands
module _ (g : Graph) (cw : Bool) (st : List ℕ) where
  abbrev after : List ℕ → Scanned
  after s = scan_on (unvisited st) g cw s

  pub stands : (k : ℕ) → NoneBelow (is_unvisited st) k → k < length st → is_unvisited st k ≡ true → scan_on (suc (unvisited st)) g cw st
      ≡ scan_at g cw after st k (first_link g st k)
  unfolding scan_on
  stands k h l o =
      let e : lowest_unvisited st ≡ k = found (is_unvisited st) (length st) k l h o in
      rw (e, lt-ltb k (length st) l)

  pub over : NoneBelow (is_unvisited st) (length st) → scan_on (suc (unvisited st)) g cw st ≡ walks [] st
  unfolding scan_on
  over h =
      let e : lowest_unvisited st ≡ length st = none (is_unvisited st) (length st) h in
      rw (e, le-ltb (length st) (length st) (omega arith))

-- ---- one walk, then the others
module _ (g : Graph) (cw : Bool) (minimum : ℕ) (t : Tables) (st : List ℕ) (k : ℕ) (go : List ℕ → Scanned) (st' : List ℕ) (pts' : List ℤ)
    (first' len' kind' : List ℕ) where
  module _ (reason : Reason) (r : Result Counts Refusal) (s : List ℕ) (p : List ℤ) (a b c : List ℕ) (q : r ≡ refused reason k) where
    stuck_after : (hole : Bool) (f : ℕ) (o : Walked) → WalkNoted g minimum t hole f o (Err reason) st' pts' first' len' kind'
        → ScanLeaves g minimum t (after_walk k hole go o) r s p a b c
    stuck_after hole f (stuck m) h = let e : reason ≡ m = cc in q ∙ ap (λ x. refused x k) e
    stuck_after hole f (done l u) h = absurd (true≢false (cc))

    pub scan_stuck : (n : Option ℕ) → FirstNoted g cw minimum t st n (Err reason) st' pts' first' len' kind'
        → ScanLeaves g minimum t (scan_at g cw go st k n) r s p a b c
    scan_stuck None h = let e : reason ≡ NoNextLink = cc in q ∙ ap (λ x. refused x k) e
    scan_stuck (Some f) h = stuck_after (g.top f) f (walk_of g cw st f) h

  module _ (d : Counts) (from : ℕ) (r : Result Counts Refusal) (s : List ℕ) (p : List ℤ) (a b c : List ℕ) where
    walk_first : (w : Walk) (o : Scanned) → ScanLeaves g minimum (noted g minimum t w) o r s p a b c → ScanLeaves g minimum t (cons_walk w o) r s p a b c
    walk_first w (stopped reason place) h = h
    walk_first w (walks ws u) h = h

    entered_after : (hole : Bool) (f : ℕ) (o : Walked) → WalkNoted g minimum t hole f o (entered d from) st' pts' first' len' kind'
        → ScanLeaves g minimum (tables pts' first' len' kind' d) (go st') r s p a b c → ScanLeaves g minimum t (after_walk k hole go o) r s p a b c
    entered_after hole f (stuck m) h i = absurd (true≢false (cc))
    entered_after hole f (done l u) h i =
        let w : Walk = record { hole = hole; steps = l } in
        let e : d ≡ (noted g minimum t w).counts = (entered_same _ _ from f h.0).0 in
        let q : tables pts' first' len' kind' d ≡ noted g minimum t w = λ j. tables (h.2 j) (h.3 j) (h.4 j) (h.5 j) (e j) in
        walk_first w (go u)
        (subst (λ x. ScanLeaves g minimum (noted g minimum t w) (go x) r s p a b c) h.1
        (subst (λ x. ScanLeaves g minimum x (go st') r s p a b c) q i))

    pub scan_entered : (n : Option ℕ) → FirstNoted g cw minimum t st n (entered d from) st' pts' first' len' kind'
        → ScanLeaves g minimum (tables pts' first' len' kind' d) (go st') r s p a b c → ScanLeaves g minimum t (scan_at g cw go st k n) r s p a b c
    scan_entered None h i = absurd (true≢false (cc))
    scan_entered (Some f) h i = entered_after (g.top f) f (walk_of g cw st f) h i

-- ---- what the loop keeps: what the scan leaves from here it leaves from the loop's start; no link below k is unvisited
-- for every graph that the field of ends is one of
pub record Scanning (Of : Graph → Type 0) (cw : Bool) (minimum n : ℕ) (st₀ : List ℕ) (pts₀ : List ℤ) (first₀ len₀ kind₀ : List ℕ) (k : ℕ)
    (held : Option ℕ) (c : Counts) (st : List ℕ) (pts : List ℤ) (first len kind : List ℕ) : Type 0 where
  pub leaves : (g : Graph) → Of g → (r : Result Counts Refusal) (s : List ℕ) (p : List ℤ) (x y z : List ℕ) → ScanLeaves g minimum (tables pts first len kind c)
      (scan_on (suc (unvisited st)) g cw st) r s p x y z
      → ScanLeaves g minimum (tables pts₀ first₀ len₀ kind₀ no_counts) (scan_on (suc (unvisited st₀)) g cw st₀) r s p x y z
  pub passed : NoneBelow (is_unvisited st) k
  pub holds : (g : Graph) → Of g → Held g st k held
  pub in_links : k ≤ n
  pub all_links : length st₀ ≡ n
  pub within : Within n (unvisited st) c
  pub kept : Kept st₀ st
  pub points_length : length pts ≡ length pts₀
  pub first_length : length first ≡ length first₀
  pub len_length : length len ≡ length len₀
  pub kind_length : length kind ≡ length kind₀

module _ (Of : Graph → Type 0) (cw : Bool) (minimum n : ℕ) (st₀ : List ℕ) (pts₀ : List ℤ) (first₀ len₀ kind₀ : List ℕ) (k : ℕ)
    (held : Option ℕ) (c : Counts) (st : List ℕ) (pts : List ℤ) (first len kind : List ℕ)
    (i : Scanning Of cw minimum n st₀ pts₀ first₀ len₀ kind₀ k held c st pts first len kind) where
  all : length st ≡ n
  all = i.kept.len ∙ i.all_links

  -- link k is visited or skipped: the scan moves on
  pub scan_moves : k < n → is_unvisited st k ≡ false → Scanning Of cw minimum n st₀ pts₀ first₀ len₀ kind₀ (k + 1) None c st pts first len kind
  scan_moves l e = record {
    leaves = i.leaves;
    passed = below_more (λ j. is_unvisited st j ≡ false) k i.passed e;
    holds = λ g _. no_link g st (k + 1);
    in_links = omega arith;
    all_links = i.all_links;
    within = i.within;
    kept = i.kept;
    points_length = i.points_length;
    first_length = i.first_length;
    len_length = i.len_length;
    kind_length = i.kind_length;
  }

  -- and the lowest that is unvisited is not below k
  pub lowest_here : (x : ℕ) → is_unvisited st x ≡ true → k ≤ x
  lowest_here x o = elim (dec_le k x) [ yes h ↦ h | no m ↦ absurd (true≢false (sym o ∙ i.passed x (under m))) ]
    where
      under : (k ≤ x → ⊥) → x < k
      under m = omega arith

  module _ (l : k < n) (o : is_unvisited st k ≡ true) (st' : List ℕ) (pts' : List ℤ) (first' len' kind' : List ℕ) where
    here : (g : Graph) → scan_on (suc (unvisited st)) g cw st ≡ scan_at g cw (λ s. scan_on (unvisited st) g cw s) st k (first_link g st k)
    here g = stands g cw st k i.passed (rw all l) o

    -- its walk is refused
    pub scan_refused : (g : Graph) → Of g → (v : Result Entered Reason) (reason : Reason) → v ≡ Err reason
        → FirstNoted g cw minimum (tables pts first len kind c) st (first_link g st k) v st' pts' first' len' kind'
        → (r : Result Counts Refusal) (s : List ℕ) (p : List ℤ) (x y z : List ℕ) → r ≡ refused reason k
        → ScanLeaves g minimum (tables pts₀ first₀ len₀ kind₀ no_counts) (scan_on (suc (unvisited st₀)) g cw st₀) r s p x y z
    scan_refused g a v reason e f r s p x y z q =
        i.leaves g a r s p x y z
        (rw (here g) (scan_stuck g cw minimum (tables pts first len kind c) st k
        (λ s. scan_on (unvisited st) g cw s) st' pts' first' len' kind' reason r s p x y z q (first_link g st k) (rw e at f)))

    -- its walk is entered
    pub scan_again : (v : Result Entered Reason) (d : Counts) (f : ℕ) → v ≡ entered d f
        → ((g : Graph) → Of g → FirstNoted g cw minimum (tables pts first len kind c) st (first_link g st k) v st' pts' first' len' kind')
        → Fewer n st st' v → Kept st st'
        → length pts' ≡ length pts → length first' ≡ length first → length len' ≡ length len → length kind' ≡ length kind
        → Scanning Of cw minimum n st₀ pts₀ first₀ len₀ kind₀ k (Some f) d st' pts' first' len' kind'
    scan_again v d s e f u m lp lf ll lk =
        let w : Fewer n st st' (entered d s) = rw e at u in
        record {
          leaves = λ g a r v p x y z h. i.leaves g a r v p x y z
              (rw (here g) (scan_entered g cw minimum (tables pts first len kind c) st k
              (λ s. scan_on (unvisited st) g cw s) st' pts' first' len' kind' d s r v p x y z (first_link g st k) (rw e at (f g a)) (rw (enough g w.0) at h)));
          passed = λ j a. m.closed j (i.passed j a);
          holds = λ g a. one_link g st' k s
              (named_then g cw minimum (tables pts first len kind c) st k st' pts' first' len' kind' d s o lowest_here m (rw e at (f g a)));
          in_links = i.in_links;
          all_links = i.all_links;
          within = w.1;
          kept = kept_then i.kept m;
          points_length = lp ∙ i.points_length;
          first_length = lf ∙ i.first_length;
          len_length = ll ∙ i.len_length;
          kind_length = lk ∙ i.kind_length;
        }
      where
        enough : (g : Graph) → unvisited st' < unvisited st → scan_on (suc (unvisited st')) g cw st' ≡ scan_on (unvisited st) g cw st'
        enough g u = scan_enough g cw (suc (unvisited st')) (unvisited st) st' (omega arith) u

  -- past the last link
  pub scan_over : n ≤ k → (g : Graph) → Of g
      → ScanLeaves g minimum (tables pts₀ first₀ len₀ kind₀ no_counts) (scan_on (suc (unvisited st₀)) g cw st₀) (Ok c) st pts first len kind
  scan_over h g a =
      i.leaves g a (Ok c) st pts first len kind
      (rw (over g cw st (λ j a. i.passed j (below j a))) (refl, refl, refl, refl, refl, refl))
    where
      below : (j : ℕ) → j < length st → j < k
      below j a = omega (arith, i.kept.len, i.all_links)

-- ---- before the first link
pub none_yet : (Of : Graph → Type 0) (cw : Bool) (minimum : ℕ) (st : List ℕ) (pts : List ℤ) (first len kind : List ℕ)
    → Scanning Of cw minimum (length st) st pts first len kind 0 None no_counts st pts first len kind
none_yet Of cw minimum st pts first len kind = record {
  leaves = λ g a r s p x y z h. h;
  passed = λ j h. absurd (nothing j h);
  holds = λ g _. no_link g st 0;
  in_links = omega arith;
  all_links = refl;
  within = record {
    links = omega (arith, unvisited_some st);
    points = omega arith;
    contours = omega arith;
    rejected = omega arith;
    kept_area = omega arith;
    rejected_area = omega arith;
  };
  kept = kept_none st;
  points_length = refl;
  first_length = refl;
  len_length = refl;
  kind_length = refl;
}
  where
    nothing : (j : ℕ) → j < 0 → ⊥
    nothing j h = omega arith

pub fewer_of : (n : ℕ) (st st' : List ℕ) (v : Result Entered Reason) (d : Counts) (s : ℕ) → v ≡ entered d s → Fewer n st st' v → unvisited st' < unvisited st
fewer_of n st st' v d s e h = let w : Fewer n st st' (entered d s) = rw e at h in w.0
