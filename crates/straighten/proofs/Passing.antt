-- The pass over one contour: what is written so far and the corners of what is still to be read make the corners of the whole.
use Prim.Native.Nat.{ℕ, zero, suc, ◌+◌, ◌*◌, ◌-◌, ◌≤◌, ◌<◌}
use native.Mathlib.Omega.{arith}
use mathlib.Core.Path.{◌≡◌, refl, sym, ap, ◌∙◌, subst}
use mathlib.Core.Bool.{Bool, true, false}
use mathlib.Core.List.{List, [], ◌∷◌}
use lib.ListN.{length, get_or, set, length-set}
use lib.Seq.{get_or-set_other}
use lib.IntN.{ℤ, pos}
use Rattle.laws.specs.Test.{pick}
use Rattle.turn.specs.declared.Point.{Point}
use Rattle.turn.specs.declared.Vector.{Vector}
use Rattle.turn.specs.Points.{OnGrid, Short, from_to}
use Rattle.leave.specs.Points.{put}
use Rattle.walk.specs.Code.{paste}
use Rattle.table.specs.Table.{point_in}
use Rattle.straight.specs.Straight.{on_line, last_or}
use Rattle.straight.specs.Corners.{corners, all_corners}
use Rattle.straighten.specs.Runs.{level, run, RunOnGrid}
use Rattle.straighten.proofs.Tests.{by_edges}

-- ---- a point that is written leaves the others
pub put_other : (l : List ℤ) (at : ℕ) (p : Point) (k : ℕ) → at < k → point_in (put l at p) k ≡ point_in l k
put_other l at p k h = λ i. record { x = xs i; y = ys i }
  where
    other : (j : ℕ) → at * 2 + 1 < j → get_or (put l at p) j (pos 0) ≡ get_or l j (pos 0)
    other j n = get_or-set_other (set l (at * 2) p.x) (at * 2 + 1) j p.y (pos 0) (λ e. omega arith)
        ∙ get_or-set_other l (at * 2) j p.x (pos 0) (λ e. omega arith)

    xs : get_or (put l at p) (k * 2) (pos 0) ≡ get_or l (k * 2) (pos 0)
    xs = other (k * 2) (omega arith)

    ys : get_or (put l at p) (k * 2 + 1) (pos 0) ≡ get_or l (k * 2 + 1) (pos 0)
    ys = other (k * 2 + 1) (omega arith)

put_length : (l : List ℤ) (at : ℕ) (p : Point) → length (put l at p) ≡ length l
put_length l at p = length-set (set l (at * 2) p.x) (at * 2 + 1) p.y ∙ length-set l (at * 2) p.x

-- ---- the invariant
module _ (l : List ℤ) (from size to : ℕ) where
  abbrev home : Point
  home = point_in l from

  abbrev end : ℕ
  end = from + size

  -- the corners still to be written, where point number i comes after p, and p after prev
  abbrev rest : Point → Point → ℕ → List Point
  rest prev p i = corners prev home (p ∷ run l i (end - i))

  abbrev whole : List Point
  whole = all_corners (run l from size)

  pub record Passing (now : List ℤ) (prev p : Point) (w i : ℕ) : Type 0 where
    pub past : from < i
    pub behind : w < i
    pub prev_grid : OnGrid prev
    pub p_grid : OnGrid p
    pub long : length now ≡ length l
    pub unread : (k : ℕ) → i ≤ k → point_in now k ≡ point_in l k
    pub written : paste now w (rest prev p i) ≡ paste l to whole
    pub count : w + length (rest prev p i) ≡ to + length whole

  -- the code holds the edge to p, and not the point before it
  pub record PassingBy (now : List ℤ) (u : Vector) (p : Point) (w i : ℕ) : Type 0 where
    pub prev : Point
    pub edge : u ≡ from_to prev p
    pub short : Short u
    pub passing : Passing now prev p w i

  module _ (grid : RunOnGrid l from size) where
    -- ---- at the first point
    last_run : (n : ℕ) (k : ℕ) → last_or (point_in l k) (run l (k + 1) n) ≡ point_in l (k + n)
    last_run zero k = ap (point_in l) (none k)
      where
        none : (k : ℕ) → k ≡ k + 0
        none k = omega arith
    last_run (suc n) k = last_run n (k + 1) ∙ ap (point_in l) (more k n)
      where
        more : (k n : ℕ) → k + 1 + n ≡ k + suc n
        more k n = omega arith

    whole_is : 0 < size → whole ≡ rest (point_in l (end - 1)) home (from + 1)
    whole_is h = by size h refl
      where
        by : (n : ℕ) → 0 < n → n ≡ size → all_corners (run l from n) ≡ corners (point_in l (from + n - 1)) home
            (home ∷ run l (from + 1) (from + n - (from + 1)))
        by zero h e = absurd (nothing h)
          where
            nothing : 0 < 0 → ⊥
            nothing h = omega arith
        by (suc n) h e =
            let m : from + suc n - (from + 1) ≡ n = omega arith in
            let k : from + suc n - 1 ≡ from + n = omega arith in
            rw (m, k) (ap (λ (z : Point). corners z home (home ∷ run l (from + 1) n)) (last_run n from))

    pub starts : to ≤ from → 0 < size → Passing l (point_in l (end - 1)) home to (from + 1)
    starts h k = record {
      past = omega arith;
      behind = omega arith;
      prev_grid = grid (end - 1) (omega arith) (omega arith);
      p_grid = grid from (omega arith) (omega arith);
      long = refl;
      unread = λ _ _. refl;
      written = ap (paste l to) (sym (whole_is k));
      count = ap (λ (c : List Point). to + length c) (sym (whole_is k));
    }

    -- ---- at each point after it
    -- what is still to be written at point i, by whether p is a corner
    rest_next : (prev p : Point) (i : ℕ) → i < end
        → rest prev p i ≡ pick (on_line prev p (point_in l i)) (rest p (point_in l i) (i + 1)) (p ∷ rest p (point_in l i) (i + 1))
    rest_next prev p i k = let e : end - i ≡ suc (end - (i + 1)) = omega arith in ap (λ n. corners prev home (p ∷ run l i n)) e

    paste_by : (now : List ℤ) (w : ℕ) (p : Point) (c : List Point) (b : Bool)
        → paste (pick b now (put now w p)) (pick b w (w + 1)) c ≡ paste now w (pick b c (p ∷ c))
    paste_by now w p c true = refl
    paste_by now w p c false = refl

    count_by : (w : ℕ) (p : Point) (c : List Point) (b : Bool) → pick b w (w + 1) + length c ≡ w + length (pick b c (p ∷ c))
    count_by w p c true = refl
    count_by w p c false = omega arith

    behind_by : (w i : ℕ) (b : Bool) → w < i → pick b w (w + 1) < i + 1
    behind_by w i true h = omega arith
    behind_by w i false h = omega arith

    length_by : (now : List ℤ) (w : ℕ) (p : Point) (b : Bool) → length (pick b now (put now w p)) ≡ length now
    length_by now w p true = refl
    length_by now w p false = put_length now w p

    unread_by : (now : List ℤ) (w : ℕ) (p : Point) (k : ℕ) (b : Bool) → w < k → point_in (pick b now (put now w p)) k ≡ point_in now k
    unread_by now w p k true h = refl
    unread_by now w p k false h = put_other now w p k h

    one_on : (now : List ℤ) (prev p : Point) (w i : ℕ) → Passing now prev p w i → i < end
        → let next : Point = point_in l i in let b : Bool = on_line prev p next in
        Passing (pick b now (put now w p)) p next (pick b w (w + 1)) (i + 1)
    one_on now prev p w i h k =
        let b : Bool = on_line prev p (point_in l i) in
        let c : List Point = rest p (point_in l i) (i + 1) in
        record {
          past = omega (arith, h.past);
          behind = behind_by w i b h.behind;
          prev_grid = h.p_grid;
          p_grid = grid i (omega (arith, h.past)) k;
          long = length_by now w p b ∙ h.long;
          unread = λ m n. unread_by now w p m b (omega (arith, h.behind, n)) ∙ h.unread m (omega (arith, n));
          written = paste_by now w p c b ∙ ap (paste now w) (sym (rest_next prev p i k)) ∙ h.written;
          count = count_by w p c b ∙ ap (λ (r : List Point). w + length r) (sym (rest_next prev p i k)) ∙ h.count;
        }

    goes_on : {now : List ℤ} {prev p : Point} {w i : ℕ} → Passing now prev p w i → i < end
        → (now' : List ℤ) (next : Point) (w' : ℕ) → next ≡ point_in now i
        → w' ≡ pick (on_line prev p next) w (w + 1) → now' ≡ pick (on_line prev p next) now (put now w p)
        → Passing now' p next w' (i + 1)
    goes_on {now} {prev} {p} {w} {i} h k now' next w' en ew ep =
        let q : next ≡ point_in l i = en ∙ h.unread i (omega arith) in
        let r = subst (λ x. Passing (pick (on_line prev p x) now (put now w p)) p x (pick (on_line prev p x) w (w + 1)) (i + 1)) (sym q) (one_on now prev p w
        i h k) in
        subst (λ v. Passing v p next w' (i + 1)) (sym ep) (subst (λ v. Passing (pick (on_line prev p next) now (put now w p)) p next v (i + 1)) (sym ew) r)

    pub goes_on_by : {now : List ℤ} {u : Vector} {p : Point} {w i : ℕ} → (h : PassingBy now u p w i) → i < end
        → (now' : List ℤ) (v : Vector) (next : Point) (w' : ℕ) → next ≡ point_in now i → (v ≡ from_to p next) × (Short v)
        → w' ≡ pick (level u v) w (w + 1) → now' ≡ pick (level u v) now (put now w p)
        → PassingBy now' v next w' (i + 1)
    goes_on_by {now} {u} {p} {w} {i} h k now' v next w' en ev ew ep =
        let q : level u v ≡ on_line h.prev p next = by_edges u v h.prev p next h.edge ev.0 in
        record {
          prev = p;
          edge = ev.0;
          short = ev.1;
          passing = goes_on h.passing k now' next w' en (ew ∙ ap (λ b. pick b w (w + 1)) q) (ep ∙ ap (λ b. pick b now (put now w p)) q);
        }

    -- ---- after the last
    ends : {now : List ℤ} {prev p : Point} {w i : ℕ} → Passing now prev p w i → end ≤ i
        → (now' : List ℤ) (w' : ℕ) → w' ≡ pick (on_line prev p home) w (w + 1) → now' ≡ pick (on_line prev p home) now (put now w p)
        → (w' ≡ to + length whole) × (now' ≡ paste l to whole)
    ends {now} {prev} {p} {w} {i} h k now' w' ew ep =
        let b : Bool = on_line prev p home in
        let z : end - i ≡ 0 = omega arith in
        let e : rest prev p i ≡ pick b [] (p ∷ []) = ap (λ n. corners prev home (p ∷ run l i n)) z in (
          ew ∙ none (pick b w (w + 1)) ∙ count_by w p [] b ∙ ap (λ (r : List Point). w + length r) (sym e) ∙ h.count,
          ep ∙ paste_by now w p [] b ∙ ap (paste now w) (sym e) ∙ h.written,
        )
      where
        none : (x : ℕ) → x ≡ x + 0
        none x = omega arith

    pub ends_by : {now : List ℤ} {u : Vector} {p : Point} {w i : ℕ} → (h : PassingBy now u p w i) → end ≤ i
        → (now' : List ℤ) (v : Vector) (w' : ℕ) → v ≡ from_to p home → w' ≡ pick (level u v) w (w + 1) → now' ≡ pick (level u v) now (put now w p)
        → (w' ≡ to + length whole) × (now' ≡ paste l to whole)
    ends_by {now} {u} {p} {w} {i} h k now' v w' ev ew ep =
        let q : level u v ≡ on_line h.prev p home = by_edges u v h.prev p home h.edge ev in
        ends h.passing k now' w' (ew ∙ ap (λ b. pick b w (w + 1)) q) (ep ∙ ap (λ b. pick b now (put now w p)) q)
