-- Check 10 passes exactly the sound tables with room for the owners; and where the points of a sound table stand.
use Rattle.std.specs.Prelude.{ℕ, zero, suc, ◌+◌, ◌*◌, ◌-◌, ◌/◌, ◌%◌, ◌≤◌, ◌<◌, ◌≡◌, refl, true, ◌||◌, ltb, pos, length, get_or}
use Rattle.std.proofs.Common.{arith, not-suc-le-zero, add-one, sym, ap, ◌∙◌, subst, lt-ltb, le-ltb}
use Rattle.std.proofs.Math.Decide.{dec_le, ℕ_discrete}
use Rattle.laws.specs.Lowest.{lowest, some, found}
use Rattle.laws.specs.Fails.{Iff, then, both, ne_fails, or_fails, some_fails}
use Rattle.turn.specs.Limits.{max_links}
use Rattle.turn.specs.Points.{differ, Coord, OnGrid, Grid}
use Rattle.turn.specs.Refusals.{refuses, no_fault}
use Rattle.turn.specs.declared.Reason.TheVariants.{WrongTable}
use Rattle.table.specs.Table.{Table, point_count, point, contour_count, max_contours, first_of, len_of, range_end, kind_of, contour_of, next_in}
use Rattle.table.specs.Table.{previous_in, next}
use Rattle.table.specs.TableChecks.{misfit, start_in, unended, bad_contour, table_checked}
use Rattle.table.specs.TableLaws.{start_next, next_inside, next_last, previous_first, previous_inside}
use Rattle.table.specs.Tests.{fitting, Ranged, Placed, contour_right}
use Rattle.table.specs.Sound.{Sound}

-- ---- where points stand
-- the point at position p is contour c's
pub record Located (t : Table) (p c : ℕ) : Type 0 where
  pub below : c < contour_count t
  pub from : first_of t c ≤ p
  pub to : p < range_end t c

-- ranges that follow each other from 0
abbrev Follow : Table → Type 0
Follow t = (c : ℕ) → c < contour_count t → first_of t c ≡ start_in t.first t.len c

module _ (t : Table) (f : Follow t) where
  -- one of the first n ranges holds every position before the end of the last
  pub cover : (n p : ℕ) → n ≤ contour_count t → p < start_in t.first t.len n → (c : ℕ) × Located t p c
  cover zero p h l = absurd (not-suc-le-zero l)
  cover (suc n) p h l = go (dec_le (first_of t n) p) (λ m. cover n p (omega arith) m)
    where
      go : Dec (first_of t n ≤ p) → (p < start_in t.first t.len n → (c : ℕ) × Located t p c) → (c : ℕ) × Located t p c
      go (yes m) k = (n, record { below = h; from = m; to = l })
      go (no m) k = k (omega (arith, f n h))

  -- a range ends before a later one begins
  pub apart : (c b : ℕ) → c < contour_count t → b < c → range_end t b ≤ first_of t c
  apart zero b h l = absurd (not-suc-le-zero l)
  apart (suc c) b h l = go (ℕ_discrete b c) (λ m. apart c b (omega arith) m)
    where
      go : Dec (b ≡ c) → (b < c → range_end t b ≤ first_of t c) → range_end t b ≤ first_of t (suc c)
      go (yes e) k = rw (e, f (suc c) h) (omega arith)
      go (no n) k = omega (arith, k (omega arith), f (suc c) h)

  -- no position is in two ranges
  pub contour_is : (p c : ℕ) → Located t p c → contour_of t p ≡ c
  contour_is p c l =
      found (λ b. ltb p (range_end t b)) (contour_count t) c l.below
      (λ b m. le-ltb p (range_end t b) (omega (arith, apart c b l.below m, l.from))) (lt-ltb p (range_end t c) l.to)

-- ---- round a contour the position after the one before is the position itself, and the other way
pub next_previous : (from to p : ℕ) → from ≤ p → p < to → next_in from to (previous_in from to p) ≡ p
next_previous from to p h l = go (ℕ_discrete p from)
  where
    back : (p : ℕ) → 0 < p → p - 1 + 1 ≡ p
    back p h = omega arith

    go : Dec (p ≡ from) → next_in from to (previous_in from to p) ≡ p
    go (yes e) = ap (next_in from to) (ap (previous_in from to) e ∙ previous_first from to) ∙ next_last from to (to - 1) (back to (omega arith)) ∙ sym e
    go (no n) = ap (next_in from to) (previous_inside from to p (omega arith)) ∙ next_inside from to (p - 1) (omega arith) ∙ back p (omega arith)

pub previous_next : (from to p : ℕ) → from ≤ p → p < to → previous_in from to (next_in from to p) ≡ p
previous_next from to p h l = go (ℕ_discrete (p + 1) to)
  where
    back : (p : ℕ) → p + 1 - 1 ≡ p
    back p = omega arith

    go : Dec (p + 1 ≡ to) → previous_in from to (next_in from to p) ≡ p
    go (yes e) = ap (previous_in from to) (next_last from to p e) ∙ previous_first from to ∙ ap (λ x. x - 1) (sym e) ∙ back p
    go (no n) = ap (previous_in from to) (next_inside from to p (omega arith)) ∙ previous_inside from to (p + 1) (omega arith) ∙ back p

pub next_within : (from to p : ℕ) → from ≤ p → p < to → (from ≤ next_in from to p) × (next_in from to p < to)
next_within from to p h l = go (ℕ_discrete (p + 1) to)
  where
    go : Dec (p + 1 ≡ to) → (from ≤ next_in from to p) × (next_in from to p < to)
    go (yes e) = rw (next_last from to p e) (omega arith, omega arith)
    go (no n) = rw (next_inside from to p (omega arith)) (omega arith, omega arith)

pub previous_within : (from to p : ℕ) → from ≤ p → p < to → (from ≤ previous_in from to p) × (previous_in from to p < to)
previous_within from to p h l = go (ℕ_discrete p from)
  where
    go : Dec (p ≡ from) → (from ≤ previous_in from to p) × (previous_in from to p < to)
    go (yes e) = rw (ap (previous_in from to) e ∙ previous_first from to) (omega arith, omega arith)
    go (no n) = rw (previous_inside from to p (omega arith)) (omega arith, omega arith)

-- ---- check 10
-- every contour is right by itself
abbrev Right : Table → ℕ → Type 0
Right t c =
    (Ranged (point_count t) (start_in t.first t.len c) (first_of t c) (len_of t c) (kind_of t c))
    × ((k : ℕ) → k < len_of t c → Placed t.points (first_of t c) (range_end t c) (first_of t c + k))

abbrev Fitting : Table → ℕ → Type 0
Fitting t owners =
    ((((length t.len ≡ contour_count t) × (length t.kind ≡ contour_count t)) × (contour_count t ≤ owners)) × (point_count t ≤ max_links))
    × (length t.points % 2 ≡ 0)

abbrev Parts : Table → ℕ → Type 0
Parts t owners =
    ((Fitting t owners) × (start_in t.first t.len (contour_count t) ≡ point_count t)) × ((c : ℕ) → c < contour_count t → Right t c)

parts : (t : Table) (owners : ℕ) → Iff (table_checked t owners ≡ no_fault) (Parts t owners)
unfolding table_checked
parts t owners =
    then (refuses (misfit (length t.points) (length t.first) (length t.len) (length t.kind) owners || unended t) WrongTable 0 _)
    (both
    (or_fails (fitting (length t.points) (length t.first) (length t.len) (length t.kind) owners) (ne_fails _ _))
    (then (refuses (some (bad_contour t) (contour_count t)) WrongTable (lowest (bad_contour t) (contour_count t)) no_fault)
    (then (record { to = λ h. h.0; from = λ h. (h, refl) })
    (some_fails (contour_count t) (λ c. contour_right t.points (start_in t.first t.len c) (first_of t c) (len_of t c) (kind_of t c))))))

module _ (t : Table) (owners : ℕ) (h : Parts t owners) where
  follow : Follow t
  follow c l = (h.1 c l).0.consecutive

  placed_at : (p c : ℕ) → Located t p c → Placed t.points (first_of t c) (range_end t c) p
  placed_at p c l =
      let e : first_of t c + (p - first_of t c) ≡ p = omega (arith, l.from) in
      subst (λ (q : ℕ). Placed t.points (first_of t c) (range_end t c) q) e ((h.1 c l.below).1 (p - first_of t c) (omega (arith, l.from, l.to)))

  on_grid_at : (p : ℕ) → p < point_count t → OnGrid (point t p)
  on_grid_at p l = go (cover t follow (contour_count t) p (omega arith) (rw h.0.1 l))
    where
      go : (c : ℕ) × Located t p c → OnGrid (point t p)
      go (c, m) = (placed_at p c m).grid

  gridded : Grid t.points
  gridded i l = go (i % 2) refl
    where
      go : (r : ℕ) → i % 2 ≡ r → Coord (get_or t.points i (pos 0))
      go zero e =
          let q : i / 2 * 2 ≡ i = omega arith in subst (λ (j : ℕ). Coord (get_or t.points j (pos 0))) q (on_grid_at (i / 2) (omega (arith, h.0.0.1))).0
      go (suc r) e =
          let q : i / 2 * 2 + 1 ≡ i = omega arith in
          subst (λ (j : ℕ). Coord (get_or t.points j (pos 0))) q (on_grid_at (i / 2) (omega (arith, h.0.0.1))).1

  sound_of : Sound t
  sound_of = record {
    len_long = h.0.0.0.0.0.0;
    kind_long = h.0.0.0.0.0.1;
    whole = omega (arith, h.0.0.1);
    few = h.0.0.0.1;
    starts = λ l. follow 0 l;
    follows = λ c l. follow (c + 1) l ∙ start_next t.first t.len c;
    ends = h.0.1;
    within = λ c l. (h.1 c l).0.within;
    long = λ c l. (h.1 c l).0.long;
    kinds = λ c l. (h.1 c l).0.known;
    grid = gridded;
    neighbours = λ c p l m n.
        let w = next_within (first_of t c) (range_end t c) p m n in
        let q = (placed_at (next t c p) c (record { below = l; from = w.0; to = w.1 })).apart in
        subst (λ (x : ℕ). differ (point t x) (point t (next t c p)) ≡ true) (previous_next (first_of t c) (range_end t c) p m n) q;
  }

pub sound_follows : (t : Table) → Sound t → Follow t
sound_follows t s zero l = s.starts l
sound_follows t s (suc c) l = let e = add-one c in rw e at (s.follows c (rw e l))

-- every point of a sound table is its contour's
pub located : (t : Table) → Sound t → (p : ℕ) → p < point_count t → Located t p (contour_of t p)
located t s p l = go (cover t (sound_follows t s) (contour_count t) p (omega arith) (rw s.ends l))
  where
    go : (c : ℕ) × Located t p c → Located t p (contour_of t p)
    go (c, m) = subst (λ (d : ℕ). Located t p d) (sym (contour_is t (sound_follows t s) p c m)) m

module _ (t : Table) (owners : ℕ) (s : Sound t) (r : contour_count t ≤ owners) where
  right : (c : ℕ) → c < contour_count t → Right t c
  right c l = (
    record { consecutive = sound_follows t s c l; within = s.within c l; long = s.long c l; known = s.kinds c l },
    λ k m. record { grid = at k m; apart = round k m },
  )
    where
      at : (k : ℕ) → k < len_of t c → OnGrid (point t (first_of t c + k))
      at k m = (
        s.grid ((first_of t c + k) * 2) (omega (arith, s.within c l, s.whole)),
        s.grid ((first_of t c + k) * 2 + 1) (omega (arith, s.within c l, s.whole)),
      )

      round : (k : ℕ) → k < len_of t c → differ (point t (previous_in (first_of t c) (range_end t c) (first_of t c + k))) (point t (first_of t c + k)) ≡ true
      round k m =
          let p = first_of t c + k in
          let w = previous_within (first_of t c) (range_end t c) p (omega arith) (omega arith) in
          subst (λ (x : ℕ). differ (point t (previous_in (first_of t c) (range_end t c) p)) (point t x) ≡ true)
          (next_previous (first_of t c) (range_end t c) p (omega arith) (omega arith))
          (s.neighbours c (previous_in (first_of t c) (range_end t c) p) l w.0 w.1)

  parts_of : Parts t owners
  parts_of = ((((((s.len_long, s.kind_long), r), s.few), omega (arith, s.whole)), s.ends), right)

-- check 10 passes exactly the sound tables with room for the owners
pub passes_sound : (t : Table) (owners : ℕ) → Iff (table_checked t owners ≡ no_fault) ((Sound t) × (contour_count t ≤ owners))
passes_sound t owners =
    then (parts t owners)
    (record { to = λ h. (sound_of t owners h, h.0.0.0.0.1); from = λ h. parts_of t owners h.0 h.1 })

-- ---- what the layers above lean on
-- a contour has three points or more, so there are few contours
pub few_contours_lem : (t : Table) → Sound t → (n : ℕ) → n ≤ contour_count t → n * 3 ≤ start_in t.first t.len n
few_contours_lem t s zero h = omega arith
few_contours_lem t s (suc n) h = omega (arith, few_contours_lem t s n (omega arith), s.long n h, sound_follows t s n h)

pub contours_few : (t : Table) → Sound t → contour_count t ≤ max_contours
contours_few t s = omega (arith, few_contours_lem t s (contour_count t) (omega arith), s.ends, s.few)

-- a contour's points are within the list
pub ranges_within : (t : Table) → Sound t → (c : ℕ) → c < contour_count t → range_end t c * 2 ≤ length t.points
ranges_within t s c l = omega (arith, s.within c l, s.whole)
