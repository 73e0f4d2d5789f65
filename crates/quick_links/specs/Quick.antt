-- The quick question of checks 3 and 4: whether either finds anything, asked by fewer and narrower comparisons.
-- Its answer is theirs (`question`).
use Rattle.std.specs.Prelude.{ℕ, zero, suc, ◌+◌, ◌-◌, ◌≤◌, ◌<◌, ◌≡◌, refl, Bool, true, false, not, ◌||◌, List, ltb, eqb, ℤ, pos, neg_ℤ}
use Rattle.std.proofs.Common.{not-suc-le-zero, arith, sym, ap, ◌∙◌, below_none, lt-ltb, le-ltb, ltb-true}
use Rattle.std.specs.Int.Signed.{lt_z}
use Rattle.laws.specs.Test.{pick, pick_true, pick_false, or_false, false_or}
use Rattle.laws.specs.Fails.{Fails, lt_fails, eq_fails, not_fails, or_fails}
use Rattle.laws.specs.Lowest.{lowest, some, NoneBelow, none_of, some_no, some_more}
use Rattle.laws.specs.Order.{lt_z_false, false_lt_z}
use Rattle.turn.specs.declared.Point.{Point}
use Rattle.turn.specs.Limits.{max_coordinate}
use Rattle.turn.specs.Points.{before, outside, off_grid}
use Rattle.turn.specs.PointOrder.{before_asymmetric}
use Rattle.graph.specs.Graph.{Lent, link_count, node_count}
use Rattle.graph.specs.Checks.{a_of, b_of, node_at, misplaced, misnamed, flag_fault, link_wrong, out_of_order, each_checked}
use Rattle.graph.specs.Tests.{named}
use Rattle.turn.specs.Refusals.{refused, no_fault}
use Rattle.turn.specs.declared.Reason.TheVariants.{WrongLink, LinksOutOfOrder}

-- ---- the question

-- the points a and b of a link, where p is the previous link's a. With every a in order and every b after its a, no x
-- lies below the first link's a or above its own b: so b's x is compared with the upper bound, and no other x with any
abbrev pub misplaced_after : Point → Point → Point → Bool
misplaced_after p a b =
    outside a.y ||
    lt_z (pos max_coordinate) b.x ||
    outside b.y ||
    not (before a b) ||
    before a p

-- the points of link k; of the first link all that check 3 asks
abbrev pub misplaced_at : (ℕ → Point) → (ℕ → Point) → ℕ → Bool
misplaced_at a b zero = misplaced (a zero) (b zero)
misplaced_at a b (suc k) = misplaced_after (a k) (a (suc k)) (b (suc k))

-- the greatest id that 32 bits hold, and the greatest of m nodes. With no node it is 0: two ids that differ are not both 0
abbrev pub max_id : ℕ
max_id = 4294967295

abbrev pub last_id : ℕ → ℕ
last_id m = pick (ltb max_id m) max_id (m - 1)

abbrev pub misnamed_past : ℕ → ℕ → ℕ → Bool
misnamed_past last a_id b_id = ltb last a_id || ltb last b_id || eqb a_id b_id

-- the ids of link k
abbrev pub misnamed_at : ℕ → List ℕ → List ℕ → ℕ → Bool
misnamed_at m a_id b_id k = misnamed m (node_at a_id k) (node_at b_id k)

-- points, ids and flags each by themselves
abbrev pub any_wrong : Lent → List ℕ → List ℕ → Bool
any_wrong g top state =
    some (misplaced_at (a_of g) (b_of g)) (link_count g) ||
    some (misnamed_at (node_count g) g.a_id g.b_id) (link_count g) ||
    some (flag_fault top state) (link_count g)

-- ---- tests that fail together are one
together : (s t : Bool) → (s ≡ false → t ≡ false) → (t ≡ false → s ≡ false) → s ≡ t
together true true f g = refl
together true false f g = g refl
together false t f g = sym (f refl)

-- ---- ids
pub last_great : (m : ℕ) → max_id < m → last_id m ≡ max_id
last_great m h = pick_true _ _ (lt-ltb _ _ h)

pub last_small : (m : ℕ) → m ≤ max_id → last_id m ≡ m - 1
last_small m h = pick_false _ _ (le-ltb _ _ h)

past : (m a_id b_id : ℕ) → Fails (misnamed_past (last_id m) a_id b_id) (((a_id ≤ last_id m) × (b_id ≤ last_id m)) × (a_id ≡ b_id → ⊥))
past m a_id b_id = or_fails (or_fails (lt_fails (last_id m) a_id) (lt_fails (last_id m) b_id)) (eq_fails a_id b_id)

-- an id up to the last one is below m, if another is too; and an id below m, of 32 bits, is up to the last one
below : (m i j : ℕ) → i ≤ max_id → i ≤ last_id m → j ≤ last_id m → (i ≡ j → ⊥) → i < m
below m i j p = at (ltb max_id m) refl
  where
    at : (t : Bool) → ltb max_id m ≡ t → i ≤ pick t max_id (m - 1) → j ≤ pick t max_id (m - 1) → (i ≡ j → ⊥) → i < m
    at true e h k d = omega (arith, ltb-true max_id m e)
    at false e h k d = omega arith

within : (m i : ℕ) → i ≤ max_id → i < m → i ≤ last_id m
within m i p h = at (ltb max_id m)
  where
    at : (t : Bool) → i ≤ pick t max_id (m - 1)
    at true = p
    at false = omega arith

pub ids : (m a_id b_id : ℕ) → a_id ≤ max_id → b_id ≤ max_id → misnamed_past (last_id m) a_id b_id ≡ misnamed m a_id b_id
ids m a_id b_id p q =
    let quick = past m a_id b_id in
    let whole = named m a_id b_id in
    together _ _ (λ e. whole.from (to (quick.to e))) (λ e. quick.from (from (whole.to e)))
  where
    to : ((a_id ≤ last_id m) × (b_id ≤ last_id m)) × (a_id ≡ b_id → ⊥) → ((a_id < m) × (b_id < m)) × (a_id ≡ b_id → ⊥)
    to h = ((below m a_id b_id p h.0.0 h.0.1 h.1, below m b_id a_id q h.0.1 h.0.0 (λ e. h.1 (sym e))), h.1)

    from : ((a_id < m) × (b_id < m)) × (a_id ≡ b_id → ⊥) → ((a_id ≤ last_id m) × (b_id ≤ last_id m)) × (a_id ≡ b_id → ⊥)
    from h = ((within m a_id p h.0.0, within m b_id q h.0.1), h.1)

-- ---- points

-- x ≤ y and y ≤ z
up_to : (x y z : ℤ) → lt_z y x ≡ false → lt_z z y ≡ false → lt_z z x ≡ false
up_to x y z e f = false_lt_z z x (omega (arith, lt_z_false y x e, lt_z_false z y f))

-- a point that is not before another has no lesser x
x_up : (p q : Point) → before q p ≡ false → lt_z q.x p.x ≡ false
x_up p q e = (or_false _ _ e).0

-- what passes where a link's test fails: of the quick question, and of check 3, comparison by comparison
itself : (s : Bool) → Fails s (s ≡ false)
itself s = record { to = λ e. e; from = λ e. e }

abbrev lowest_x : ℤ
lowest_x = neg_ℤ (pos max_coordinate)

abbrev greatest_x : ℤ
greatest_x = pos max_coordinate

abbrev Asked : Point → Point → Type 0
Asked a b = ((outside a.y ≡ false) × (lt_z greatest_x b.x ≡ false)) × (outside b.y ≡ false)

after : (p a b : Point) → Fails (misplaced_after p a b) (((Asked a b) × (before a b ≡ true)) × (before a p ≡ false))
after p a b =
    let bounds = or_fails (or_fails (itself (outside a.y)) (itself (lt_z greatest_x b.x))) (itself (outside b.y)) in
    or_fails (or_fails bounds (not_fails (before a b))) (itself (before a p))

abbrev Bounded : Point → Type 0
Bounded p = ((lt_z p.x lowest_x ≡ false) × (lt_z greatest_x p.x ≡ false)) × (outside p.y ≡ false)

bounded : (p : Point) → Fails (off_grid p) (Bounded p)
bounded p = or_fails (or_fails (itself (lt_z p.x lowest_x)) (itself (lt_z greatest_x p.x))) (itself (outside p.y))

whole : (a b : Point) → Fails (misplaced a b) (((Bounded a) × (Bounded b)) × (before a b ≡ true))
whole a b = or_fails (or_fails (bounded a) (bounded b)) (not_fails (before a b))

-- what the quick question leaves out of a link follows where a's x is not below the bounds
placed : (p a b : Point) → lt_z a.x lowest_x ≡ false → misplaced_after p a b ≡ false → misplaced a b ≡ false
placed p a b low e =
    let h = (after p a b).to e in
    let right = h.0.0.0.1 in
    let x = x_up a b (before_asymmetric a b h.0.1) in
    let a_in : Bounded a = ((low, up_to a.x b.x greatest_x x right), h.0.0.0.0) in
    let b_in : Bounded b = ((up_to lowest_x a.x b.x low x, right), h.0.0.1) in
    (whole a b).from ((a_in, b_in), h.0.1)

-- where it finds nothing, no a has an x below the bounds
low : (a b : ℕ → Point) (n : ℕ) → NoneBelow (misplaced_at a b) n → (k : ℕ) → k < n → lt_z (a k).x lowest_x ≡ false
low a b n h zero l = ((whole (a zero) (b zero)).to (h zero l)).0.0.0.0
low a b n h (suc k) l =
    up_to lowest_x (a k).x (a (suc k)).x (low a b n h k (omega arith))
    (x_up (a k) (a (suc k)) ((after (a k) (a (suc k)) (b (suc k))).to (h (suc k) l)).1)

-- the other way: what it asks of a link that check 3 lets pass and check 4 finds in order
asked : (p a b : Point) → misplaced a b ≡ false → before a p ≡ false → misplaced_after p a b ≡ false
asked p a b e f = let h = (whole a b).to e in (after p a b).from ((((h.0.0.1, h.0.1.0.1), h.0.1.1), h.1), f)

-- check 4's test of a link that has a previous one
previous : (a : ℕ → Point) (k : ℕ) → out_of_order a (suc k) ≡ before (a (suc k)) (a k)
previous a k = let p : suc k - 1 ≡ k = omega arith in simp (p, lt-ltb 0 (suc k) (omega arith))

-- what a loop over the links has to show: of the first link, and of one more
pub first_link_lem : (a b : ℕ → Point) → some (misplaced_at a b) 1 ≡ misplaced (a 0) (b 0)
first_link_lem a b =
    some_more (misplaced_at a b) 0 ∙ ap (λ s. s || misplaced (a 0) (b 0)) (some_no (misplaced_at a b) 0 (below_none _))

pub next_link_lem : (a b : ℕ → Point) (k : ℕ) → 1 ≤ k
    → some (misplaced_at a b) (k + 1) ≡ some (misplaced_at a b) k || misplaced_after (a (k - 1)) (a k) (b k)
next_link_lem a b zero l = absurd (not-suc-le-zero l)
next_link_lem a b (suc k) l = let e : suc k - 1 ≡ k = omega arith in rw e (some_more (misplaced_at a b) (suc k))

-- it finds nothing exactly where check 3, of the points, and check 4 find nothing
pub points : (a b : ℕ → Point) (n : ℕ)
    → some (misplaced_at a b) n ≡ some (λ k. misplaced (a k) (b k)) n || some (out_of_order a) n
points a b n = together _ _ to from
  where
    each : NoneBelow (misplaced_at a b) n → NoneBelow (λ k. misplaced (a k) (b k)) n
    each h zero l = h zero l
    each h (suc k) l = placed (a k) (a (suc k)) (b (suc k)) (low a b n h (suc k) l) (h (suc k) l)

    ordered : NoneBelow (misplaced_at a b) n → NoneBelow (out_of_order a) n
    ordered h zero l = refl
    ordered h (suc k) l = previous a k ∙ ((after (a k) (a (suc k)) (b (suc k))).to (h (suc k) l)).1

    back : NoneBelow (λ k. misplaced (a k) (b k)) n → NoneBelow (out_of_order a) n → NoneBelow (misplaced_at a b) n
    back h o zero l = h zero l
    back h o (suc k) l = asked (a k) (a (suc k)) (b (suc k)) (h (suc k) l) (sym (previous a k) ∙ o (suc k) l)

    to : some (misplaced_at a b) n ≡ false → some (λ k. misplaced (a k) (b k)) n || some (out_of_order a) n ≡ false
    to e = let h = none_of (misplaced_at a b) n e in false_or _ _ (some_no _ n (each h)) (some_no (out_of_order a) n (ordered h))

    from : some (λ k. misplaced (a k) (b k)) n || some (out_of_order a) n ≡ false → some (misplaced_at a b) n ≡ false
    from e =
        let h = or_false _ _ e in
        some_no (misplaced_at a b) n (back (none_of (λ k. misplaced (a k) (b k)) n h.0) (none_of (out_of_order a) n h.1))

-- ---- the whole question
some_or : (f g : ℕ → Bool) (n : ℕ) → some (λ k. f k || g k) n ≡ some f n || some g n
some_or f g n = together _ _ to from
  where
    to : some (λ k. f k || g k) n ≡ false → some f n || some g n ≡ false
    to e =
        let h : (k : ℕ) → k < n → (f k ≡ false) × (g k ≡ false) = λ k l. or_false (f k) (g k) (none_of (λ k. f k || g k) n e k l) in
        false_or _ _ (some_no f n (λ k l. (h k l).0)) (some_no g n (λ k l. (h k l).1))

    from : some f n || some g n ≡ false → some (λ k. f k || g k) n ≡ false
    from e =
        let h = or_false _ _ e in
        some_no (λ k. f k || g k) n (λ k l. false_or _ _ (none_of f n h.0 k l) (none_of g n h.1 k l))

-- its answer is that of checks 3 and 4
pub question : (g : Lent) (top state : List ℕ)
    → any_wrong g top state ≡ some (link_wrong g top state) (link_count g) || some (out_of_order (a_of g)) (link_count g)
question g top state =
    let n = link_count g in
    let m : ℕ → Bool = λ k. misplaced (a_of g k) (b_of g k) in
    let i = misnamed_at (node_count g) g.a_id g.b_id in
    let f = flag_fault top state in
    let o = some (out_of_order (a_of g)) n in
    let parts = some_or (λ k. m k || i k) f n ∙ ap (λ s. s || some f n) (some_or m i n) in
    ap (λ s. s || some i n || some f n) (points (a_of g) (b_of g) n)
    ∙ order (some m n) o (some i n) (some f n)
    ∙ ap (λ s. s || o) (sym parts)
  where
    order : (s t u v : Bool) → (s || t) || u || v ≡ (s || u || v) || t
    order true t u v = refl
    order false true true v = refl
    order false true false true = refl
    order false true false false = refl
    order false false true v = refl
    order false false false true = refl
    order false false false false = refl

-- ---- what checks 3 and 4 say by it
pub fine : (g : Lent) (top state : List ℕ) → any_wrong g top state ≡ false → each_checked g top state ≡ no_fault
unfolding each_checked
fine g top state e =
    let n = link_count g in
    let h = or_false (some (link_wrong g top state) n) (some (out_of_order (a_of g)) n) (sym (question g top state) ∙ e) in
    pick_false _ _ h.0 ∙ pick_false _ _ h.1

pub refused_3 : (g : Lent) (top state : List ℕ) → lowest (link_wrong g top state) (link_count g) < link_count g
    → each_checked g top state ≡ refused WrongLink (lowest (link_wrong g top state) (link_count g))
unfolding each_checked
refused_3 g top state l = pick_true _ _ (lt-ltb _ _ l)

pub refused_4 : (g : Lent) (top state : List ℕ) → any_wrong g top state ≡ true
    → link_count g ≤ lowest (link_wrong g top state) (link_count g)
    → each_checked g top state ≡ refused LinksOutOfOrder (lowest (out_of_order (a_of g)) (link_count g))
unfolding each_checked
refused_4 g top state e l =
    let n = link_count g in
    let h = le-ltb (lowest (link_wrong g top state) n) n l in
    let o = sym (ap (λ s. s || some (out_of_order (a_of g)) n) h) ∙ sym (question g top state) ∙ e in
    pick_false _ _ h ∙ pick_true _ _ o
