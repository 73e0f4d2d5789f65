-- What is known of the entries taken so far, and of the next one: their node, their point, their order, and whether they clash.
use Prim.Native.Nat.{ℕ, ◌+◌, ◌≤◌, ◌<◌}
use native.Mathlib.Omega.{arith}
use native.Mathlib.Numerals.{add-one}
use mathlib.Core.Path.{◌≡◌, refl, sym, ap, ◌∙◌, subst}
use mathlib.Core.Logic.{◌⊎◌, inl, inr, ⊎_elim}
use mathlib.Core.Bool.{Bool, true, false, not, ◌||◌, ◌&&◌}
use mathlib.Core.List.{List, [], ◌∷◌, ◌++◌}
use lib.Dec.{eqb, leb}
use lib.IntN.{ℤ}
use lib.ListN.{length, get_or, take}
use lib.Seq.{get_or-take, length-take-le, take-suc}
use borrow.Author.Tests.{leb-false, eqb-true, eqb-false, eq-eqb, ne_eqb}
use Rattle.laws.specs.Test.{true≢false, true_is, not_true, or_false, false_or, and_false}
use Rattle.laws.specs.Lists.{place_of, member}
use Rattle.laws.specs.Lowest.{some, some_no, none_of}
use Rattle.turn.specs.declared.Point.{Point}
use Rattle.turn.specs.Points.{OnGrid, differ}
use Rattle.turn.specs.Angle.{same_direction}
use Rattle.turn.specs.Directions.{same_sym}
use Rattle.graph.specs.Graph.{Graph, point_at}
use Rattle.graph.specs.Checks.{node_at, end_at, away_from, stray, apart, skipped, alike}
use Rattle.graph.specs.Quick.{stands_before, alike_before, clash_at}
use Rattle.graph.specs.PointLaws.{same_point}
use Rattle.graph.specs.EndLaws.{end_on_grid}
use Rattle.spokes.specs.Links.{links_of}
use Rattle.next.specs.Choice.{Mem}
use Rattle.rings.specs.RingOrder.{Forward}
use Rattle.rings.proofs.RingOrder.{ring_apart}
use Rattle.rings.specs.Rings.{InOrder}
use Rattle.hoop.specs.declared.Hoop.{Hoop}
use Rattle.spokes.specs.Entries.{wrong_at, Laying}

-- ---- tests of three
or_first : (x y z : Bool) → x ≡ true → x || y || z ≡ true
or_first true y z e = refl
or_first false y z e = absurd (true≢false e refl)

or_second : (x y z : Bool) → y ≡ true → x || y || z ≡ true
or_second true y z e = refl
or_second false true z e = refl
or_second false false z e = absurd (true≢false e refl)

or_third : (x y z : Bool) → z ≡ true → x || y || z ≡ true
or_third true y z e = refl
or_third false true z e = refl
or_third false false z e = e

or_none : (x y z : Bool) → x ≡ false → y ≡ false → z ≡ false → x || y || z ≡ false
or_none x y z p q r = rw (p, q, r)

or_last : (x y : Bool) → y ≡ true → x || y ≡ true
or_last true y e = refl
or_last false y e = e

or_carried : (x y z : Bool) → (y ≡ true → z ≡ true) → x || y ≡ true → x || z ≡ true
or_carried true y z f e = refl
or_carried false y z f e = f e

not_not : (b : Bool) → not b ≡ false → b ≡ true
not_not true e = refl
not_not false e = absurd (true≢false refl e)

and_all : (x y z : Bool) → x ≡ true → y ≡ true → z ≡ true → x && y && z ≡ true
and_all x y z p q r = rw (p, q, r)

not_first : (x y z : Bool) → x ≡ false → x && y && z ≡ false
not_first x y z p = rw p

not_second : (x y z : Bool) → y ≡ false → x && y && z ≡ false
not_second true y z p = rw p
not_second false y z p = refl

not_third : (x y z : Bool) → z ≡ false → x && y && z ≡ false
not_third true true z p = p
not_third true false z p = refl
not_third false y z p = refl

-- a test that passes somewhere below n
some_at : (test : ℕ → Bool) (n i : ℕ) → i < n → test i ≡ true → some test n ≡ true
some_at test n i h e = by (some test n) refl
  where
    by : (b : Bool) → some test n ≡ b → b ≡ true
    by true q = refl
    by false q = absurd (true≢false e (none_of test n q i h))

-- ---- what is no stray: a link, with an end at node v
pub link_below : (aid bid : List ℕ) (v x : ℕ) → stray aid bid v x ≡ false → x < length aid
link_below aid bid v x e = leb-false (length aid) x (or_false (leb (length aid) x) _ e).0

pub link_there : (aid bid : List ℕ) (v x : ℕ) → stray aid bid v x ≡ false → (get_or aid x 0 ≡ v) ⊎ (get_or bid x 0 ≡ v)
link_there aid bid v x e =
    ⊎_elim (λ p. inl (eqb-true (get_or aid x 0) v (not_not _ p))) (λ p. inr (eqb-true (get_or bid x 0) v (not_not _ p)))
    (and_false _ _ (or_false (leb (length aid) x) _ e).1)

-- ---- the first j of a list
pub in_take : (l : List ℕ) (j i : ℕ) → j ≤ length l → i < j → Mem (get_or l i 0) (take j l)
in_take l j i h k =
    subst (λ x. Mem x (take j l)) (get_or-take j l i 0 k) (member 0 (take j l) i (subst (λ n. i < n) (sym (length-take-le j l h)) k))

pub take_more : (l : List ℕ) (j : ℕ) → j < length l → take j l ++ (get_or l j 0 ∷ []) ≡ take (j + 1) l
take_more l j h = sym (take-suc l j 0 h) ∙ ap (λ n. take n l) (sym (add-one j))

-- ---- a stray entry, or one with another point
pub wrong_missed : {ax ay bx by : List ℤ} {aid bid state here : List ℕ} {v : ℕ} {home : Point} {nxt prv : List ℕ} {j : ℕ} {hoop : Hoop}
    → Laying ax ay bx by aid bid state here v home nxt prv j hoop
    → stray aid bid v (get_or here j 0) || differ home (end_at (point_at ax ay) (point_at bx by) (node_at aid) v (get_or here j 0)) ≡ true
    → wrong_at ax ay bx by aid bid state here v j ≡ true
wrong_missed {ax} {ay} {bx} {by} {aid} {bid} {state} {here} {v} {home} {nxt} {prv} {j} y e =
    or_carried (stray aid bid v f) _ _ (λ d. or_second (stands_before here j f) _ (alike_before (point_at ax ay) (point_at bx by) (node_at aid) state here v
    j f)
    (subst (λ p. differ p (end_at (point_at ax ay) (point_at bx by) (node_at aid) v f) ≡ true) y.home_is d)) e
  where
    f : ℕ
    f = get_or here j 0

-- ---- an entry that is not stray
module _ {ax ay bx by : List ℤ} {aid bid state here : List ℕ} {v : ℕ} {home : Point} {nxt prv : List ℕ} {j : ℕ} {hoop : Hoop}
    (y : Laying ax ay bx by aid bid state here v home nxt prv j hoop) (jn : j < length here) (own : stray aid bid v (get_or here j 0) ≡ false) where
  abbrev pub g : Graph
  g = links_of ax ay bx by aid

  -- the next entry
  abbrev pub f : ℕ
  f = get_or here j 0

  abbrev pub l : List ℕ
  l = y.held.links

  -- ---- where a link of the ring stands among the entries
  pub record Entry (x : ℕ) : Type 0 where
    pub place : ℕ
    pub early : place < j
    pub is : get_or here place 0 ≡ x

  pub entry_of : (x : ℕ) → Mem x l → Entry x
  entry_of x m =
      let p = place_of 0 (take j here) (y.held.stood.ring.only x m).0 in
      let k : p.place < j = omega (arith, p.within, length-take-le j here (omega arith)) in
      record { place = p.place; early = k; is = sym (get_or-take j here p.place 0 k) ∙ p.here }

  -- ---- they are links with an end at node v
  pub own_x : (x : ℕ) → Mem x l → stray aid bid v x ≡ false
  own_x x m =
      let p = entry_of x m in
      subst (λ z. stray aid bid v z ≡ false) p.is (or_false (stray aid bid v (get_or here p.place 0)) _ (y.clear p.place p.early)).0

  pub below_f : f < length aid
  below_f = link_below aid bid v f own

  pub below_x : (x : ℕ) → Mem x l → x < length aid
  below_x x m = link_below aid bid v x (own_x x m)

  pub forward_f : Forward g f
  forward_f = y.strict f below_f

  pub forward_x : (x : ℕ) → Mem x l → Forward g x
  forward_x x m = y.strict x (below_x x m)

  -- ---- their point
  pub home_grid : OnGrid home
  home_grid =
      let k = y.first_below in
      subst OnGrid (sym y.home_is)
      (end_on_grid (point_at ax ay) (point_at bx by) (node_at aid) v (get_or here 0 0) (y.grids.a_grid _ k) (y.grids.b_grid _ k))

  abbrev pub Home : ℕ → Type 0
  Home x = home ≡ end_at (point_at ax ay) (point_at bx by) (node_at aid) v x

  home_at : (i : ℕ) → i < j → Home (get_or here i 0)
  home_at i h =
      y.home_is ∙ same_point (end_at (point_at ax ay) (point_at bx by) (node_at aid) v (get_or here 0 0))
      (end_at (point_at ax ay) (point_at bx by) (node_at aid) v (get_or here i 0))
      (or_false (stands_before here i (get_or here i 0)) _ (or_false _ _ (or_false (stray aid bid v (get_or here i 0)) _ (y.clear i h)).1).0).1

  pub home_x : (x : ℕ) → Mem x l → Home x
  home_x x m = let p = entry_of x m in subst Home p.is (home_at p.place p.early)

  pub home_f : differ home (end_at (point_at ax ay) (point_at bx by) (node_at aid) v f) ≡ false → Home f
  home_f e = same_point home (end_at (point_at ax ay) (point_at bx by) (node_at aid) v f) e

  -- ---- a clash
  abbrev clash : Bool
  clash = clash_at (point_at ax ay) (point_at bx by) (node_at aid) state here v j

  abbrev pub wrong : Bool
  wrong = wrong_at ax ay bx by aid bid state here v j

  wrong_by : clash ≡ true → wrong ≡ true
  wrong_by e = or_last (stray aid bid v f) clash e

  right_by : clash ≡ false → wrong ≡ false
  right_by e = false_or (stray aid bid v f) clash own e

  abbrev stands : Bool
  stands = stands_before here j f

  abbrev elsewhere : Bool
  elsewhere = apart (point_at ax ay) (point_at bx by) (node_at aid) v (get_or here 0 0) f

  abbrev alikes : Bool
  alikes = alike_before (point_at ax ay) (point_at bx by) (node_at aid) state here v j f

  pub wrong_stands : stands ≡ true → wrong ≡ true
  wrong_stands e = wrong_by (or_first stands elsewhere alikes e)

  together : differ home (end_at (point_at ax ay) (point_at bx by) (node_at aid) v f) ≡ false → elsewhere ≡ false
  together e = subst (λ p. differ p (end_at (point_at ax ay) (point_at bx by) (node_at aid) v f) ≡ false) y.home_is e

  -- a skipped entry
  pub right_skipped : differ home (end_at (point_at ax ay) (point_at bx by) (node_at aid) v f) ≡ false → get_or state f 0 ≡ 1 → stands ≡ false
      → wrong ≡ false
  right_skipped e s n = right_by (or_none stands elsewhere alikes n (together e)
      (some_no (λ i. alike (point_at ax ay) (point_at bx by) (node_at aid) state v (get_or here i 0) f) j
      (λ i h. not_second (not (skipped state (get_or here i 0))) (not (skipped state f)) _ (ap not (eq-eqb (get_or state f 0) 1 s)))))

  -- an unskipped entry
  module _ (unskipped : get_or state f 0 ≡ 1 → ⊥) where
    opened : (x : ℕ) → (get_or state x 0 ≡ 1 → ⊥) → not (skipped state x) ≡ true
    opened x o = ap not (ne_eqb (get_or state x 0) 1 o)

    pub wrong_alike : (x : ℕ) → Mem x l → same_direction (away_from g v x) (away_from g v f) ≡ true → wrong ≡ true
    wrong_alike x m d =
        let p = entry_of x m in
        wrong_by (or_third stands elsewhere alikes (some_at (λ i. alike (point_at ax ay) (point_at bx by) (node_at aid) state v (get_or here i 0) f) j p.place
        p.early (subst (λ z. alike (point_at ax ay) (point_at bx by) (node_at aid) state v z f ≡ true) (sym p.is)
        (and_all (not (skipped state x)) (not (skipped state f)) (same_direction (away_from g v x) (away_from g v f))
        (opened x (y.held.stood.ring.only x m).1) (opened f unskipped) d))))

    -- each link of the ring stands before it or after it
    module _ (order : (x : ℕ) → Mem x l → InOrder g v x f ⊎ InOrder g v f x) (new : (x : ℕ) → Mem x l → x ≡ f → ⊥) where
      ringed : (i : ℕ) → i < j → (get_or state (get_or here i 0) 0 ≡ 1 → ⊥) → Mem (get_or here i 0) l
      ringed i h o = y.held.stood.ring.every (get_or here i 0) (in_take here j i (omega arith) h) o

      none_stands : stands ≡ false
      none_stands = some_no (λ i. eqb (get_or here i 0) f) j (λ i h. ne_eqb (get_or here i 0) f
          (λ e. new (get_or here i 0) (ringed i h (λ s. unskipped (subst (λ z. get_or state z 0 ≡ 1) e s))) e))

      spread : (x : ℕ) → Mem x l → same_direction (away_from g v x) (away_from g v f) ≡ false
      spread x m = not_true (same_direction (away_from g v x) (away_from g v f)) (λ d. ⊎_elim
          (λ h. ring_apart g v x f (forward_x x m) forward_f h (true_is d))
          (λ h. ring_apart g v f x forward_f (forward_x x m) h (same_sym (away_from g v x) (away_from g v f) (true_is d))) (order x m))

      none_alike : alikes ≡ false
      none_alike = some_no (λ i. alike (point_at ax ay) (point_at bx by) (node_at aid) state v (get_or here i 0) f) j
          (λ i h. tell i h (skipped state (get_or here i 0)) refl)
        where
          tell : (i : ℕ) → i < j → (b : Bool) → skipped state (get_or here i 0) ≡ b
              → alike (point_at ax ay) (point_at bx by) (node_at aid) state v (get_or here i 0) f ≡ false
          tell i h true e = not_first (not (skipped state (get_or here i 0))) (not (skipped state f)) _ (ap not e)
          tell i h false e = not_third (not (skipped state (get_or here i 0))) (not (skipped state f)) _
              (spread (get_or here i 0) (ringed i h (eqb-false (get_or state (get_or here i 0) 0) 1 e)))

      pub right_ordered : differ home (end_at (point_at ax ay) (point_at bx by) (node_at aid) v f) ≡ false → wrong ≡ false
      right_ordered e = right_by (or_none stands elsewhere alikes none_stands (together e) none_alike)
