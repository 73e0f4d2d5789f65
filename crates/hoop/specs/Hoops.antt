-- The ring of a `Cross` while an end is put into it: where an end stands against another, where one more end goes,
-- and what linking it leaves.
use Rattle.std.specs.Prelude.{ℕ, ◌+◌, ◌*◌, ◌-◌, ◌≤◌, ◌<◌, ◌≡◌, true, List, eqb, pos, length, get_or, set, Option, Some, None}
use Rattle.std.specs.Int.Signed.{lt_z}
use Rattle.laws.specs.Test.{pick}
use Rattle.turn.specs.declared.Point.{Point}
use Rattle.turn.specs.declared.Vector.{Vector}
use Rattle.turn.specs.Limits.{max_links}
use Rattle.turn.specs.Points.{from_to, cross}
use Rattle.rings.specs.Ends.{link_of, is_a}
use Rattle.rings.specs.RingOrder.{in_turn}
use Rattle.rings.specs.Field.{cross_mark, wrap_mark}
use Rattle.hoop.specs.declared.Hoop.{Hoop}
use Rattle.std.specs.declared.cmp.Ordering.{Ordering}
use Rattle.std.specs.declared.cmp.Ordering.TheVariants.{Less, Equal, Greater}
use Rattle.hoop.specs.declared.Place.{Place}
use Rattle.hoop.specs.declared.Place.TheVariants.{First, After, Alike}

-- ---- ends of one point, `home`, by the links' points a and b
-- the point at the other end of end h's link
abbrev pub far_point : (ℕ → Point) → (ℕ → Point) → ℕ → Point
far_point a b h = pick (is_a h) (b (link_of h)) (a (link_of h))

-- the way that end h runs from their point
abbrev pub way_of : (ℕ → Point) → (ℕ → Point) → Point → ℕ → Vector
way_of a b home h = from_to home (far_point a b h)

-- end h stands before end k
pub record Before (a b : ℕ → Point) (home : Point) (h k : ℕ) : Type 0 where
  pub turns : in_turn (is_a h) (is_a k) (lt_z (pos 0) (cross (way_of a b home h) (way_of a b home k))) ≡ true

-- they are of one sort, and run one way
pub record Parallel (a b : ℕ → Point) (home : Point) (h k : ℕ) : Type 0 where
  pub sort : is_a h ≡ is_a k
  pub flat : cross (way_of a b home h) (way_of a b home k) ≡ pos 0

-- where end h stands against end q
abbrev pub Stands : (ℕ → Point) → (ℕ → Point) → Point → ℕ → ℕ → Ordering → Type 0
Stands a b home h q Less = Before a b home h q
Stands a b home h q Equal = Parallel a b home h q
Stands a b home h q Greater = Before a b home q h

-- ---- the search for an end's place, backward; link x of a list l has the end e x
-- there are `count` of them, `tail` is the last, and `prv` leads from each to the one before
pub record Backed (e : ℕ → ℕ) (l prv : List ℕ) (tail count : ℕ) : Type 0 where
  pub counted : count ≡ length l
  pub tailed : 0 < count → tail ≡ e (get_or l (count - 1) 0)
  pub back : (i : ℕ) → i + 1 < length l → get_or prv (e (get_or l (i + 1) 0)) 0 ≡ e (get_or l i 0)

-- there is such a list, of ends of n links
pub record Sought (n : ℕ) (prv : List ℕ) (hoop : Hoop) : Type 0 where
  pub few : n ≤ max_links
  pub long : 2 * n ≤ length prv
  pub ends : ℕ → ℕ
  pub links : List ℕ
  pub below : (i : ℕ) → i < length links → ends (get_or links i 0) < 2 * n
  pub backed : Backed ends links prv hoop.tail hoop.count

module _ (a b : ℕ → Point) (home : Point) (e : ℕ → ℕ) (l : List ℕ) (q : ℕ) where
  -- end q stands before all of them from number i on
  abbrev pub BeforeFrom : ℕ → Type 0
  BeforeFrom i = (j : ℕ) → i ≤ j → j < length l → Before a b home q (e (get_or l j 0))

  -- end h stands before q, and q before all that follow h
  pub record GoesAfter (h : ℕ) : Type 0 where
    pub place : ℕ
    pub within : place < length l
    pub here : h ≡ e (get_or l place 0)
    pub first : Before a b home h q
    pub rest : BeforeFrom (place + 1)

  -- end q runs as one of them does, and stands before all that follow that one
  pub record RunsAlike : Type 0 where
    pub place : ℕ
    pub within : place < length l
    pub parallel : Parallel a b home (e (get_or l place 0)) q
    pub rest : BeforeFrom (place + 1)

  abbrev pub Placed : Place → Type 0
  Placed First = BeforeFrom 0
  Placed (After h) = GoesAfter h
  Placed Alike = RunsAlike

-- ---- an end is linked at its place
pub record Outcome : Type 0 where
  pub taken : Option Hoop
  pub nxt : List ℕ
  pub prv : List ℕ

abbrev pub after : Option Hoop → List ℕ → List ℕ → Outcome
after taken nxt prv = record { taken = taken; nxt = nxt; prv = prv }

abbrev pub makes : ℕ → ℕ → ℕ → Option Hoop
makes head tail count = Some (record { head = head; tail = tail; count = count })

-- q between the ends r and a: `onto` and `from` are what `nxt` holds of q and of r
abbrev pub link_end : List ℕ → List ℕ → ℕ → ℕ → ℕ → ℕ → ℕ → Option Hoop → Outcome
link_end nxt prv r q a onto from t = after t (set (set nxt q onto) r from) (set (set prv q r) a q)

abbrev pub put_end : List ℕ → List ℕ → Hoop → Place → ℕ → Outcome
put_end nxt prv hoop Alike q = after None nxt prv
put_end nxt prv hoop First q =
    pick (eqb hoop.count 0) (after (makes q q 1) (set nxt q (wrap_mark + q)) (set prv q q))
    (link_end nxt prv hoop.tail q hoop.head (cross_mark + hoop.head) (wrap_mark + q)
    (makes q hoop.tail (hoop.count + 1)))
put_end nxt prv hoop (After r) q =
    pick (eqb r hoop.tail)
    (link_end nxt prv hoop.tail q hoop.head (wrap_mark + hoop.head) (cross_mark + q)
    (makes hoop.head q (hoop.count + 1)))
    (link_end nxt prv r q (get_or nxt r 0 - cross_mark) (get_or nxt r 0) (cross_mark + q)
    (makes hoop.head hoop.tail (hoop.count + 1)))

-- ends of n links: where the ring's last end is not r, `nxt` holds another end of them for r
abbrev pub PlaceFits : ℕ → List ℕ → Hoop → Place → Type 0
PlaceFits n nxt hoop First = Unit
PlaceFits n nxt hoop Alike = Unit
PlaceFits n nxt hoop (After r) =
    (0 < hoop.count) × (r < 2 * n) ×
    ((r ≡ hoop.tail → ⊥) → (cross_mark ≤ get_or nxt r 0) × (get_or nxt r 0 < cross_mark + 2 * n))

pub record Fits (nxt prv : List ℕ) (hoop : Hoop) (place : Place) (q : ℕ) : Type 0 where
  pub n : ℕ
  pub few : n ≤ max_links
  pub nxt_long : 2 * n ≤ length nxt
  pub prv_long : 2 * n ≤ length prv
  pub below : q < 2 * n
  pub count : hoop.count ≤ n
  pub hoop_below : 0 < hoop.count → (hoop.head < 2 * n) × (hoop.tail < 2 * n)
  pub place_fits : PlaceFits n nxt hoop place
