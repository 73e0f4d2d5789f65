-- The entries of a `Cross` that have been taken: their ring in the lists, what the hoop tells of it, and what is known of each.
use Rattle.std.specs.Prelude.{ℕ, ◌+◌, ◌*◌, ◌≤◌, ◌<◌, ◌≡◌, Bool, true, ◌||◌, List, [], ◌∷◌, ℤ, length, get_or, take, Option, Some, None}
use Rattle.laws.specs.Lowest.{NoneBelow}
use Rattle.turn.specs.declared.Point.{Point}
use Rattle.turn.specs.Limits.{max_links}
use Rattle.turn.specs.Points.{before}
use Rattle.graph.specs.Graph.{Graph, point_at}
use Rattle.graph.specs.Checks.{node_at, end_at, stray}
use Rattle.graph.specs.Quick.{clash_at}
use Rattle.graph.specs.Known.{Points, Grids}
use Rattle.spokes.specs.Links.{links_of}
use Rattle.next.specs.Choice.{Mem}
use Rattle.rings.specs.Ends.{end_of}
use Rattle.rings.specs.Linked.{Linked}
use Rattle.rings.specs.Climb.{AtLast}
use Rattle.rings.specs.Making.{RingOf}
use Rattle.rings.specs.Field.{cross_mark, next_of, prev_of, wraps_at}
use Rattle.hoop.specs.declared.Hoop.{Hoop}

-- the last of a list, or d
abbrev pub last_of : ℕ → List ℕ → ℕ
last_of d [] = d
last_of d (x ∷ l) = last_of x l

-- their ring, l, stands in the lists
pub record Stood (g : Graph) (state : List ℕ) (v : ℕ) (taken nxt prv l : List ℕ) : Type 0 where
  pub ring : RingOf g state v taken l
  pub linked : Linked g v l (next_of nxt) (prev_of prv)
  pub marked : (k : ℕ) → Mem k l → cross_mark ≤ get_or nxt (end_of g v k) 0
  pub last : AtLast (λ x. wraps_at nxt (end_of g v x)) l

-- the hoop tells the ends of l
pub record Told (g : Graph) (v : ℕ) (l : List ℕ) (hoop : Hoop) : Type 0 where
  pub counted : hoop.count ≡ length l
  pub headed : 0 < length l → hoop.head ≡ end_of g v (get_or l 0 0)
  pub tailed : 0 < length l → hoop.tail ≡ end_of g v (last_of 0 l)

pub record Held (g : Graph) (state : List ℕ) (v : ℕ) (taken nxt prv : List ℕ) (hoop : Hoop) : Type 0 where
  pub links : List ℕ
  pub stood : Stood g state v taken nxt prv links
  pub told : Told g v links hoop

-- entry i of node v is no link with an end there, or clashes with the first entry or an earlier one
abbrev pub wrong_at : List ℤ → List ℤ → List ℤ → List ℤ → List ℕ → List ℕ → List ℕ → List ℕ → ℕ → ℕ → Bool
wrong_at ax ay bx by aid bid state here v i =
    stray aid bid v (get_or here i 0) || clash_at (point_at ax ay) (point_at bx by) (node_at aid) state here v i

module _ (ax ay bx by : List ℤ) (aid bid state here : List ℕ) (v : ℕ) (home : Point) where
  -- the first j entries of node v have been taken; `home` is the first one's point there
  pub record Laying (nxt prv : List ℕ) (j : ℕ) (hoop : Hoop) : Type 0 where
    pub points : Points ax ay bx by (length aid)
    pub grids : Grids ax ay bx by (length aid)
    pub strict : (k : ℕ) → k < length aid → before (point_at ax ay k) (point_at bx by k) ≡ true
    pub same : length bid ≡ length aid
    pub states : length state ≡ length aid
    pub few : length aid ≤ max_links
    pub nxt_long : 2 * length aid ≤ length nxt
    pub prv_long : 2 * length aid ≤ length prv
    pub first_below : get_or here 0 0 < length aid
    pub home_is : home ≡ end_at (point_at ax ay) (point_at bx by) (node_at aid) v (get_or here 0 0)
    pub clear : NoneBelow (wrong_at ax ay bx by aid bid state here v) j
    pub held : Held (links_of ax ay bx by aid) state v (take j here) nxt prv hoop

  -- what becomes of entry j
  abbrev pub Entered : List ℕ → List ℕ → ℕ → Option Hoop → Type 0
  Entered nxt prv j None = wrong_at ax ay bx by aid bid state here v j ≡ true
  Entered nxt prv j (Some hoop) = Laying nxt prv (j + 1) hoop
