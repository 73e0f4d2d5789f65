-- The ends of the links, each link directed as it is walked.
use Rattle.std.specs.Prelude.{ℕ, ◌<◌, ◌≡◌, ◌⊎◌, Bool, true, false, not, List, eqb}
use Rattle.std.proofs.Math.Decide.{ℕ_discrete}
use Rattle.std.proofs.Common.{sym, ap, ◌∙◌, subst, inl, inr, ⊎_elim, eq-eqb, ne_eqb}
use Rattle.laws.specs.Test.{pick, pick_true, pick_false}
use Rattle.graph.specs.Graph.{Graph}
use Rattle.next.specs.Next.{other}
use Rattle.next.specs.Choice.{Mem}
use Rattle.walk.specs.Walk.{step_from}
use Rattle.scan.specs.Scan.{sense_of}
use Rattle.walk.specs.States.{Unvisited}

-- the end at which a link arrives, and the end at which it leaves
pub data End : Type 0 where
  hd : ℕ → End
  tl : ℕ → End

abbrev pub link : End → ℕ
link (hd k) = k
link (tl k) = k

abbrev pub arrives : End → Bool
arrives (hd k) = true
arrives (tl k) = false

-- the way in which link k is walked: forward, from its a to its b, or backward
abbrev pub way_of : Graph → Bool → ℕ → Bool
way_of g cw k = not (sense_of g cw k)

-- the node where link k ends, and where it begins, as it is walked
abbrev pub head_n : Graph → Bool → ℕ → ℕ
head_n g cw k = pick (way_of g cw k) (g.b_node k) (g.a_node k)

abbrev pub tail_n : Graph → Bool → ℕ → ℕ
tail_n g cw k = pick (way_of g cw k) (g.a_node k) (g.b_node k)

abbrev pub node : Graph → Bool → End → ℕ
node g cw (hd k) = head_n g cw k
node g cw (tl k) = tail_n g cw k

-- an end of an unvisited link
abbrev pub UnvisitedEnd : List ℕ → End → Type 0
UnvisitedEnd st x = Unvisited st (link x)

-- the lists of the nodes hold each link at its two nodes, which differ, and nothing else
pub record Listed (g : Graph) : Type 0 where
  pub differ : (k : ℕ) → k < g.n → g.a_node k ≡ g.b_node k → ⊥
  pub at_a : (k : ℕ) → k < g.n → Mem k (g.entries (g.a_node k))
  pub at_b : (k : ℕ) → k < g.n → Mem k (g.entries (g.b_node k))
  pub only : (v k : ℕ) → Mem k (g.entries v) → (g.a_node k ≡ v) ⊎ (g.b_node k ≡ v)

hd≢tl : (k j : ℕ) → hd k ≡ tl j → ⊥
hd≢tl k j e = subst IsHd e tt
  where
    IsHd : End → Type 0
    IsHd (hd k) = Unit {0}
    IsHd (tl k) = ⊥

pub dec : (x y : End) → Dec (x ≡ y)
dec (hd k) (hd j) = elim (ℕ_discrete k j) [ yes p ↦ yes (ap hd p) | no n ↦ no (λ e. n (ap link e)) ]
dec (hd k) (tl j) = no (hd≢tl k j)
dec (tl k) (hd j) = no (λ e. hd≢tl j k (sym e))
dec (tl k) (tl j) = elim (ℕ_discrete k j) [ yes p ↦ yes (ap tl p) | no n ↦ no (λ e. n (ap link e)) ]

-- which end is at a node
which : (b : Bool) (p q v : ℕ) → (p ≡ v) ⊎ (q ≡ v) → (pick b p q ≡ v) ⊎ (pick b q p ≡ v)
which true p q v e = e
which false p q v e = ⊎_elim inr inl e

either : (b : Bool) (p q : ℕ) (P : ℕ → Type 0) → P p → P q → P (pick b p q)
either true p q P x y = x
either false p q P x y = y

leaves : (b : Bool) (p q v : ℕ) → (p ≡ q → ⊥) → pick b p q ≡ v → (eqb p v ≡ b) × (pick (eqb p v) q p ≡ pick b q p)
leaves true p q v d e = let t : eqb p v ≡ true = eq-eqb p v e in (t, pick_true q p t)
leaves false p q v d e = let t : eqb p v ≡ false = ne_eqb p v (λ k. d (k ∙ sym e)) in (t, pick_false q p t)

apart : (b : Bool) (p q : ℕ) → (p ≡ q → ⊥) → pick b q p ≡ pick b p q → ⊥
apart true p q d e = d (sym e)
apart false p q d e = d e

module _ (g : Graph) (ok : Listed g) (cw : Bool) where
  pub end_at_lem : (v k : ℕ) → Mem k (g.entries v) → (tail_n g cw k ≡ v) ⊎ (head_n g cw k ≡ v)
  end_at_lem v k m = which (way_of g cw k) (g.a_node k) (g.b_node k) v (ok.only v k m)

  pub listed : (x : End) → link x < g.n → Mem (link x) (g.entries (node g cw x))
  listed (hd k) h = either (way_of g cw k) (g.b_node k) (g.a_node k) (λ v. Mem k (g.entries v)) (ok.at_b k h) (ok.at_a k h)
  listed (tl k) h = either (way_of g cw k) (g.a_node k) (g.b_node k) (λ v. Mem k (g.entries v)) (ok.at_a k h) (ok.at_b k h)

  -- a link left from its tail is walked in its direction, to its head
  pub leave : (v k : ℕ) → k < g.n → tail_n g cw k ≡ v → ((step_from g v k).forward ≡ way_of g cw k) × (other g v k ≡ head_n g cw k)
  leave v k h e = leaves (way_of g cw k) (g.a_node k) (g.b_node k) v (ok.differ k h) e

  head≢tail : (k : ℕ) → k < g.n → head_n g cw k ≡ tail_n g cw k → ⊥
  head≢tail k h = apart (way_of g cw k) (g.a_node k) (g.b_node k) (ok.differ k h)

  -- two ends of one node and one link are one
  pub same_end : (x y : End) → link x < g.n → link x ≡ link y → node g cw x ≡ node g cw y → x ≡ y
  same_end (hd k) (hd j) h e n = ap hd e
  same_end (hd k) (tl j) h e n = absurd (head≢tail k h (n ∙ ap (tail_n g cw) (sym e)))
  same_end (tl k) (hd j) h e n = absurd (head≢tail k h (ap (head_n g cw) e ∙ sym n))
  same_end (tl k) (tl j) h e n = ap tl e
