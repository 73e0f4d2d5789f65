-- What each public function promises, written once: its contract names it, and any two outcomes that it allows are equal.
use Rattle.std.specs.Prelude.{ℕ, ◌≡◌, List, length, Option, Some, None}
use Rattle.std.proofs.Common.{sym, ap, ◌∙◌}
use Rattle.laws.specs.Unique.{Determines}
use Rattle.graph.specs.Graph.{Graph}
use Rattle.rings.specs.Ends.{a_end}
use Rattle.rings.specs.Climb.{Above}
use Rattle.rings.specs.Field.{next_of, wraps_at}
use Rattle.topmost.specs.Ring.{Rises, LeftAt, Falls}

-- the link that an answer names
abbrev link_named : Option ℕ → ℕ
link_named (Some k) = k
link_named None = 0

same_link : (r s : ℕ) (answer : Option ℕ) → Some r ≡ answer → Some s ≡ answer → r ≡ s
same_link r s answer p q = ap link_named (p ∙ sym q)

-- for every graph, node and answer to which the ring leads up from link k
abbrev pub TopmostSays : (nxt state : List ℕ) (k : ℕ) → ℕ → Type 0
TopmostSays nxt state k r =
    (g : Graph) (v : ℕ) (answer : Option ℕ) → Above g v (next_of nxt) (wraps_at nxt) (length state) state answer (a_end k) k → Some r ≡ answer

-- that there are such is required
pub topmost_once : (nxt state : List ℕ) (k : ℕ) → Rises nxt state k → Determines (TopmostSays nxt state k)
topmost_once nxt state k a r s p q =
    same_link r s a.answer (p a.graph a.node a.answer a.above) (q a.graph a.node a.answer a.above)

-- for every graph, node and answer to which the ring leads down from link held
abbrev pub NextBelowSays : (prv state : List ℕ) (held : ℕ) → ℕ → Type 0
NextBelowSays prv state held r = (g : Graph) (v : ℕ) (answer : Option ℕ) → LeftAt g v prv state held answer (a_end held) → Some r ≡ answer

-- that there are such is required
pub next_below_once : (prv state : List ℕ) (held : ℕ) → Falls prv state held → Determines (NextBelowSays prv state held)
next_below_once prv state held a r s p q =
    same_link r s (Some a.link) (p a.graph a.node (Some a.link) a.left) (q a.graph a.node (Some a.link) a.left)
