-- What each public function promises, written once: its contract names it, and any two outcomes that it allows are equal.
use Rattle.std.specs.Prelude.{List, ◌≡◌, Bool, false, not, ◌&&◌, ℕ}
use Rattle.laws.specs.Test.{pick}
use Rattle.laws.specs.Unique.{Determines, by_equation}
use Rattle.turn.specs.declared.Point.{Point}
use Rattle.graph.specs.Checks.{skipped}
use Rattle.graph.specs.Quick.{like_wrong}
use Rattle.pairs.specs.Stores.{paired, led}

abbrev pub LayPairSays : List ℕ → (p i q j : ℕ) → List ℕ → Type 0
LayPairSays nxt p i q j nxt' = nxt' ≡ paired nxt p i q j

pub lay_pair_once : (nxt : List ℕ) (p i q j : ℕ) → Determines (LayPairSays nxt p i q j)
lay_pair_once nxt p i q j = by_equation (paired nxt p i q j)

abbrev pub ParallelWrongSays : List ℕ → Bool → (e f : ℕ) → Bool → Type 0
ParallelWrongSays state parallel e f r = r ≡ pick parallel (not (skipped state e) && not (skipped state f)) false

pub parallel_wrong_once : (state : List ℕ) (parallel : Bool) (e f : ℕ) → Determines (ParallelWrongSays state parallel e f)
parallel_wrong_once state parallel e f = by_equation (pick parallel (not (skipped state e) && not (skipped state f)) false)

abbrev pub LikeWrongSays : (p q : ℕ → Point) → (pId state : List ℕ) → (v e f : ℕ) → Bool → Type 0
LikeWrongSays p q pId state v e f r = r ≡ like_wrong pId p q state v e f

pub like_wrong_once : (p q : ℕ → Point) (pId state : List ℕ) (v e f : ℕ) → Determines (LikeWrongSays p q pId state v e f)
like_wrong_once p q pId state v e f = by_equation (like_wrong pId p q state v e f)

abbrev pub SetLeadSays : List ℕ → Bool → (e f : ℕ) → List ℕ → Type 0
SetLeadSays lead first e f lead' = lead' ≡ led first lead e f

pub set_lead_once : (lead : List ℕ) (first : Bool) (e f : ℕ) → Determines (SetLeadSays lead first e f)
set_lead_once lead first e f = by_equation (led first lead e f)
