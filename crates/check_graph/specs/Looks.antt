-- What the checks answer where they may stop at a node of many entries, and what is known of a graph where they do.
use Rattle.std.specs.Prelude.{ℕ, ◌*◌, ◌<◌, ◌≡◌, List, length, Result, Ok, Err}
use Rattle.std.proofs.Common.{sym}
use Rattle.graph.specs.Graph.{Lent, link_count}
use Rattle.graph.specs.Passes.{Rising}
use Rattle.graph.specs.Told.{LinksTold}
use Rattle.check_graph.specs.declared.Looked.{Looked}
use Rattle.check_graph.specs.declared.Looked.TheVariants.{Right, Wide}
use Rattle.turn.specs.Refusals.{Checked, no_fault}
use Rattle.turn.specs.declared.Refusal.{Refusal}

-- what the checks say, as an answer
abbrev pub looked_as : Checked → Result Looked Refusal
looked_as (Ok u) = Ok Right
looked_as (Err r) = Err r

-- checks 1 to 4 find nothing, nor does check 5 with the starts and the list's length
pub record Countable (g : Lent) (state : List ℕ) : Type 0 where
  pub links : LinksTold g state
  pub rising : Rising g.start g.list
  pub total : length g.list ≡ 2 * link_count g

-- the answer is what is said; they stop only where the list has more than `most` entries, at a graph that is countable
abbrev pub Looks : Lent → List ℕ → ℕ → Checked → Result Looked Refusal → Type 0
Looks g state most said (Ok Right) = said ≡ no_fault
Looks g state most said (Err r) = said ≡ Err r
Looks g state most said (Ok Wide) = (most < length g.list) × (Countable g state)

-- they answer what is said
pub looks_as : (g : Lent) (state : List ℕ) (most : ℕ) (said c : Checked) → c ≡ said → Looks g state most said (looked_as c)
looks_as g state most said (Ok u) e = sym e
looks_as g state most said (Err r) e = sym e
