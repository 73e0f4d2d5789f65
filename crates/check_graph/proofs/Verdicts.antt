-- What the pass over the nodes tells of checks 5 to 7, both ways; and that a refusal is not right.
use Rattle.std.specs.Prelude.{Result, Ok, Err}
use Prim.Native.Nat.{ℕ, ◌*◌, ◌<◌}
use mathlib.Core.Path.{◌≡◌, refl, ap, subst}
use mathlib.Core.Bool.{Bool, true, false, ◌||◌}
use mathlib.Core.Bool as bool
use mathlib.Core.List.{List}
use lib.ListN.{length}
use Rattle.laws.specs.Test.{true≢false}
use Rattle.laws.specs.Lowest.{some, none_of, some_no}
use Rattle.graph.specs.Graph.{Lent, link_count, node_count}
use Rattle.graph.specs.Checks.{a_of, b_of, node_at, entries_of, bad_starts, nodes_checked}
use Rattle.graph.specs.Quick.{node_wrong}
use Rattle.graph.specs.Passes.{Rising}
use Rattle.graph.specs.Known.{Runs}
use Rattle.graph.specs.Tests.{rising}
use Rattle.graph.specs.Told.{LinksTold}
use Rattle.graph.specs.Sound.{fine_node, nodes_fine}
use Rattle.graph.specs.Complete.{not_wrong}
use Rattle.lay.specs.declared.Found.{Found}
use Rattle.lay.specs.declared.Found.TheVariants.{Fault, Nothing, Wide}
use Rattle.lay.specs.Promises.{Finds}
use Rattle.check_graph.specs.declared.Looked.{Looked}
use Rattle.check_graph.specs.declared.Looked.TheVariants as looked
use Rattle.turn.specs.Refusals.{no_fault}
use Rattle.turn.specs.declared.Refusal.{Refusal}

-- whether the answer is that all is right
abbrev is_right : Result Looked Refusal → Bool
is_right (Ok looked.Right) = true
is_right (Ok looked.Wide) = false
is_right (Err r) = false

pub not_right : (r : Refusal) → ◌≡◌ {A = Result Looked Refusal} (Err r) (Ok looked.Right) → ⊥
not_right r e = true≢false (ap is_right e) refl

pub not_done : ◌≡◌ {A = Result Looked Refusal} (Ok looked.Wide) (Ok looked.Right) → ⊥
not_done e = true≢false (ap is_right e) refl

-- a test that may stand for another wherever the second fails
pub stands_for : (r b ne : Bool) → (ne ≡ false → r ≡ b) → r || ne ≡ true → b || ne ≡ true
stands_for r true true h e = refl
stands_for r false true h e = refl
stands_for r b false h e = rw (h refl) at e

module _ (g : Lent) (state : List ℕ) (told : LinksTold g state) where
  -- something is wrong with node v
  abbrev pub wrong : ℕ → Bool
  wrong v = node_wrong g.a_id g.b_id (a_of g) (b_of g) (node_at g.a_id) state (entries_of g v) v

  pub runs_of : Runs g.ax g.ay g.bx g.by g.a_id g.b_id
  runs_of = record { same = told.ids.same; strict = told.strict; two = told.ids.two }

  pub rises : bad_starts g.start g.list ≡ false → Rising g.start g.list
  rises e = (rising g.start g.list told.starts).to e

  -- nothing is wrong: the checks find nothing
  pub none_wrong : bad_starts g.start g.list ≡ false → length g.list ≡ 2 * link_count g → some wrong (node_count g) ≡ false
      → nodes_checked g state ≡ no_fault
  none_wrong s t e = nodes_fine g state (rises s) told.ids (λ v l. fine_node _ _ _ _ _ _ _ v (none_of wrong (node_count g) e v l)) t s

  -- something is: they find something
  pub some_wrong : some wrong (node_count g) ≡ true → nodes_checked g state ≡ no_fault → ⊥
  some_wrong e f = true≢false e (some_no wrong (node_count g) (λ v l. not_wrong g state told.starts f v l))

  -- ---- by what the pass finds
  module _ (most : ℕ) (r : Found) (found : Finds (some wrong (node_count g)) (length g.list) most r) where
    pub fault_refused : r ≡ Fault → nodes_checked g state ≡ no_fault → ⊥
    fault_refused e = some_wrong (subst (Finds (some wrong (node_count g)) (length g.list) most) e found)

    pub nothing_fine : r ≡ Nothing → bad_starts g.start g.list ≡ false → length g.list ≡ 2 * link_count g → nodes_checked g state ≡ no_fault
    nothing_fine e s t = none_wrong s t (subst (Finds (some wrong (node_count g)) (length g.list) most) e found)

    pub wide_more : r ≡ Wide → most < length g.list
    wide_more e = subst (Finds (some wrong (node_count g)) (length g.list) most) e found
