-- Where the loop over a linked ring starts, and that what it ends with is the next link by rule 3.
use Rattle.std.specs.Prelude.{ℕ, ◌≡◌, refl, Bool, false, List, Option, Some, None}
use Rattle.std.proofs.Common.{sym, ap, ◌∙◌, subst}
use Rattle.laws.specs.Test.{true≢false}
use Rattle.graph.specs.Graph.{Graph}
use Rattle.next.specs.Next.{is_unvisited, next_link}
use Rattle.next.specs.Known.{NamesUnvisited}
use Rattle.next.specs.States.{is_unvisited_lem}
use Rattle.next.specs.Choice.{next_unvisited}
use Rattle.rings.specs.Ends.{link_of, end_of, end_link, end_once}
use Rattle.rings.specs.Follow.{next_end}

-- ---- the end that the loop gives back tells whether there is a next link, and which
pub none_next : (g : Graph) (sense : Bool) (st : List ℕ) (v e home : ℕ) → end_of g v e ≡ home → is_unvisited st e ≡ false
    → next_end g v home (next_link g sense st v e) ≡ home → next_link g sense st v e ≡ None
none_next g sense st v e home is_home o = by (next_link g sense st v e) (next_unvisited g sense st v e)
  where
    by : (a : Option ℕ) → NamesUnvisited st a → next_end g v home a ≡ home → a ≡ None
    by None u q = refl
    by (Some k) u q =
        absurd (true≢false (is_unvisited_lem st k u) (subst (λ x. is_unvisited st x ≡ false)
        (sym (end_once g v k e (q ∙ sym is_home))) o))

pub some_next : (g : Graph) (v home : ℕ) (a : Option ℕ) → (next_end g v home a ≡ home → ⊥)
    → a ≡ Some (link_of (next_end g v home a))
some_next g v home None d = absurd (d refl)
some_next g v home (Some k) d = ap Some (sym (end_link g v k))
