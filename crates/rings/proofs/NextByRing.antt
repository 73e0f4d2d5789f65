-- Rule 3 by the ring: at a `Cross` the next link is the first
-- unvisited one of the ring, read round from the link just walked.
use Rattle.std.specs.Prelude.{ℕ, ◌≡◌, Bool, false, List, length}
use Rattle.std.proofs.Common.{sym, ◌∙◌, subst}
use Rattle.laws.specs.Test.{true≢false}
use Rattle.turn.specs.Angular.{irreflexive, transitive}
use Rattle.graph.specs.Graph.{Graph}
use Rattle.graph.specs.Checks.{away_from}
use Rattle.next.specs.Next.{is_unvisited, unvisited_in, met_first, next_link}
use Rattle.next.specs.Choice.{Mem, unvisited_in_in, unvisited_in_of, next_met}
use Rattle.rings.specs.RingOrder.{Spread}
use Rattle.rings.specs.Rotation.{round_from, first_unvisited}
use Rattle.rings.proofs.Rotation.{of_round, in_round}
use Rattle.rings.specs.Rings.{Ring}
use Rattle.rings.proofs.Rings.{round_met}
use Rattle.rings.specs.NextByRing.{Marked, Open, first_in}

pub next_by_ring : {g : Graph} {state : List ℕ} {v : ℕ} → Spread g state v → {l : List ℕ} → Ring g state v l
    → (length (g.entries v) ≡ 2 → ⊥)
    → (st : List ℕ) → Marked g state v st → (e : ℕ) → Mem e l → is_unvisited st e ≡ false
    → (sense : Bool) → next_link g sense st v e ≡ first_unvisited st (round_from sense e l)
next_by_ring {g} {state} {v} sp {l} r cross st marked e m n sense =
    next_met g sense st v e cross ∙ first_in st (met_first g sense v e)
    (λ x. irreflexive sense (away_from g v e) (away_from g v x))
    (λ x y z. transitive sense (away_from g v e) (away_from g v x) (away_from g v y) (away_from g v z))
    (unvisited_in st (g.entries v)) (round_from sense e l) (round_met sp r e m sense) links
  where
    links : Open st (unvisited_in st (g.entries v)) (round_from sense e l)
    links = record {
      of = λ x i. let k = unvisited_in_of st (g.entries v) x i in (
        in_round sense e l (r.every x (record { listed = k.0; unskipped = marked x k.0 k.1 }))
            (λ q. true≢false k.1 (subst (λ y. is_unvisited st y ≡ false) (sym q) n)),
        k.1,
      );
      into = λ x i t. unvisited_in_in st (g.entries v) x (r.only x (of_round sense e l i)).listed t;
    }
