-- The ring as the code keeps it: each end leads to the next and to the one before,
-- all round. Followed from a link's end it is the ring read round from there.
use Rattle.std.specs.Prelude.{ℕ, Bool, true, false}
use Rattle.std.proofs.Common.{subst}
use mathlib.Core.List.{List, ◌∷◌}
use Rattle.graph.specs.Graph.{Graph}
use Rattle.next.specs.Choice.{Mem}
use Rattle.rings.specs.Rotation.{after, ahead, onward, round_from, split}
use Rattle.rings.specs.Linked.{AllRound, Along, Leads, Linked, along_back, step_of, turned_round}

round_onward : (P : ℕ → ℕ → Type 0) (l : List ℕ) (e : ℕ) → Mem e l → AllRound P l → Along P e e (onward e l)
round_onward P l e m a = turned_round P (ahead e l) (e ∷ after e l) (subst (AllRound P) (split e l m) a)

pub linked_round : {g : Graph} {v : ℕ} {l : List ℕ} {nxt prv : ℕ → ℕ} → Linked g v l nxt prv → (e : ℕ) → Mem e l
    → (sense : Bool)
    → Along (Leads g v (step_of sense nxt prv)) e e (round_from sense e l)
linked_round {g} {v} {l} {nxt} k e m false = round_onward (Leads g v nxt) l e m k.next
linked_round {g} {v} {l} {prv = prv} k e m true =
    along_back (λ x y. Leads g v prv y x) e e (onward e l) (round_onward (λ x y. Leads g v prv y x) l e m k.back)
