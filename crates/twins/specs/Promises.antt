-- What each public function promises, written once: its contract names it, and any two outcomes that it allows are equal.
use Rattle.std.specs.Prelude.{List, ◌≡◌, Bool, ℕ}
use Rattle.std.proofs.Common.{sym, ap, ◌∙◌}
use Rattle.laws.specs.Test.{pick}
use Rattle.turn.specs.declared.Point.{Point}
use Rattle.turn.specs.Points.{clockwise}
use Rattle.graph.specs.Quick.{like_wrong}
use Rattle.rings.specs.Ends.{a_end, b_end}
use Rattle.pairs.specs.Stores.{paired, led}

-- the answer, then both lists: as before where something is wrong
abbrev pub LayTwoASays : (a b : ℕ → Point) → (a_id state : List ℕ) → (v e f : ℕ) → (nxt lead : List ℕ) → Bool → (nxt' lead' : List ℕ) → Type 0
LayTwoASays a b a_id state v e f nxt lead r nxt' lead' =
    (r ≡ like_wrong a_id a b state v e f)
    × ((nxt' ≡ pick r nxt (paired nxt (a_end e) (b_end f) (a_end f) (b_end e)))
    × (lead' ≡ pick r lead (led (clockwise (a e) (b e) (b f)) lead e f)))

pub lay_two_a_once : (a b : ℕ → Point) (a_id state : List ℕ) (v e f : ℕ) (nxt lead : List ℕ) (r s : Bool) (nxt₁ nxt₂ lead₁ lead₂ : List ℕ)
    → LayTwoASays a b a_id state v e f nxt lead r nxt₁ lead₁ → LayTwoASays a b a_id state v e f nxt lead s nxt₂ lead₂
    → (r ≡ s) × (nxt₁ ≡ nxt₂) × (lead₁ ≡ lead₂)
lay_two_a_once a b a_id state v e f nxt lead r s nxt₁ nxt₂ lead₁ lead₂ p q =
    let same : r ≡ s = p.0 ∙ sym q.0 in (
      same,
      p.1.0 ∙ ap (λ (t : Bool). pick t nxt (paired nxt (a_end e) (b_end f) (a_end f) (b_end e))) same ∙ sym q.1.0,
      p.1.1 ∙ ap (λ (t : Bool). pick t lead (led (clockwise (a e) (b e) (b f)) lead e f)) same ∙ sym q.1.1,
    )

-- the answer, then the list: as before where something is wrong
abbrev pub LayTwoBSays : (a b : ℕ → Point) → (b_id state : List ℕ) → (v e f : ℕ) → List ℕ → Bool → List ℕ → Type 0
LayTwoBSays a b b_id state v e f nxt r nxt' =
    (r ≡ like_wrong b_id b a state v e f) × (nxt' ≡ pick r nxt (paired nxt (b_end e) (a_end f) (b_end f) (a_end e)))

pub lay_two_b_once : (a b : ℕ → Point) (b_id state : List ℕ) (v e f : ℕ) (nxt : List ℕ) (r s : Bool) (nxt₁ nxt₂ : List ℕ)
    → LayTwoBSays a b b_id state v e f nxt r nxt₁ → LayTwoBSays a b b_id state v e f nxt s nxt₂ → (r ≡ s) × (nxt₁ ≡ nxt₂)
lay_two_b_once a b b_id state v e f nxt r s nxt₁ nxt₂ p q =
    let same : r ≡ s = p.0 ∙ sym q.0 in
    (same, p.1 ∙ ap (λ (t : Bool). pick t nxt (paired nxt (b_end e) (a_end f) (b_end f) (a_end e))) same ∙ sym q.1)
