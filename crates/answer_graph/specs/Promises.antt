-- What the public function promises, written once: its contract names it, and any two outcomes that it allows are equal: answer, buffer, states.
use Rattle.std.specs.Prelude.{ℕ, ◌≡◌, Bool, List}
use Rattle.std.proofs.Common.{sym, ◌∙◌}
use Rattle.graph.specs.Graph.{Lent}
use Rattle.writing.specs.Write.{Wrote}
use Rattle.writing.specs.Promises.{wrote_once}
use Rattle.answer_graph.specs.GraphText.{graph_text, graph_states}

-- the states and the buffer before, then after, and the answer
abbrev pub AnswerGraphSays : Lent → List ℕ → Bool → ℕ → List ℕ → List ℕ → List ℕ → List ℕ → ℕ → Type 0
AnswerGraphSays g top cw minimum state old after new r =
    (Wrote old new 0 r (graph_text g top cw minimum state)) × (after ≡ graph_states g top cw minimum state)

pub answer_graph_once : (g : Lent) (top : List ℕ) (cw : Bool) (minimum : ℕ) (state old after after' new new' : List ℕ) (r r' : ℕ)
    → AnswerGraphSays g top cw minimum state old after new r
    → AnswerGraphSays g top cw minimum state old after' new' r'
    → (r ≡ r') × (new ≡ new') × (after ≡ after')
answer_graph_once g top cw minimum state old after after' new new' r r' p q =
    let o = wrote_once old 0 (graph_text g top cw minimum state) r r' new new' p.0 q.0 in
    (o.0, o.1, p.1 ∙ sym q.1)
