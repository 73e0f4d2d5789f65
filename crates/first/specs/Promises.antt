-- What each public function promises, written once: its contract names it, and any two outcomes that it allows are equal.
use Rattle.std.specs.Prelude.{List, ◌≡◌, ℤ, ℕ, Option}
use Rattle.std.proofs.Common.{sym, ◌∙◌}
use Rattle.laws.specs.Unique.{Determines}
use Rattle.graph.specs.Graph.{Graph}
use Rattle.next.specs.Next.{first_link}
use Rattle.rings.specs.Field.{Firsts, Reads}
use Rattle.first.specs.Leading.{Resumes, Asked}

-- for every graph whose field of ends and whose points the lists hold, and of which held is told rightly
abbrev pub FindLeftTopLinkSays : (ax ay bx by : List ℤ) (nxt prv lead state : List ℕ) (k : ℕ) (held : Option ℕ) → Option ℕ → Type 0
FindLeftTopLinkSays ax ay bx by nxt prv lead state k held r =
    (g : Graph) → Firsts g nxt lead state → Reads g ax ay bx by → Resumes g nxt prv state k held → r ≡ first_link g state k

-- that there is such a graph is required
pub find_left_top_link_once : (ax ay bx by : List ℤ) (nxt prv lead state : List ℕ) (k : ℕ) (held : Option ℕ)
    → Asked ax ay bx by nxt prv lead state k held → Determines (FindLeftTopLinkSays ax ay bx by nxt prv lead state k held)
find_left_top_link_once ax ay bx by nxt prv lead state k held a r s p q =
    let b = a.begun in
    p b.graph b.firsts b.reads a.resumes ∙ sym (q b.graph b.firsts b.reads a.resumes)
