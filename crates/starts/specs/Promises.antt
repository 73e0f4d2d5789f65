-- What the public function promises, written once: its contract names it, and any two outcomes that it allows are equal.
use Rattle.std.specs.Prelude.{◌≡◌, ℕ, ◌*◌, ◌≤◌, Bool, List, length}
use Rattle.std.proofs.Common.{sym, ◌∙◌}
use Rattle.turn.specs.Limits.{max_links}
use Rattle.graph.specs.Checks.{bad_starts}

-- of a list of at most two entries for each of the most links
abbrev pub WrongStartsSays : List ℕ → List ℕ → Bool → Type 0
WrongStartsSays start list r = length list ≤ 2 * max_links → r ≡ bad_starts start list

pub wrong_starts_once : (start list : List ℕ) → length list ≤ 2 * max_links → (r s : Bool) → WrongStartsSays start list r → WrongStartsSays start list s
    → r ≡ s
wrong_starts_once start list few r s p q = p few ∙ sym (q few)
