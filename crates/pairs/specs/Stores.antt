-- What is stored for the two entries of a `Bridge`.
use Rattle.std.specs.Prelude.{ℕ, Bool, List, set}
use Rattle.laws.specs.Test.{pick}

-- i is stored at p, then j at q
abbrev pub paired : List ℕ → ℕ → ℕ → ℕ → ℕ → List ℕ
paired l p i q j = set (set l p i) q j

-- of entries e and f, whose a's are there, e is named, or f
abbrev pub led : Bool → List ℕ → ℕ → ℕ → List ℕ
led first lead e f = pick first (paired lead e 1 f 2) (paired lead e 2 f 1)
