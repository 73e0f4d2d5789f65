-- The way of a link, and where one link ends at the node where the next begins.
use Rattle.std.specs.Prelude.{ℕ, ◌<◌, ◌≡◌, refl, Bool, true, false, not}
use Rattle.std.proofs.Common.{sym}
use Rattle.std.specs.Bool.{beq}
use Rattle.laws.specs.Test.{pick}
use Rattle.graph.specs.Graph.{Graph}
use Rattle.graph.specs.Fine.{OnePoint}

-- the way of a link, two ways to say it
pub way_is : (t cw : Bool) → not (beq t cw) ≡ beq t (not cw)
way_is true true = refl
way_is true false = refl
way_is false true = refl
way_is false false = refl

module _ (g : Graph) (pt : OnePoint g) (cw : Bool) where
  pub meet : (s s' : Bool) (j k : ℕ) → j < g.n → k < g.n → pick s (g.b_node j) (g.a_node j) ≡ pick s' (g.a_node k) (g.b_node k)
      → pick s (g.b j) (g.a j) ≡ pick s' (g.a k) (g.b k)
  meet true true j k hj hk e = sym (pt.ab k j hk hj (sym e))
  meet true false j k hj hk e = pt.bb j k hj hk e
  meet false true j k hj hk e = pt.aa j k hj hk e
  meet false false j k hj hk e = pt.ab j k hj hk e
