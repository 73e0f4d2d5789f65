-- `twins::lay_two_b` meets its contract: nothing is wrong, and both entries' ends are stored.
use mathlib.Core.Path.{refl, sym, ◌∙◌}
use Rattle.twins.proofs.lay_two_b.Goals as goal

pub like_wrong-requires : goal.like_wrong-requires
like_wrong-requires c = let p = c.requires in record {
  points = p.points;
  grids = p.grids;
  state_len = p.state_len;
  e_in_bounds = p.e_in_bounds;
}

pub returns-then-like_wrong : goal.returns-then-like_wrong
returns-then-like_wrong c = (sym c.if-like_wrong.true ∙ c.like_wrong.ensures, refl)

pub returns : goal.returns
returns c =
    let t = c in
    (sym t.if-like_wrong.false ∙ t.like_wrong.ensures, c.lay_pair.ensures)
