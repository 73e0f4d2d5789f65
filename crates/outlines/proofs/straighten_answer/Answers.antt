-- `outlines::straighten_answer` meets its contract: by the answer's case.
use Rattle.std.specs.Prelude.{Result, Ok}
use mathlib.Core.Path.{◌≡◌, sym, ap, ◌∙◌, subst}
use Rattle.std.proofs.Common.{true, ℕ, ℤ, List}
use Rattle.straighten.specs.Promises.{Straightened}
use Rattle.outlines.specs.Promises.{answered, straight_by, StandsFor}
use Rattle.std.proofs.lemmas.Result.{err_from_is_err_and}
use Rattle.outlines.proofs.straighten_answer.Goals as goal
use Rattle.turn.specs.declared.Refusal.{Refusal}
use Rattle.keep.specs.declared.Counts.{Counts}

-- the definition at the answer that the code has met
met : (answer a : Result Counts Refusal) (points : List ℤ) (first len : List ℕ) → answer ≡ a
    → straight_by true a points first len ≡ straight_by true answer points first len
met answer a points first len q = ap (λ (y : Result Counts Refusal). straight_by true y points first len) (sym q)

pub drop_straight-requires : goal.drop_straight-requires
drop_straight-requires c =
    subst (λ (a : Result Counts Refusal). StandsFor a c.args.points.now c.args.first.now c.args.len.now) c.in_ok-c.was c.requires

pub returns-in_err-c : goal.returns-in_err-c
returns-in_err-c c =
    let p = err_from_is_err_and c.from_residual.result c.from_residual.ensures.1 in
    rw (p.1, p.2) (met c.args.answer _ c.args.points.now c.args.first.now c.args.len.now c.in_err-c.was)

pub returns : goal.returns
returns c =
    ap (λ (x : Straightened). answered (Ok x.counts) x.points x.first x.len) c.drop_straight.ensures
    ∙ met c.args.answer _ c.args.points.now c.args.first.now c.args.len.now c.in_ok-c.was
