-- `wins_tie`: slopes by cross products, then kind and number.
use native.Mathlib.Omega.{arith}
use Rattle.edges.proofs.Num.{within64, tie_yes, tie_no, tie_rest}
use Rattle.edges.proofs.wins_tie.Goals as goal

pub scaled-slope-requires : goal.scaled-slope-requires
scaled-slope-requires c =
    let s = c in (within64 s.args.u.y _ (omega arith) (omega arith), within64 s.args.v.x _ (omega arith) (omega arith))

pub scaled-other_slope-requires : goal.scaled-other_slope-requires
scaled-other_slope-requires c =
    let s = c in
    (within64 s.args.v.y _ (omega arith) (omega arith), within64 s.args.u.x _ (omega arith) (omega arith))

pub returns-then-other_slope-slope : goal.returns-then-other_slope-slope
returns-then-other_slope-slope c =
    let s = c in let x = c.scaled-other_slope in let y = c.scaled-slope in
    tie_yes _ _ _ _ _ _ x.result y.result s.requires.0 s.requires.1 x.ensures.0 y.ensures.0 x.ensures.1 y.ensures.1 c.if-other_slope-slope.true

pub returns-then-slope-other_slope : goal.returns-then-slope-other_slope
returns-then-slope-other_slope c =
    let s = c in let x = c.scaled-other_slope in
    let y = c.scaled-slope in
    tie_no _ _ _ _ _ _ x.result y.result s.requires.0 s.requires.1 x.ensures.0 y.ensures.0 x.ensures.1 y.ensures.1
    c.if-other_slope-slope.false c.if-slope-other_slope.true

pub returns : goal.returns
returns c =
    let s = c in let x = c.scaled-other_slope in
    let y = c.scaled-slope in
    tie_rest _ _ _ _ _ _ x.result y.result s.requires.0 s.requires.1 x.ensures.0 y.ensures.0 x.ensures.1 y.ensures.1
    c.if-other_slope-slope.false c.if-slope-other_slope.false
