-- `is_nearer`: the gaps by cross products, then the tie.
use Rattle.edges.proofs.Num.{nearer_yes, nearer_no, nearer_rest}
use Rattle.edges.proofs.is_nearer.Goals as goal

pub returns-then-gap-other_gap : goal.returns-then-gap-other_gap
returns-then-gap-other_gap c =
    let u = c.between-u in
    let v = c.between-v in
    let i = c.height_over in let x = c.scaled-gap in
    let j = c.height_over-2 in let y = c.scaled-other_gap in
    nearer_yes _ _ _ i.result j.result u.result v.result x.result y.result i.ensures.1 j.ensures.1 u.ensures.1 v.ensures.1
    i.ensures.0 j.ensures.0 u.ensures.0 v.ensures.0 x.ensures.0 y.ensures.0 x.ensures.1 y.ensures.1
    c.if-gap-other_gap.true

pub returns-then-other_gap-gap : goal.returns-then-other_gap-gap
returns-then-other_gap-gap c =
    let u = c.between-u in
    let v = c.between-v in
    let i = c.height_over in let x = c.scaled-gap in
    let j = c.height_over-2 in let y = c.scaled-other_gap in
    nearer_no _ _ _ i.result j.result u.result v.result x.result y.result i.ensures.1 j.ensures.1 u.ensures.1 v.ensures.1
    i.ensures.0 j.ensures.0 u.ensures.0 v.ensures.0 x.ensures.0 y.ensures.0 x.ensures.1 y.ensures.1
    c.if-gap-other_gap.false c.if-other_gap-gap.true

pub returns : goal.returns
returns c =
    let u = c.between-u in
    let v = c.between-v in
    let i = c.height_over in
    let x = c.scaled-gap in let j = c.height_over-2 in
    let y = c.scaled-other_gap in
    nearer_rest _ _ _ i.result j.result u.result v.result x.result y.result i.ensures.1 j.ensures.1 u.ensures.1 v.ensures.1
    i.ensures.0 j.ensures.0 u.ensures.0 v.ensures.0 x.ensures.0 y.ensures.0 x.ensures.1 y.ensures.1
    _ c.wins_tie.ensures c.if-gap-other_gap.false c.if-other_gap-gap.false
