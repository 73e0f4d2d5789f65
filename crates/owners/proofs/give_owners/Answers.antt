-- `give_owners`: from every hole on, the definition gives what it gives from the start.
use mathlib.Core.Path.{◌∙◌}
use lib.ListN.{take}
use Rattle.owners.proofs.Gives.{give_end, give_stuck, give_more}
use Rattle.owners.proofs.give_owners.Goals as goal

pub returns-then-p : goal.returns-then-p
returns-then-p c =
    let s = c in
    let l = c.loop-j in
    give_stuck s.args.who.now s.args.under.now (take s.args.m s.args.ord.now) l.own l.j-index c.loop-j-test.true _ c.parent-p.ensures c.if-p.true
    ∙ l.invariant

pub loop-j-preserved : goal.loop-j-preserved
loop-j-preserved c =
    let s = c in
    let l = c.loop-j in
    give_more s.args.who.now s.args.under.now (take s.args.m s.args.ord.now) l.own l.j-index c.loop-j-test.true _ c.parent-p.ensures c.if-p.false
    ∙ l.invariant

pub returns : goal.returns
returns c =
    let s = c in let l = c.loop-j in
    give_end s.args.who.now s.args.under.now (take s.args.m s.args.ord.now) l.own l.j-index c.loop-j-test.false ∙ l.invariant
