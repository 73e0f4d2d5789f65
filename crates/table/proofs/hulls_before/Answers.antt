-- `hulls_before`: the loop has counted the hulls that it has passed.
use mathlib.Core.Path.{refl}
use native.Mathlib.Omega.{arith}
use lib.Dec.{eqb}
use lib.ListN.{get_or, take}
use Rattle.std.proofs.lemmas.Grind.{common_steps}
use Rattle.laws.specs.Count.{count, count_more}
use Rattle.table.specs.TableLaws.{bit_small}
use Rattle.table.proofs.hulls_before.Goals as goal

pub loop-k-init : goal.loop-k-init
unfolding count
loop-k-init c = (omega arith, refl)

pub loop-k-preserved : goal.loop-k-preserved
loop-k-preserved c =
    let kinds = take c.args.n c.args.kind.now in
    let i = c.loop-k.k-index in
    let e = count_more 0 kinds i (omega arith) in
    let b = bit_small (eqb (get_or kinds i 0) 0) in
    (grind (arith, common_steps), grind (arith, common_steps))
