-- `zeros::restore` meets its contract: the states before the loop's are restored, the others as they were.
use Rattle.std.proofs.Common.{arith}
use Rattle.std.proofs.lemmas.Grind.{common_steps}
use Rattle.std.proofs.lemmas.List.Edits.{map_over_more}
use Rattle.walk.specs.Code.{unmark}
use Rattle.zeros.proofs.restore.Goals as goal

pub loop-x-preserved : goal.loop-x-preserved
loop-x-preserved c = grind (arith, common_steps, map_over_more unmark)
