-- `check_room::no_room` meets its contract: the four questions of check 2, as they are answered.
use mathlib.Core.Path.{ap₂}
use mathlib.Core.Bool.{◌||◌}
use Rattle.check_room.proofs.no_room.Goals as goal

pub returns : goal.returns
returns c =
    ap₂ ◌||◌
    (ap₂ ◌||◌ (ap₂ ◌||◌ c.unlike.ensures c.few_points.ensures)
    c.unlike_band.ensures)
    c.few_contours.ensures
