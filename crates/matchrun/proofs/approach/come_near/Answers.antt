-- `approach::come_near` meets its contract. Assumes nothing.
use mir.Facts.{to_z-of_z}
use Rattle.matchrun.proofs.approach.come_near.Goals as goal

pub returns-then-few : goal.returns-then-few
returns-then-few c = rw (to_z-of_z c.ranges.v) at c.creep.ensures

pub returns : goal.returns
returns c = rw (to_z-of_z c.ranges.v) at c.approach.ensures
