-- `approach::settled` meets its contract. Assumes nothing.
use mathlib.Core.Path.{◌∙◌}
use mir.Facts.{to_z-of_z}
use Rattle.matchrun.specs.approach.Near.{closes}
use Rattle.matchrun.proofs.approach.NearLaws.{near_by_distance, steps_chosen}
use Rattle.matchrun.proofs.approach.settled.Goals as goal

pub returns : goal.returns
returns c =
    let a = c.args in
    let v = to_z-of_z c.ranges.v in
    let x = rw (to_z-of_z c.ranges.a, v) at c.distance-2.ensures in
    let z = rw (to_z-of_z c.ranges.c, v) at c.distance.ensures in
    let y = rw (to_z-of_z c.ranges.b, v) at c.distance-y.ensures in
    let f = rw (z, y, near_by_distance a.v a.b a.c c.requires.1) at c.choose-second.ensures in
    let g = rw (x, y, near_by_distance a.v a.a a.b c.requires.0, f) at c.choose.ensures in
    g ∙ steps_chosen a.start a.step (closes a.v a.a a.b) (closes a.v a.b a.c)
