use mir.Facts.{to_z-of_z}
use Rattle.matchrun.proofs.approach.NearLaws.{near_by_distance}
use Rattle.matchrun.proofs.approach.as_near.Goals as goal

pub returns : goal.returns
returns c = λ h.
    let s = c in
    let a = s.args in
    rw (c.distance.ensures, c.distance-2.ensures, to_z-of_z s.ranges.v, to_z-of_z s.ranges.a, to_z-of_z s.ranges.b) (near_by_distance a.v a.a a.b h)
