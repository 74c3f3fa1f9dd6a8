use mir.Facts.{to_z-of_z}
use Rattle.order.proofs.Apart.{whole}
use Rattle.matching.proofs.ScanLaws.{far_none, far_some}
use Rattle.matchrun.proofs.fits.too_far.Goals as goal

pub returns-then-tolerance-lt0 : goal.returns-then-tolerance-lt0
returns-then-tolerance-lt0 c = far_none c.args.tolerance _ (rw (to_z-of_z c.ranges.tolerance) at c.if-tolerance-lt0.true)

pub overflow_cast-result : goal.overflow_cast-result
overflow_cast-result c = let f = c.ranges.tolerance in rw (to_z-of_z f) (whole _ f (rw (to_z-of_z f) at c.if-tolerance-lt0.false))

pub returns : goal.returns
returns c =
    let f = c.ranges in
    let e = rw (to_z-of_z f.a, to_z-of_z f.v) at c.distance.ensures in
    rw (to_z-of_z f.tolerance, ← e) (far_some c.args.tolerance _ (rw (to_z-of_z f.tolerance) at c.if-tolerance-lt0.false))
