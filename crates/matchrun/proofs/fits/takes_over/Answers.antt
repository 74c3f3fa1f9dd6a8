use mir.Facts.{to_z-of_z}
use Rattle.matching.specs.Match.{takes_over}
use Rattle.matchrun.proofs.fits.takes_over.Goals as goal

pub returns-in-Backward : goal.returns-in-Backward
unfolding takes_over
returns-in-Backward c = λ o x y z ex ey ez. rw c.in-Backward.is

pub returns-in-Forward : goal.returns-in-Forward
unfolding takes_over
returns-in-Forward c = λ o x y z ex ey ez. rw c.in-Forward.is

pub returns-in-Nearest : goal.returns-in-Nearest
unfolding takes_over
returns-in-Nearest c = λ o x y z ex ey ez.
    let f = c.ranges in
    rw (c.in-Nearest.is, ex, ey, ez) (rw (to_z-of_z f.v, to_z-of_z f.a, to_z-of_z f.b) at c.nearer_key.ensures)
