use mathlib.Core.Path.{sym}
use lib.IntN.{pos}
use lib.ListN.{get_or}
use mir.Facts.{to_z-of_z}
use Rattle.frames.proofs.Signed.{lt_flag}
use Rattle.matchrun.proofs.look.FitLaws.{below_fits}
use Rattle.matchrun.proofs.look.fits_fore.Goals as goal

pub returns-then-right-k : goal.returns-then-right-k
returns-then-right-k c =
    let s = c in
    let a = s.args in
    sym (below_fits a.eq a.v (get_or a.right.values.now a.k (pos 0)) (get_or a.right.marks.now a.k (pos 0)) (lt_flag {a = get_or a.right.values.now a.k (pos 0)} (record { sfits = c.t7-1.given }) s.ranges.v c.if-right-k.true))

pub returns : goal.returns
returns c = rw (to_z-of_z c.ranges.v) at c.fits_key.ensures
