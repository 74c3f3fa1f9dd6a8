use mathlib.Core.Path.{sym, ◌∙◌}
use lib.IntN.{pos}
use lib.ListN.{get_or}
use mir.Facts.{to_z-of_z}
use Rattle.frames.proofs.Signed.{back}
use Rattle.matching.proofs.ScanLaws.{present}
use Rattle.matchrun.proofs.fits.fits_key.Goals as goal

pub returns-then-null_at : goal.returns-then-null_at
returns-then-null_at c = let a = c.args in rw (sym (c.null_at.ensures a.right.values.now) ∙ c.if-null_at.true)

pub returns : goal.returns
returns c =
    let s = c in
    let a = s.args in
    let v = get_or a.right.values.now a.k (pos 0) in
    let e = sym (c.null_at.ensures a.right.values.now) ∙ c.if-null_at.false in
    let g = rw (back v c.cmp_cell-arg-1.given, to_z-of_z s.ranges.v) at c.cmp_cell.ensures in
    rw (present v (get_or a.right.marks.now a.k (pos 0)) e, ← g) c.on_side.ensures
