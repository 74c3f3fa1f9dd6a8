-- `takejudge::bad_number` meets its contract. Assumes nothing.
use mir.Facts.{to_z-of_z}
use Rattle.subtotals.proofs.takejudge.JudgeLaws.{number_low, number_high}
use Rattle.subtotals.proofs.takejudge.bad_number.Goals as goal

pub returns-then-number-lt0 : goal.returns-then-number-lt0
returns-then-number-lt0 c = let s = c in number_low s.args.number (rw (to_z-of_z s.ranges.number) at c.if-number-lt0.true)

pub returns : goal.returns
returns c = let s = c in rw (to_z-of_z s.ranges.number) (number_high s.args.number (rw (to_z-of_z s.ranges.number) at c.if-number-lt0.false))
