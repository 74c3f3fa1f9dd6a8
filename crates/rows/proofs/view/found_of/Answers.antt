-- `view::found_of` meets its contract. Assumes nothing.
use Rattle.std.proofs.Common.{to_z-of_z}
use Rattle.frames.proofs.Signed.{zero_yes, zero_no}
use Rattle.rows.proofs.view.found_of.Goals as goal

pub returns-then-mark-eq0 : goal.returns-then-mark-eq0
returns-then-mark-eq0 c = simp (zero_yes c.ranges.mark c.if-mark-eq0.true)

pub returns : goal.returns
returns c = simp (zero_no c.ranges.mark c.if-mark-eq0.false, to_z-of_z c.ranges.value)
