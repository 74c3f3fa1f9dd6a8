-- `frames::copy::value_word` meets its contract. Assumes nothing.
use Rattle.std.proofs.Common.{to_z-of_z}
use Rattle.frames.proofs.Signed.{zero_yes, zero_no}
use Rattle.rows.proofs.keyed.copy.value_word.Goals as goal

pub returns-then-mark-eq0 : goal.returns-then-mark-eq0
returns-then-mark-eq0 c = simp (zero_yes c.ranges.mark c.if-mark-eq0.true)

pub returns : goal.returns
returns c = simp (to_z-of_z c.ranges.value, zero_no c.ranges.mark c.if-mark-eq0.false)
