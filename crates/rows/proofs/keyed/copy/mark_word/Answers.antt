-- `frames::copy::mark_word` meets its contract. Assumes nothing.
use Rattle.frames.proofs.Signed.{zero_yes, zero_no}
use Rattle.rows.proofs.keyed.copy.mark_word.Goals as goal

pub returns-then-mark-eq0 : goal.returns-then-mark-eq0
returns-then-mark-eq0 c = λ v. simp (zero_yes c.ranges.mark c.if-mark-eq0.true)

pub returns : goal.returns
returns c = λ v. simp (zero_no c.ranges.mark c.if-mark-eq0.false)
