-- `framerule::pair_fine` meets its contract. Assumes nothing.
use Rattle.std.proofs.Common.{lit<}
use Rattle.frames.proofs.FrontLaws.{word_is, word_not, word_flag}
use Rattle.rows.proofs.framerule.pair_fine.Goals as goal

pub returns-then-mark-eq1 : goal.returns-then-mark-eq1
returns-then-mark-eq1 c = simp (word_is c.args.mark 1 c.ranges.mark (lit< tt) c.if-mark-eq1.true)

pub returns-then-mark-ne0 : goal.returns-then-mark-ne0
returns-then-mark-ne0 c =
    let a = c.args in
    simp (word_not a.mark 1 c.if-mark-eq1.false, word_not a.mark 0 c.if-mark-ne0.true)

pub returns : goal.returns
returns c =
    let a = c.args in
    let f = c.ranges in
    simp (word_not a.mark 1 c.if-mark-eq1.false, word_is a.mark 0 f.mark (lit< tt) c.if-mark-ne0.false) (word_flag a.value 0 f.value (lit< tt))
