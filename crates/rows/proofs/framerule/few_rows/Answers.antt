-- `framerule::few_rows` meets its contract. Assumes nothing.
use Rattle.std.proofs.Common.{sym, to_z-of_z}
use Rattle.frames.proofs.FrontLaws.{few_negative, few_from_zero}
use Rattle.rows.proofs.framerule.few_rows.Goals as goal

pub returns-then-word-lt0 : goal.returns-then-word-lt0
returns-then-word-lt0 c = sym (few_negative c.args.word (rw (to_z-of_z c.ranges.word) at c.if-word-lt0.true))

pub returns : goal.returns
returns c =
    let f = to_z-of_z c.ranges.word in
    rw f (few_from_zero c.args.word (rw f at c.if-word-lt0.false))
