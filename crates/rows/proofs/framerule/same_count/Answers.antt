-- `framerule::same_count` meets its contract. Assumes nothing.
use Rattle.std.proofs.Common.{sym, to_z-of_z}
use Rattle.order.proofs.Apart.{whole}
use Rattle.frames.proofs.FrontLaws.{same_negative, same_from_zero}
use Rattle.rows.proofs.framerule.same_count.Goals as goal

pub returns-then-word-lt0 : goal.returns-then-word-lt0
returns-then-word-lt0 c = sym (same_negative c.args.word c.args.c (rw (to_z-of_z c.ranges.word) at c.if-word-lt0.true))

pub overflow_cast-result : goal.overflow_cast-result
overflow_cast-result c =
    let f = to_z-of_z c.ranges.word in
    rw f (whole c.args.word c.ranges.word (rw f at c.if-word-lt0.false))

pub returns : goal.returns
returns c =
    let f = to_z-of_z c.ranges.word in
    rw f (same_from_zero c.args.word c.args.c (rw f at c.if-word-lt0.false))
