-- `framerule::row_count` meets its contract. Assumes nothing.
use Rattle.std.proofs.Common.{get_or, pos, arith, rules}
use Rattle.frames.proofs.Signed.{back}
use Rattle.frames.proofs.FrontLaws.{from_zero_word}
use Rattle.rows.proofs.framerule.row_count.Goals as goal

pub overflow_cast-result : goal.overflow_cast-result
overflow_cast-result c =
    let z = get_or c.args.words.now 0 (pos 0) in
    let f = from_zero_word z c.requires.counted c.result-1.given in
    rw (back z c.result-1.given) (f.0, omega (arith, f.1))
