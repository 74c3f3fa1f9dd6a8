-- `readcalls::column_count` meets its contract. Assumes nothing.
use native.Mathlib.Omega.{arith}
use lib.IntN.{pos}
use lib.ListN.{get_or}
use Rattle.frames.proofs.Signed.{back}
use Rattle.frames.proofs.FrontLaws.{from_zero_word}
use borrow.Author.Rules.{rules}
use Rattle.readers.proofs.readcalls.column_count.Goals as goal

pub overflow_cast-result : goal.overflow_cast-result
overflow_cast-result c =
    let z = get_or c.args.frame.now 1 (pos 0) in
    let f = from_zero_word z c.requires.counted c.result-1.given in
    rw (back z c.result-1.given) (f.0, omega (arith, f.1))
