-- `addcall::column_count` meets its contract. Assumes nothing.
use mathlib.Core.Path.{ap}
use native.Mathlib.Omega.{arith}
use lib.IntN.{pos, nat_abs}
use lib.ListN.{get_or}
use Rattle.frames.proofs.Signed.{back}
use Rattle.subtotals.proofs.takewords.JudgeLaws.{columns_told, small_word}
use Rattle.sales.proofs.addcall.column_count.Goals as goal

pub bounds-words-1 : goal.bounds-words-1
bounds-words-1 c = omega (arith, (columns_told c.args.words.now c.requires).0)

pub overflow_cast-result : goal.overflow_cast-result
overflow_cast-result c =
    let s = c in
    let z = get_or s.args.words.now 1 (pos 0) in
    let t = (columns_told s.args.words.now s.requires).1 in
    rw (back z c.result-1.given) (t, omega (arith, small_word z t c.result-1.given))

pub returns : goal.returns
returns c = let s = c in ap nat_abs (back (get_or s.args.words.now 1 (pos 0)) c.result-1.given)
