-- `replay::words::within` meets its contract. Assumes nothing.
use Rattle.std.proofs.Common.{length, sym, arith, length-take-le}
use Rattle.replay.proofs.words.within.Statement.{statement}
use Rattle.replay.proofs.words.within.Tie as tie

returns : tie.Need-returns-then-n-words
returns c =
    let a = c.args in
    (omega arith, sym (length-take-le a.n a.words.now (omega arith)))

returns-2 : tie.Need-returns
returns-2 c =
    let a = c.args in
    (omega arith, sym (length-take-le (length a.words.now) a.words.now (omega arith)))

pub within_spec : {M : Type 1} → statement M
within_spec = tie.close (tie.spec returns returns-2)
