-- `takewords::is_any_frame` meets its contract. Assumes nothing.
use native.Mathlib.Omega.{arith}
use lib.IntN.{pos}
use lib.ListN.{get_or}
use Rattle.frames.proofs.Signed.{back}
use Rattle.frames.proofs.FrontLaws.{from_zero_word, not_below_zero}
use Rattle.subtotals.proofs.takewords.JudgeLaws.{any_short_lem, any_below}
use Rattle.subtotals.proofs.takewords.is_any_frame.Goals as goal

pub returns-then-words-lt2 : goal.returns-then-words-lt2
returns-then-words-lt2 c = any_short_lem c.args.words.now c.if-words-lt2.true

pub returns-then-words-lt0 : goal.returns-then-words-lt0
returns-then-words-lt0 c = let a = c.args in any_below a.words.now (rw (back (get_or a.words.now 1 (pos 0)) c.t5-1.given) at c.if-words-lt0.true)

pub overflow_cast-words : goal.overflow_cast-words
overflow_cast-words c =
    let a = c.args in
    let z = get_or a.words.now 1 (pos 0) in
    let f = from_zero_word z (not_below_zero z (rw (back z c.t5-1.given) at c.if-words-lt0.false)) c.is_frame-arg-1.given in
    rw (back z c.is_frame-arg-1.given) (f.0, omega (arith, f.1))

pub returns : goal.returns
returns c =
    let a = c.args in
    rw (back (get_or a.words.now 1 (pos 0)) c.is_frame-arg-1.given) at c.is_frame.ensures
