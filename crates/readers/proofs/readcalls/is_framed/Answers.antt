-- `readcalls::is_framed` meets its contract. Assumes nothing.
use mathlib.Core.Path.{sym, ◌∙◌}
use native.Mathlib.Omega.{arith}
use lib.IntN.{pos}
use lib.ListN.{get_or}
use Rattle.frames.proofs.Signed.{back}
use Rattle.frames.proofs.FrontLaws.{not_below_zero}
use Rattle.readers.proofs.ViewLaws.{framed_short, framed_negative, framed_by}
use borrow.Author.Rules.{rules}
use Rattle.readers.proofs.readcalls.is_framed.Goals as goal

pub returns-then-frame-lt2 : goal.returns-then-frame-lt2
returns-then-frame-lt2 c = sym (framed_short _ c.if-frame-lt2.true)

pub returns-then-frame-lt0 : goal.returns-then-frame-lt0
returns-then-frame-lt0 c =
    let z = get_or c.args.frame.now 1 (pos 0) in
    sym (framed_negative _ (rw (back z c.t5-1.given) at c.if-frame-lt0.true))

pub column_count-requires : goal.column_count-requires
column_count-requires c =
    let z = get_or c.args.frame.now 1 (pos 0) in
    record { long = omega (arith, c.if-frame-lt2.false); counted = not_below_zero z (rw (back z c.t5-1.given) at c.if-frame-lt0.false) }

pub returns : goal.returns
returns c = c.is_frame.ensures ∙ rw c.column_count.ensures (framed_by _)
