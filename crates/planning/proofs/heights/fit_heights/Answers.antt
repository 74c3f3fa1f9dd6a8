-- `heights::fit_heights` meets its contract. Assumes nothing.
use mathlib.Core.Path.{refl, sym, ap, ◌∙◌}
use mathlib.Core.Bool.{not}
use native.Mathlib.Omega.{arith}
use lib.IntN.{pos}
use lib.ListN.{get_or}
use Rattle.frames.proofs.Signed.{back}
use Rattle.planning.proofs.HeightLaws.{bad_at, bad_behind, bad_last}
use Rattle.planning.proofs.heights.fit_heights.Goals as goal

pub returns-then-not-is_height : goal.returns-then-not-is_height
returns-then-not-is_height c =
    let l = c.loop-word in
    let z = get_or c.args.heights.now l.word-index (pos 0) in
    let told = rw (back z (omega arith)) at c.is_height.ensures in
    rw (l.invariant, bad_at c.args.heights.now l.word-index l.left c.loop-word-test.true (sym told ∙ c.if-not-is_height.true)) refl

pub loop-word-preserved : goal.loop-word-preserved
loop-word-preserved c =
    let l = c.loop-word in
    let z = get_or c.args.heights.now l.word-index (pos 0) in
    let told = rw (back z (omega arith)) at c.is_height.ensures in
    l.invariant ∙ rw (back z (omega arith)) (bad_behind c.args.heights.now l.word-index l.left c.loop-word-test.true (sym told ∙ c.if-not-is_height.false))

pub returns : goal.returns
returns c =
    let l = c.loop-word in
    sym (ap not l.invariant ∙ bad_last c.args.heights.now l.word-index l.left c.loop-word-test.false)
