-- `framerule::rest_fine` meets its contract. Assumes nothing.
use Rattle.std.proofs.Common.{◌≡◌, true, false, sym, ◌∙◌, arith, rules}
use Rattle.frames.proofs.FrontLaws.{pairs_more, pairs_done}
use Rattle.rows.proofs.framerule.rest_fine.Goals as goal

pub returns-then-not-fine_at : goal.returns-then-not-fine_at
returns-then-not-fine_at c =
    let a = c.args in
    let e : false ≡ c.fine_at.result = search rules in
    sym (c.loop-i.invariant ∙ pairs_more a.values.now a.marks.now c.loop-i.i c.loop-i-test.true (omega arith) ∙ rw (sym (e ∙ c.fine_at.ensures)))

pub loop-i-preserved : goal.loop-i-preserved
loop-i-preserved c =
    let a = c.args in
    let e : true ≡ c.fine_at.result = search rules in
    c.loop-i.invariant ∙ pairs_more a.values.now a.marks.now c.loop-i.i c.loop-i-test.true (omega arith) ∙ rw (sym (e ∙ c.fine_at.ensures))

pub returns : goal.returns
returns c = sym (c.loop-i.invariant ∙ pairs_done c.args.values.now c.args.marks.now c.loop-i.i c.loop-i-test.false)
