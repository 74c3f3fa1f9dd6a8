-- `stretch::many_end` meets its contract. Assumes nothing.
use Rattle.std.proofs.Common.{◌≡◌, true, ◌+◌, ◌-◌, ◌*◌, arith, rules}
use Rattle.order.proofs.RowLaws.{one_row}
use Rattle.groups.proofs.stretch.StretchLaws.{same_more}
use Rattle.groups.proofs.stretch.many_end.Goals as goal

pub loop-e-preserved : goal.loop-e-preserved
loop-e-preserved c =
    let a = c.args in
    let r = a.rows in
    let e = c.loop-e.e in
    let t : c.same_words.result ≡ true = search rules in
    let z : e * r.width - r.width + r.width ≡ e * r.width = omega (arith, one_row e r.width (omega arith)) in
    same_more a.by r.width r.count r.values.now r.marks.now a.i e (e * r.width - r.width) c.loop-e.invariant c.loop-e-test.true z (λ j h. rw z (c.same_words.ensures t j h))
