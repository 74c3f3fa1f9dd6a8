-- `copy::copy_row` meets its contract. Assumes nothing.
use Rattle.std.proofs.Common.{◌≡◌, ◌+◌, get_or, pos, refl, ◌∙◌, arith, length-set, w64, to_z, of_z, rules}
use Rattle.frames.specs.Cells.{value_word, mark_word}
use Rattle.order.specs.Keyed.{remember}
use Rattle.frames.proofs.Signed.{back}
use Rattle.order.proofs.RowLaws.{copy_none, copy_more}
use Rattle.rows.proofs.keyed.copy.copy_row.Goals as goal

pub loop-j-init : goal.loop-j-init
loop-j-init c =
    let a = c.args in
    let e = copy_none a.p a.rows.values.now a.rows.marks.now in
    record { five_values = refl; five_marks = refl; values = rw e; marks = rw e }

pub loop-j-preserved : goal.loop-j-preserved
loop-j-preserved c =
    let a = c.args in
    let l = c.loop-j in
    let t = c.loop-j-test.true in
    let p = c.requires in
    let v = get_or a.rows.values.now (a.p + l.j) (pos 0) in
    let m = get_or a.rows.marks.now (a.p + l.j) (pos 0) in
    let x = c.value_word.result in
    let y = c.mark_word.result in
    let ev = back x c.value_word.type_inv ∙ rw (back v (search rules), back m (search rules)) at c.value_word.ensures in
    let em = back y c.mark_word.type_inv ∙ rw (back m (search rules)) at (c.mark_word.ensures v) in
    record {
      five_values = length-set l.v l.j (to_z w64 (of_z w64 x)) ∙ l.invariant.five_values;
      five_marks = length-set l.m l.j (to_z w64 (of_z w64 y)) ∙ l.invariant.five_marks;
      values = copy_more l.j a.p a.rows.values.now a.rows.marks.now (omega arith) (omega arith) value_word l.v (to_z w64 (of_z w64 x)) (omega arith) l.invariant.values ev;
      marks = copy_more l.j a.p a.rows.values.now a.rows.marks.now (omega arith) (omega arith) mark_word l.m (to_z w64 (of_z w64 y)) (omega arith) l.invariant.marks em;
    }

pub returns : goal.returns
unfolding remember
returns c =
    let l = c.loop-j in
    let e : l.j ≡ c.args.rows.width = omega arith in
    rw (l.invariant.values, l.invariant.marks, e)
