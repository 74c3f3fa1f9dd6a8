use mathlib.Core.Path.{◌≡◌, sym, ◌∙◌}
use mathlib.Core.Bool.{true, false}
use lib.IntN.{pos}
use lib.ListN.{get_or}
use Rattle.frames.specs.Cells.{is_zero}
use Rattle.frames.proofs.Signed.{back}
use Rattle.order.proofs.RowLaws.{null_mark}
use Rattle.matchframe.proofs.carrying.carry_cell.Goals as goal

pub returns-then-null_at : goal.returns-then-null_at
returns-then-null_at c =
    let a = c.args in
    let v = get_or a.right.values.now a.q (pos 0) in
    let m = get_or a.right.marks.now a.q (pos 0) in
    let z : is_zero m ≡ true = sym (null_mark v m) ∙ sym (c.null_at.ensures a.right.values.now) ∙ c.if-null_at.true in
    c.put_cell.ensures ∙ rw z

pub returns-else-null_at : goal.returns-else-null_at
returns-else-null_at c =
    let a = c.args in
    let v = get_or a.right.values.now a.q (pos 0) in
    let m = get_or a.right.marks.now a.q (pos 0) in
    let z : is_zero m ≡ false = sym (null_mark v m) ∙ sym (c.null_at.ensures a.right.values.now) ∙ c.if-null_at.false in
    c.put_cell-else-null_at.ensures ∙ rw (z, back v c.put_cell-arg-else-null_at-2-1.given)
