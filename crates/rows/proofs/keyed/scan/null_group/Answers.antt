-- `scan::null_group` meets its contract. Assumes nothing.
use Rattle.std.proofs.Common.{◌≡◌, ℕ, ◌+◌, ◌<◌, Bool, true, false, length, sym, refl, ap, ◌∙◌, arith}
use Rattle.frames.specs.Cells.{Words, row_from, cell, is_null}
use Rattle.order.specs.Order.{null_in}
use Rattle.order.specs.Requires.{cell_at}
use Rattle.order.proofs.RowLaws.{row_cell, null_more, null_found}
use Rattle.rows.proofs.keyed.scan.null_group.Goals as goal

pub loop-j-init : goal.loop-j-init
unfolding null_in
loop-j-init c = λ w vs h l. refl

-- a cell of a row is null where it is null in its place
told : (w p by j : ℕ) (vs ms : Words) (t : Bool) → j < by → by < w → p + by < length vs → t ≡ is_null (cell_at (p + j) vs ms) → is_null (cell j (row_from w p vs ms)) ≡ t
told w p by j vs ms t g h l e = ap is_null (row_cell w p j vs ms (omega arith) (omega arith)) ∙ sym e

pub returns-then-null_at : goal.returns-then-null_at
returns-then-null_at c = λ w vs h l.
    let a = c.args in
    let j = c.loop-j.j in
    let g = c.loop-j-test.true in
    sym (null_found _ j _ g (told w a.p a.o.by j vs a.marks.now true g h l (sym c.if-null_at.true ∙ c.null_at.ensures vs)))

pub loop-j-preserved : goal.loop-j-preserved
loop-j-preserved c = λ w vs h l.
    let a = c.args in
    let j = c.loop-j.j in
    let g = c.loop-j-test.true in
    null_more _ j (c.loop-j.invariant w vs h l) (told w a.p a.o.by j vs a.marks.now false g h l (sym c.if-null_at.false ∙ c.null_at.ensures vs))
