-- `frames::scan::null_key` meets its contract. Assumes nothing.
use Rattle.std.proofs.Common.{sym, ap, ◌∙◌, rules}
use Rattle.frames.specs.Cells.{is_null}
use Rattle.order.proofs.RowLaws.{row_cell}
use Rattle.rows.proofs.keyed.scan.null_key.Goals as goal

pub returns : goal.returns
returns c = λ w vs h l.
    let a = c.args in
    c.null_at.ensures vs ∙ sym (ap is_null (row_cell w a.p a.o.by vs a.marks.now h l))
