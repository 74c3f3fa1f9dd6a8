-- `split::above_found` meets its contract. Assumes nothing.
use Prim.Native.Nat.{◌*◌}
use Rattle.order.specs.options.Options.{options_of}
use Rattle.frames.specs.Cells.{row_from, rows_of}
use Rattle.order.proofs.RowLaws.{rows_from}
use Rattle.buffer.proofs.splitcheck.BeforeLaws.{found_at}
use Rattle.buffer.proofs.splitcheck.split.above_found.Goals as goal

pub returns : goal.returns
returns c = λ wp n h k.
    let a = c.args in
    let r = a.rows in
    let i = c.in-Some.i in
    let e = c.in-Some.is in
    found_at (options_of a.rules) _ (rows_of r.width n r.values.now r.marks.now) a.found i (row_from r.width (i * r.width) r.values.now r.marks.now) _ _ e (rows_from r.width n i r.values.now r.marks.now (k i e))
    (c.cmp_row.ensures wp r.width h c.requires.1.wide) c.is_greater.ensures
