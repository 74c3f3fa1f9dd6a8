-- `salegroup::cmp_first` meets its contract. Assumes nothing.
use lib.IntN.{pos}
use lib.ListN.{get_or}
use Rattle.frames.proofs.Signed.{back}
use Rattle.sales.proofs.salegroup.cmp_first.Goals as goal

pub returns : goal.returns
returns c =
    let a = c.args in
    rw (back (get_or a.body.now a.p (pos 0)) c.cmp_cell-arg-1.given, back (get_or a.left.values.now a.q (pos 0)) c.cmp_cell-arg-2-1.given, back (get_or a.left.marks.now a.q (pos 0)) c.cmp_cell-arg-3-1.given) at c.cmp_cell.ensures
