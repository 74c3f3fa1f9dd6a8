-- `compare::cmp_at` meets its contract. Assumes nothing.
use Rattle.std.proofs.Common.{get_or, pos, rules}
use Rattle.frames.proofs.Signed.{back}
use Rattle.rows.proofs.compare.cmp_at.Goals as goal

pub returns : goal.returns
returns c =
    let a = c.args in
    rw (
      back (get_or a.a.values.now a.ka (pos 0)) c.cmp_cell-arg-1.given,
      back (get_or a.a.marks.now a.ka (pos 0)) c.cmp_cell-arg-2-1.given,
      back (get_or a.b.values.now a.kb (pos 0)) c.cmp_cell-arg-3-1.given,
      back (get_or a.b.marks.now a.kb (pos 0)) c.cmp_cell-arg-4-1.given,
    )
    at c.cmp_cell.ensures
