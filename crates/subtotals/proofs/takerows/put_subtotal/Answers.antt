-- `takerows::put_subtotal` meets its contract. Assumes nothing.
use native.Mathlib.Omega.{arith}
use mir.Facts.{to_z-of_z}
use Rattle.subtotals.proofs.takejoin.WalkLaws.{laid_subtotal}
use Rattle.subtotals.proofs.takerows.put_subtotal.Goals as goal

pub put_row-requires : goal.put_row-requires
put_row-requires c =
    let p = c.requires in
    record { values = p.values; marks = p.marks; paired = p.paired; fine = p.fine; there = omega (arith, p.there); room = p.room }

pub overflow_add-k : goal.overflow_add-k
overflow_add-k c = omega (arith, c.requires.there, c.requires.room)

pub put_cell-requires : goal.put_cell-requires
put_cell-requires c =
    let p = c.requires in
    record { there = omega (arith, p.there); room = omega (arith, p.room, c.put_row.auto.out) }

pub overflow_add-k-2 : goal.overflow_add-k-2
overflow_add-k-2 c = omega (arith, c.requires.there, c.requires.room)

pub overflow_add-k-3 : goal.overflow_add-k-3
overflow_add-k-3 c = omega (arith, c.requires.there, c.requires.room)

pub put_cell-requires-2 : goal.put_cell-requires-2
put_cell-requires-2 c =
    let p = c.requires in
    record { there = omega (arith, p.there); room = omega (arith, p.room, c.put_row.auto.out, c.put_cell.auto.out) }

pub returns : goal.returns
returns c =
    let s = c in
    let a = s.args in
    let p = s.requires in
    laid_subtotal a.m a.k a.p a.by a.rows.values.now a.rows.marks.now a.total a.count a.out.now _ _ _ p.values p.marks p.sold c.put_row.ensures (rw (to_z-of_z s.ranges.total) at c.put_cell.ensures) (rw (to_z-of_z s.ranges.count) at c.put_cell-2.ensures)
