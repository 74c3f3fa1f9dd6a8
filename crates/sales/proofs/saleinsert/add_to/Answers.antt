-- `saleinsert::add_to` meets its contract. Assumes nothing.
use Prim.Native.Nat.{◌+◌}
use lib.IntN.{pos, ◌+ℤ◌}
use lib.ListN.{get_or}
use mir.Facts.{to_z-of_z}
use Rattle.frames.proofs.Signed.{back}
use Rattle.sales.proofs.saleinsert.InsertLaws.{total_fits, count_fits}
use Rattle.sales.proofs.saleinsert.add_to.Goals as goal

pub overflow_add-total : goal.overflow_add-total
overflow_add-total c =
    let s = c in
    let a = s.args in
    rw (back (get_or a.body.now (a.a + a.by) (pos 0)) c.total-1.given, to_z-of_z s.ranges.amount) (record { sfits = total_fits (get_or a.body.now (a.a + a.by) (pos 0)) a.amount s.requires.addable.total_is s.requires.small })

pub overflow_add-count-2 : goal.overflow_add-count-2
overflow_add-count-2 c =
    let s = c in
    let a = s.args in
    rw (back (get_or a.body.now (a.a + a.by + 1) (pos 0)) c.count-1.given) (record { sfits = count_fits (get_or a.body.now (a.a + a.by + 1) (pos 0)) s.requires.addable.count_is })

pub returns : goal.returns
returns c =
    let s = c in
    let a = s.args in
    let t = get_or a.body.now (a.a + a.by) (pos 0) in
    let n = get_or a.body.now (a.a + a.by + 1) (pos 0) in
    rw (back t c.total-1.given, back n c.count-1.given, to_z-of_z s.ranges.amount, back (t +ℤ a.amount) (total_fits t a.amount s.requires.addable.total_is s.requires.small), back (n +ℤ pos 1) (count_fits n s.requires.addable.count_is))
    at c.put_sale.ensures
