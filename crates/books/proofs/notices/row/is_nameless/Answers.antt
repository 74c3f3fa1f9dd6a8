-- `notices::row::is_nameless` meets its contract. Assumes nothing.
use Rattle.order.proofs.RowLaws.{row_cell}
use borrow.Author.Rules.{rules}
use Rattle.books.proofs.notices.row.is_nameless.Goals as goal

pub returns-then-null_at : goal.returns-then-null_at
returns-then-null_at c =
    λ w vs h l.
    let a = c.args in
    rw (row_cell w a.p a.o.by vs a.marks.now h l, ← c.null_at.ensures vs, c.if-null_at.true)

pub returns : goal.returns
returns c =
    λ w vs h l.
    let a = c.args in
    rw (row_cell w a.p a.o.by vs a.marks.now h l, ← c.null_at.ensures vs, c.if-null_at.false) (c.null_group.ensures w vs h l)
