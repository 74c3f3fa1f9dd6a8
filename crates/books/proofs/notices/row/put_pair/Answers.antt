-- `notices::row::put_pair` meets its contract. Assumes nothing.
use mathlib.Core.Path.{sym, ◌∙◌}
use mir.Facts.{to_z-of_z}
use Rattle.frames.specs.Cells.{value}
use Rattle.books.proofs.notices.NoticeLaws.{lay_pair}
use borrow.Author.Rules.{rules}
use Rattle.books.proofs.notices.row.put_pair.Goals as goal

pub returns : goal.returns
returns c =
    λ x e f.
    let a = c.args in
    let u = rw (to_z-of_z c.ranges.flag) at c.put_cell.ensures in
    let v = rw (to_z-of_z c.ranges.named, to_z-of_z c.ranges.mark, u) at c.put_cell-2.ensures in
    v ∙ rw (← e, ← f) (sym (lay_pair a.m a.k (value a.flag) x a.out.now))
