-- `notices::row::stands` meets its contract. Assumes nothing.
use mathlib.Core.Path.{sym, ◌∙◌}
use borrow.Author.Tests.{eq-eqb, ne_eqb}
use Rattle.books.proofs.notices.NoticeLaws.{left_null, left_value}
use borrow.Author.Rules.{rules}
use Rattle.books.proofs.notices.row.stands.Goals as goal

pub returns-then-last-i : goal.returns-then-last-i
returns-then-last-i c = simp (ne_eqb _ _ c.if-last-i.true)

pub returns-then-null_at : goal.returns-then-null_at
returns-then-null_at c =
    let a = c.args in
    rw (eq-eqb a.last a.i c.if-last-i.false) (sym (left_null a.k a.rows.values.now a.rows.marks.now (sym (c.null_at.ensures a.rows.values.now) ∙ c.if-null_at.true)))

pub returns : goal.returns
returns c =
    let a = c.args in
    rw (eq-eqb a.last a.i c.if-last-i.false) (sym (left_value a.k a.rows.values.now a.rows.marks.now (sym (c.null_at.ensures a.rows.values.now) ∙ c.if-null_at.false) c.result-1.given))
