-- `notices::list::same_row` meets its contract. Assumes nothing.
use mathlib.Core.Path.{sym, ap, ◌∙◌}
use Rattle.order.specs.options.Options.{with_list}
use Rattle.frames.specs.Cells.{row_from}
use Rattle.order.specs.Order.{is_equal}
use Rattle.order.proofs.RowLaws.{row_cell}
use Rattle.order.proofs.TermLaws.{row_terms}
use Rattle.groups.proofs.rising.FallLaws.{keys_decide}
use Rattle.books.proofs.notices.NoticeLaws.{equal_by}
use Rattle.books.proofs.notices.list.same_row.Goals as goal

pub same_values-requires : goal.same_values-requires
same_values-requires c =
    let a = c.args in
    let plain = row_terms a.rules.terms a.rules.codes.now a.rules.rising.now in
    (plain a.p a.rows.values.now a.rows.marks.now c.requires.0, plain a.q a.rows.values.now a.rows.marks.now c.requires.1)

pub returns-then-same_values : goal.returns-then-same_values
returns-then-same_values c =
    λ w h.
    let a = c.args in
    let vs = a.rows.values.now in
    let ms = a.rows.marks.now in
    let e = c.same_values.ensures c.if-same_values.true a.rules.codes.now a.rules.rising.now w h in
    c.same_key.ensures
    ∙ sym (ap is_equal (keys_decide (with_list a.rules.terms a.rules.codes.now a.rules.rising.now) (row_from w a.p vs ms) (row_from w a.q vs ms) e) ∙ rw (row_cell w a.p a.rules.terms.by vs ms h c.requires.0.values, row_cell w a.q a.rules.terms.by vs ms h c.requires.1.values))

pub returns : goal.returns
returns c = λ w h. c.is_eq.ensures ∙ rw (← (c.cmp_row.ensures w w h h), equal_by c.cmp_row.result)
