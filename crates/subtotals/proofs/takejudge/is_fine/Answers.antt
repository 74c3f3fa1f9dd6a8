-- `takejudge::is_fine` meets its contract. Assumes nothing.
use mathlib.Core.Path.{sym, ◌∙◌}
use native.Mathlib.Omega.{arith}
use Rattle.frames.specs.Cells.{rows_of}
use Rattle.order.specs.options.Options.{with_list}
use Rattle.rows.proofs.nulls.NullLaws.{rows_zero}
use Rattle.subtotals.proofs.takejudge.JudgeLaws.{fine_null, fine_rest}
use Rattle.subtotals.proofs.takejudge.is_fine.Goals as goal

pub returns-then-any_null : goal.returns-then-any_null
returns-then-any_null c =
    let s = c in
    let a = s.args in
    let p = s.requires.1 in
    fine_null (with_list a.rules.terms a.rules.codes.now a.rules.rising.now) a.rows.width (rows_of a.rows.width a.rows.count a.rows.values.now a.rows.marks.now)
    (rows_zero a.rows.width a.rows.count a.rows.values.now a.rows.marks.now p.values p.marks ∙ sym c.any_null.ensures ∙ c.if-any_null.true)

pub is_ascending-requires : goal.is_ascending-requires
is_ascending-requires c =
    let s = c in
    let p = s.requires.1 in
    record { few = s.requires.0; wide = omega (arith, p.width); values = omega (arith, p.values); marks = omega (arith, p.marks) }

pub returns : goal.returns
returns c =
    let s = c in
    let a = s.args in
    let p = s.requires.1 in
    fine_rest (with_list a.rules.terms a.rules.codes.now a.rules.rising.now) a.rows.width (rows_of a.rows.width a.rows.count a.rows.values.now a.rows.marks.now) _
    (rows_zero a.rows.width a.rows.count a.rows.values.now a.rows.marks.now p.values p.marks ∙ sym c.any_null.ensures ∙ c.if-any_null.false) c.is_ascending.ensures
