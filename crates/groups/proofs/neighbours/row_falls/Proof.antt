use Rattle.order.proofs.RowLaws.{not_greater_arm}
use Rattle.order.proofs.TermLaws.{row_terms}
use borrow.Author.Rules.{rules}
use Rattle.groups.proofs.neighbours.row_falls.Statement.{statement}
use Rattle.groups.proofs.neighbours.row_falls.Tie as tie

steps-up-requires : tie.Need-steps_up-requires
steps-up-requires c κs =
    let s = c in
    let a = s.args in
    let plain = row_terms a.rules.terms a.rules.codes.now a.rules.rising.now in
    (plain a.p a.rows.values.now a.rows.marks.now s.requires.0, plain a.q a.rows.values.now a.rows.marks.now s.requires.1, s.requires.2)

returns : tie.Need-returns-then-steps_up
returns c = λ w h. let a = c.args in rw (c.steps_up.ensures c.if-steps_up.true a.rules.codes.now a.rules.rising.now w h)

cmp-row-requires : tie.Need-cmp_row-requires
cmp-row-requires c κs = search rules

enum_told : tie.Need-enum_told-1
enum_told c = search rules

returns-2 : tie.Need-returns-in-Greater
returns-2 c = λ w h. rw (← (c.cmp_row.ensures w w h h), c.in-Greater.is)

returns-3 : tie.Need-returns-in_default
returns-3 c = λ w h. rw (← (c.cmp_row.ensures w w h h), not_greater_arm c.cmp_row.result c.in_default.in_default-own.keys2)

pub row_falls_spec : {M : Type 1} → statement M
row_falls_spec = tie.close (tie.spec steps-up-requires returns cmp-row-requires enum_told returns-2 returns-3)
