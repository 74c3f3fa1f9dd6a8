-- `compare::cmp_row` meets its contract. Assumes nothing.
use Rattle.std.proofs.Common.{sym, rules}
use Rattle.order.specs.Order.{cmp_row}
use Rattle.order.proofs.RowLaws.{row_cell, next_stop}
use Rattle.rows.proofs.compare.cmp_row.Statement.{statement}
use Rattle.rows.proofs.compare.cmp_row.Tie as tie

cmp-group-requires : tie.Need-cmp_group-r-requires
cmp-group-requires c κs = search rules

enum_told : tie.Need-enum_told-1
enum_told c = search rules

add-cmp-at : tie.Need-overflow_add-pa
add-cmp-at c = search rules

add-cmp-at-2 : tie.Need-overflow_add-pb
add-cmp-at-2 c = search rules

cmp-at-requires : tie.Need-cmp_at-requires
cmp-at-requires c κs = search rules

returns : tie.Need-returns-in-Equal
unfolding cmp_row
returns c = λ wa wb ha hb.
    let s = c in
    let a = s.args in
    rw (
      ← (c.cmp_group-r.ensures wa wb ha hb),
      c.in-Equal.is,
      row_cell wa a.pa a.rules.terms.by a.a.values.now a.a.marks.now ha s.requires.0.values,
      row_cell wb a.pb a.rules.terms.by a.b.values.now a.b.marks.now hb s.requires.1.values,
    )
    c.cmp_at.ensures

returns-2 : tie.Need-returns-in_default
unfolding cmp_row
returns-2 c = λ wa wb ha hb. rw (← (c.cmp_group-r.ensures wa wb ha hb)) (sym (next_stop c.cmp_group-r.result _ c.in_default.in_default-own.keys2))

pub cmp_row_spec : {M : Type 1} → statement M
cmp_row_spec =
    tie.close
    (tie.spec cmp-group-requires enum_told add-cmp-at add-cmp-at-2 cmp-at-requires returns returns-2)
