use mathlib.Core.Path.{ap, ◌∙◌}
use Prim.Native.Nat.{◌*◌}
use native.Mathlib.Omega.{arith}
use Rattle.frames.specs.Cells.{row_from, rows_of}
use Rattle.order.specs.options.Options.{without_list, columns}
use Rattle.order.specs.Keyed.{compared}
use Rattle.order.proofs.RowLaws.{rows_from}
use Rattle.buffer.proofs.splitcheck.BeforeLaws.{remember_nothing, remember_at_lem, compared_from}
use Rattle.buffer.proofs.splitcheck.split.remember_found.Goals as goal

pub returns-in_default : goal.returns-in_default
returns-in_default c = λ n k. let a = c.args in remember_nothing (without_list a.o) _ (rows_of a.rows.width n a.rows.values.now a.rows.marks.now) a.found c.in_default.is

pub left_columns-c-requires : goal.left_columns-c-requires
left_columns-c-requires c = c.requires.few.by

pub overflow_mul-i : goal.overflow_mul-i
overflow_mul-i c =
    let k = c in
    omega (arith, k.requires.values k.in-Some.i k.in-Some.is)

pub copy_row-requires : goal.copy_row-requires
copy_row-requires c =
    let k = c in
    let q = k.requires in
    let i = k.in-Some.i in
    let e = k.in-Some.is in
    let l = c.left_columns-c.ensures in
    record { narrow = omega (arith, q.few); values = omega (arith, q.values i e, q.wide); marks = omega (arith, q.marks i e, q.wide) }

pub returns : goal.returns
returns c = λ n h.
    let k = c in
    let s = k in
    let a = s.args in
    let i = k.in-Some.i in
    let e = k.in-Some.is in
    rw c.left_columns-c.ensures at c.copy_row.ensures
    ∙ remember_at_lem (without_list a.o) _ (rows_of a.rows.width n a.rows.values.now a.rows.marks.now) a.found i (row_from (columns (without_list a.o)) (i * a.rows.width) a.rows.values.now a.rows.marks.now) e
    (ap (compared (without_list a.o)) (rows_from a.rows.width n i a.rows.values.now a.rows.marks.now (h i e)) ∙ compared_from (without_list a.o) a.rows.width (i * a.rows.width) a.rows.values.now a.rows.marks.now s.requires.wide)
