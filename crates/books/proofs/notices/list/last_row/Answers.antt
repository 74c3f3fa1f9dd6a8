-- `notices::list::last_row` meets its contract. Assumes nothing.
use mathlib.Core.Path.{sym, ◌∙◌}
use Prim.Native.Nat.{◌+◌, ◌<◌}
use native.Mathlib.Omega.{arith}
use Rattle.order.specs.options.Options.{with_list}
use Rattle.order.proofs.RowLaws.{row_room}
use Rattle.books.proofs.notices.NoticeLaws.{last_alone, last_some}
use borrow.Author.Rules.{rules}
use Rattle.books.proofs.notices.list.last_row.Goals as goal

pub returns-then-j-rows : goal.returns-then-j-rows
returns-then-j-rows c = let a = c.args in sym (last_alone (with_list a.rules.terms a.rules.codes.now a.rules.rising.now) a.rows.width a.rows.count a.rows.values.now a.rows.marks.now a.i a.last c.if-j-rows.true)

-- Row i + 1 is there.
next : (c : goal.Else-j-rows) → c.args.i + 1 < c.args.rows.count
next c = let l = c.requires.1 in omega (arith, c.if-j-rows.false)

pub overflow_mul-j : goal.overflow_mul-j
overflow_mul-j c = let a = c.args in omega (arith, row_room (a.i + 1) a.rows.count a.rows.width (next c), c.requires.0.values)

pub overflow_mul-i : goal.overflow_mul-i
overflow_mul-i c = let a = c.args in omega (arith, row_room a.i a.rows.count a.rows.width c.requires.1, c.requires.0.values)

pub same_row-requires : goal.same_row-requires
same_row-requires c =
    let a = c.args in
    let h = row_room (a.i + 1) a.rows.count a.rows.width (next c) in
    let f = row_room a.i a.rows.count a.rows.width c.requires.1 in
    let p = c.requires.0 in
    (record { few = p.few; values = omega (arith, p.values, p.wide); marks = omega (arith, p.marks, p.wide) }, record { few = p.few; values = omega (arith, p.values, p.wide); marks = omega (arith, p.marks, p.wide) })

pub returns-then-same_row : goal.returns-then-same_row
returns-then-same_row c =
    let d = c in
    let s = d in
    let a = s.args in
    sym (last_some (with_list a.rules.terms a.rules.codes.now a.rules.rising.now) a.rows.width a.rows.count a.rows.values.now a.rows.marks.now a.i a.last (next d.before.before) ∙ rw (← c.same_row.ensures a.rows.width s.requires.0.wide, c.if-same_row.true))

pub returns : goal.returns
returns c =
    let d = c in
    let s = d in
    let a = s.args in
    sym (last_some (with_list a.rules.terms a.rules.codes.now a.rules.rising.now) a.rows.width a.rows.count a.rows.values.now a.rows.marks.now a.i a.last (next d.before.before) ∙ rw (← c.same_row.ensures a.rows.width s.requires.0.wide, c.if-same_row.false))
