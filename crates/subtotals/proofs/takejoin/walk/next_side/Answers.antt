-- `takejoin::walk::next_side` meets its contract. Assumes nothing.
use mathlib.Core.Path.{sym, ◌∙◌}
use Prim.Native.Nat.{◌<◌}
use native.Mathlib.Omega.{arith}
use Rattle.order.specs.options.Options.{with_list}
use Rattle.order.proofs.RowLaws.{row_room}
use Rattle.subtotals.proofs.takejoin.WalkLaws.{side_none, side_alone, side_both}
use Rattle.subtotals.proofs.takejoin.walk.next_side.Goals as goal

pub returns-then-i-table : goal.returns-then-i-table
returns-then-i-table c = let a = c.args in sym (side_none (with_list a.rules.terms a.rules.codes.now a.rules.rising.now) a.table.width a.table.count a.table.values.now a.table.marks.now a.added.count a.added.values.now a.added.marks.now a.i a.j c.if-i-table.true)

pub returns-then-j-added : goal.returns-then-j-added
returns-then-j-added c = let a = c.args in sym (side_alone (with_list a.rules.terms a.rules.codes.now a.rules.rising.now) a.table.width a.table.count a.table.values.now a.table.marks.now a.added.count a.added.values.now a.added.marks.now a.i a.j (omega (arith, c.requires.0.within, c.if-i-table.false)) c.if-j-added.true)

-- both have a row left
first : (c : goal.Else-j-added) → c.args.i < c.args.table.count
first c = omega (arith, c.requires.0.within, c.if-i-table.false)

second : (c : goal.Else-j-added) → c.args.j < c.args.added.count
second c = omega (arith, c.requires.1.within, c.if-j-added.false)

pub overflow_mul-i : goal.overflow_mul-i
overflow_mul-i c = let s = c in omega (arith, row_room s.args.i s.args.table.count s.args.table.width (first (c)), s.requires.0.rows.values)

pub overflow_mul-j : goal.overflow_mul-j
overflow_mul-j c = let s = c in omega (arith, row_room s.args.j s.args.added.count s.args.table.width (second (c)), s.requires.1.rows.values)

pub cmp_group-requires : goal.cmp_group-requires
cmp_group-requires c =
    let s = c in
    let h = row_room s.args.i s.args.table.count s.args.table.width (first (c)) in
    let f = row_room s.args.j s.args.added.count s.args.table.width (second (c)) in
    let p = s.requires.0.rows in
    let q = s.requires.1.rows in
    (record { few = p.few; values = omega (arith, p.values, p.wide); marks = omega (arith, p.marks, p.wide) }, record { few = q.few; values = omega (arith, q.values, q.wide); marks = omega (arith, q.marks, q.wide) })

pub returns : goal.returns
returns c =
    let s = c in
    let a = s.args in
    c.cmp_group.ensures a.table.width a.table.width s.requires.0.rows.wide s.requires.1.rows.wide
    ∙ sym (side_both (with_list a.rules.terms a.rules.codes.now a.rules.rising.now) a.table.width a.table.count a.table.values.now a.table.marks.now a.added.count a.added.values.now a.added.marks.now a.i a.j (first c.before) (second c.before))
