-- `cursor::keys_rise` meets its contract. Assumes nothing.
use mathlib.Core.Path.{◌≡◌, refl, sym}
use Prim.Native.Nat.{◌+◌, ◌*◌, ◌≤◌, ◌<◌}
use native.Mathlib.Omega.{arith}
use Rattle.order.specs.options.Options.{without_list}
use Rattle.order.proofs.RowLaws.{row_room}
use Rattle.matching.proofs.RestLaws.{keys_fall, keys_rose}
use Rattle.matchrun.proofs.cursor.RiseLaws.{told_not, told_yes, risen_more}
use Rattle.matchrun.proofs.cursor.keys_rise.Goals as goal

-- the next row stands w words further on and ends within the rows
next : (c : goal.In-loop-i) → c.loop-i.i + 1 < c.args.to
next c = omega (arith, c.loop-i-test.true)

room : (c : goal.In-loop-i) → let a = c.args in c.loop-i.i * a.rows.width + a.rows.width + a.rows.width ≤ a.to * a.rows.width
room c =
    let a = c.args in
    let i = c.loop-i.i in
    let z : (i + 1) * a.rows.width ≡ i * a.rows.width + a.rows.width = omega arith in
    omega (arith, z, row_room (i + 1) a.to a.rows.width (next c))

pub overflow_mul-p : goal.overflow_mul-p
overflow_mul-p c = let r = room c in omega (arith, c.requires.0)

pub overflow_add-p : goal.overflow_add-p
overflow_add-p c = let r = room c in omega (arith, c.requires.0)

pub overflow_add-p-in-loop-i : goal.overflow_add-p-in-loop-i
overflow_add-p-in-loop-i c = let r = room c in omega (arith, c.requires.0)

pub rises-requires : goal.rises-requires
rises-requires c =
    let r = room c in
    let p = c.requires.0 in
    (omega arith, record { values = omega arith; marks = omega arith }, c.loop-i.invariant.keyed)

pub returns-then-not-rises : goal.returns-then-not-rises
returns-then-not-rises c =
    let l = c.loop-i in
    let a = c.args in
    let r = c.rises.result in
    let e : l.i * a.rows.width + a.o.by + a.rows.width ≡ (l.i + 1) * a.rows.width + a.o.by = omega arith in
    let told = rw e at c.rises.ensures in
    sym (keys_fall (without_list a.o) a.rows.width a.rows.values.now a.rows.marks.now a.from a.to c.requires.0 l.i l.invariant.start l.invariant.rose (omega (arith, c.loop-i-test.true)) (told_yes r _ told (c.if-not-rises.true)))

pub loop-i-preserved : goal.loop-i-preserved
loop-i-preserved c =
    let l = c.loop-i in
    let a = c.args in
    let x = l.i * a.rows.width + a.o.by in
    let r = c.rises in
    risen_more a.rows.width a.o.by a.rows.values.now a.rows.marks.now a.from l.i (l.i + 1) x l.invariant refl refl (told_not r.result _ r.ensures (c.if-not-rises.false))

pub returns : goal.returns
returns c =
    let l = c.loop-i in
    let a = c.args in
    sym (keys_rose (without_list a.o) a.rows.width a.rows.values.now a.rows.marks.now a.from a.to c.requires.0 l.i l.invariant.start l.invariant.rose (omega (arith, l.auto.i, c.skip_risen-start.ensures, c.requires.1, c.loop-i-test.false)))
