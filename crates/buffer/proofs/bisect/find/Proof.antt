use mathlib.Core.Path.{◌≡◌, refl, sym, ◌∙◌}
use mathlib.Core.Bool.{Bool, true, false}
use Prim.Native.Nat.{ℕ, ◌+◌, ◌-◌, ◌*◌, ◌/◌, ◌≤◌}
use native.Mathlib.Omega.{arith}
use mir.Facts.{to_z-of_z}
use mir.Syntax.{w64}
use mir.Val.{to_z, of_z}
use Rattle.frames.specs.Cells.{Cell, cell_of, rows_of}
use Rattle.order.specs.options.Options.{Rule}
use Rattle.order.proofs.RowLaws.{row_room}
use Rattle.searching.specs.Search.{find}
use Rattle.buffer.proofs.area.AreaLaws.{rows_words}
use Rattle.searching.proofs.FindLaws.{held_cell, Met, find_true, find_false, find_end}
use Rattle.buffer.proofs.bisect.find.Statement.{statement}
use Rattle.buffer.proofs.bisect.find.Tie as tie

abbrev invariant-loop : tie.invariant-loop-low
invariant-loop seek descending nulls-last codes rising j value mark rows lower upper low₀ high₀ low high =
    let rule : Rule = record { descending = descending; nulls_last = nulls-last; codes = codes } in
    let v : Cell = cell_of (to_z w64 value) (to_z w64 mark) in
    (high ≤ upper) × ((n : ℕ) → upper ≤ n → find seek rule j v (rows_of rows.width n rows.values.now rows.marks.now) lower upper ≡ find seek rule j v (rows_of rows.width n rows.values.now rows.marks.now) low high)

abbrev decreases-loop : tie.decreases-loop-low
decreases-loop seek descending nulls-last codes rising j value mark rows lower upper low₀ high₀ low high = high - low

loop-holds : tie.Need-loop-low-init invariant-loop decreases-loop
loop-holds c = (omega arith, λ n h. refl)

-- the probe's row is among those that are there
place : (c : tie.In-loop-low invariant-loop decreases-loop) → let l = c.loop-low in let a = c.args in (l.low + l.high) / 2 * a.rows.width + a.rows.width ≤ a.upper * a.rows.width
place c =
    let l = c.loop-low in
    let a = c.args in
    row_room ((l.low + l.high) / 2) a.upper a.rows.width (omega (arith, l.invariant.0))

add-mid : tie.Need-overflow_add-mid invariant-loop decreases-loop
add-mid c =
    let a = c.args in
    let p = c.requires.1 in
    let n = rows_words a.upper a.rows.width (omega (arith, p.wide)) in
    omega arith

mul-probe : tie.Need-overflow_mul-mid invariant-loop decreases-loop
mul-probe c = omega (arith, place c)

add-probe : tie.Need-overflow_add-mid-in-loop-low invariant-loop decreases-loop
add-probe c = omega (arith, place c)

probe-requires : tie.Need-probe-requires invariant-loop decreases-loop
probe-requires c κs =
    let p = place c in
    (c.requires.0, record { values = omega arith; marks = omega arith })

-- what the probe says is what its row's cell says
told : (c : tie.After-probe invariant-loop decreases-loop) (t : Bool) → c.probe.result ≡ t → (n : ℕ) →
    let l = c.loop-low in
    let a = c.args in
    a.upper ≤ n → Met a.seek (record { descending = a.descending; nulls_last = a.nulls_last; codes = a.codes.now }) a.j (cell_of (to_z w64 (of_z w64 a.value)) (to_z w64 (of_z w64 a.mark))) (rows_of a.rows.width n a.rows.values.now a.rows.marks.now) l.low l.high t
told c t e n h =
    let l = c.loop-low in
    let s = c in
    let a = s.args in
    let p = place c.before in
    rw (held_cell a.rows.width n ((l.low + l.high) / 2) a.j a.rows.values.now a.rows.marks.now (omega (arith, c.loop-low-test.true, l.invariant.0)) s.requires.1.wide (omega (arith, s.requires.1.values, s.requires.1.wide))) (rw c.probe.ensures at e)

loop-less : tie.Need-loop-low-smaller-then-probe invariant-loop decreases-loop
loop-less c = omega arith

loop-again : tie.Need-loop-low-preserved-then-probe invariant-loop decreases-loop
loop-again c =
    let l = c.loop-low in
    (omega arith, λ n h. l.invariant.1 n h ∙ find_true _ _ _ _ _ _ _ c.loop-low-test.true (told c.before true c.if-probe.true n h))

add_low : tie.Need-overflow_add-low invariant-loop decreases-loop
add_low c = omega arith

loop-less-2 : tie.Need-loop-low-smaller invariant-loop decreases-loop
loop-less-2 c = omega arith

loop-again-2 : tie.Need-loop-low-preserved invariant-loop decreases-loop
loop-again-2 c =
    let l = c.loop-low in
    (l.invariant.0, λ n h. l.invariant.1 n h ∙ find_false _ _ _ _ _ _ _ c.loop-low-test.true (told c.before false c.if-probe.false n h))

returns : tie.Need-returns invariant-loop decreases-loop
returns c = λ n h.
    let l = c.loop-low in
    let f = c.ranges in
    rw (to_z-of_z f.value, to_z-of_z f.mark) at (sym (l.invariant.1 n h ∙ find_end _ _ _ _ _ _ _ c.loop-low-test.false))

pub find_spec : {M : Type 1} → statement M
find_spec =
    tie.close
    (tie.spec invariant-loop decreases-loop loop-holds add-mid mul-probe add-probe probe-requires loop-less loop-again add_low loop-less-2 loop-again-2 returns)
