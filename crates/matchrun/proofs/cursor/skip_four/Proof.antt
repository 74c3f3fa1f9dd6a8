use mathlib.Core.Path.{◌≡◌}
use Prim.Native.Nat.{◌+◌, ◌-◌, ◌%◌, ◌≤◌}
use native.Mathlib.Nat.{mul-le-mul_right}
use native.Mathlib.Omega.{arith}
use borrow.Author.Tests.{not-false}
use Rattle.matchrun.specs.cursor.Risen.{Risen}
use Rattle.matchrun.proofs.cursor.RiseLaws.{risen_none, risen_join}
use Rattle.matchrun.proofs.cursor.skip_four.Statement.{statement}
use Rattle.matchrun.proofs.cursor.skip_four.Tie as tie

abbrev invariant-loop : tie.invariant-loop-i
invariant-loop rows from end by i₀ i = (i ≤ end) × ((end - i) % 4 ≡ 0) × Risen rows.width by from rows.values.now rows.marks.now i

abbrev decreases-loop : tie.decreases-loop-i
decreases-loop rows from end by i₀ i = end - i

-- four rows are left, and one behind them
next : (c : tie.In-loop-i invariant-loop decreases-loop) → c.loop-i.i + 4 ≤ c.args.end
next c = omega (arith, c.loop-i-test.true, c.loop-i.invariant.1)

loop-holds : tie.Need-loop-i-init invariant-loop decreases-loop
loop-holds c = let a = c.args in (c.requires.1, c.requires.2, risen_none a.rows.width a.by a.rows.values.now a.rows.marks.now a.from c.requires.5)

four-rise-requires : tie.Need-four_rise-requires invariant-loop decreases-loop
four-rise-requires c κs =
    let l = c.loop-i in
    let s = c in
    let m = mul-le-mul_right {m = l.i + 5} {n = s.args.end + 1} s.args.rows.width (omega (arith, next c)) in
    (s.requires.0, omega (arith, m, s.requires.3), omega (arith, m, s.requires.4), l.invariant.2.keyed)

returns : tie.Need-returns-then-not-four_rise invariant-loop decreases-loop
returns c = let l = c.loop-i in (l.invariant.0, l.invariant.2)

add-i : tie.Need-overflow_add-i invariant-loop decreases-loop
add-i c = let l = next c.before.before in omega arith

loop-less : tie.Need-loop-i-smaller invariant-loop decreases-loop
loop-less c = omega (arith, c.loop-i-test.true)

loop-again : tie.Need-loop-i-preserved invariant-loop decreases-loop
loop-again c =
    let d = c in
    let l = d.loop-i in
    let a = d.args in
    let n = next d.before.before in
    let f = c.four_rise.ensures (not-false c.four_rise.result c.if-not-four_rise.false-raw) in
    (n, omega (arith, l.invariant.1), risen_join a.rows.width a.by a.rows.values.now a.rows.marks.now a.from l.i (l.i + 4) l.invariant.2 f)

returns-2 : tie.Need-returns invariant-loop decreases-loop
returns-2 c = let l = c.loop-i in (l.invariant.0, l.invariant.2)

pub skip_four_spec : {M : Type 1} → statement M
skip_four_spec =
    tie.close
    (tie.spec invariant-loop decreases-loop loop-holds four-rise-requires returns add-i loop-less loop-again returns-2)
