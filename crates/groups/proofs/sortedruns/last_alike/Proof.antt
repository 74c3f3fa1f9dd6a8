use mathlib.Core.Path.{◌≡◌}
use mathlib.Core.List.{List}
use Prim.Native.Nat.{ℕ, ◌+◌, ◌-◌, ◌*◌, ◌/◌, ◌≤◌, ◌<◌}
use native.Mathlib.Omega.{arith}
use Rattle.frames.specs.Cells.{row_from, Words}
use Rattle.order.specs.options.Options.{with_list}
use Rattle.order.specs.Order.{cmp_group}
use Rattle.std.specs.declared.cmp.Ordering.TheVariants.{Equal}
use Rattle.order.proofs.OrderLaws.{cmp_group_is}
use Rattle.order.proofs.RowLaws.{row_room}
use Rattle.tables.proofs.CellLaws.{at_least}
use Rattle.searching.proofs.ReachLaws.{row_at}
use Rattle.groups.proofs.sortedruns.last_alike.Statement.{statement}
use Rattle.groups.proofs.sortedruns.last_alike.Tie as tie

abbrev invariant-loop : tie.invariant-loop-low
invariant-loop rows high i o low₀ end₀ low end =
    (i ≤ low) × (low < end) × (end ≤ high) × ((codes : Words) (rising : List ℕ) → cmp_group (with_list o codes rising) (row_from rows.width (i * rows.width) rows.values.now rows.marks.now) (row_from rows.width (low * rows.width) rows.values.now rows.marks.now) ≡ Equal)

abbrev decreases-loop : tie.decreases-loop-low
decreases-loop rows high i o low₀ end₀ low end = end - low

-- the row in the middle is one of them
halved : (low end : ℕ) → low + 1 < end → (low < low + (end - low) / 2) × (low + (end - low) / 2 < end)
halved low end h = (omega arith, omega arith)

middle : (c : tie.In-loop-low invariant-loop decreases-loop) → c.loop-low.low + (c.loop-low.end - c.loop-low.low) / 2 < c.args.high
middle c = let l = c.loop-low in let m = halved l.low l.end c.loop-low-test.true in omega (arith, m.1, l.invariant.2)

loop-holds : tie.Need-loop-low-init invariant-loop decreases-loop
loop-holds c = let s = c in (omega arith, s.requires.1, omega arith, λ codes rising. (cmp_group_is (with_list s.args.o codes rising)).equal (row_from s.args.rows.width (s.args.i * s.args.rows.width) s.args.rows.values.now s.args.rows.marks.now))

add-loop : tie.Need-overflow_add-low invariant-loop decreases-loop
add-loop c = let s = c in omega (arith, c.loop-low.invariant.1, c.loop-low.invariant.2, at_least s.args.high s.args.rows.width (omega (arith, s.requires.0.wide)), s.requires.0.values)

sub-middle : tie.Need-overflow_sub-middle invariant-loop decreases-loop
sub-middle c = omega (arith, c.loop-low-test.true)

add-middle : tie.Need-overflow_add-middle invariant-loop decreases-loop
add-middle c = omega (arith, c.loop-low-test.true)

mul-same-values : tie.Need-overflow_mul-i invariant-loop decreases-loop
mul-same-values c = let s = c in omega (arith, row_room s.args.i s.args.high s.args.rows.width s.requires.1, s.requires.0.values)

mul-same-values-2 : tie.Need-overflow_mul-middle invariant-loop decreases-loop
mul-same-values-2 c =
    let s = c in
    let l = c.loop-low in
    omega (arith, row_room (l.low + (l.end - l.low) / 2) s.args.high s.args.rows.width (middle c), s.requires.0.values)

same-values-requires : tie.Need-same_values-requires invariant-loop decreases-loop
same-values-requires c κs = let s = c in (row_at s.requires.0 s.args.i s.requires.1, row_at s.requires.0 _ (middle c))

loop-less : tie.Need-loop-low-smaller-then-same_values invariant-loop decreases-loop
loop-less c = let l = c.loop-low in let m = halved l.low l.end c.loop-low-test.true in omega (arith, m.0, m.1)

loop-again : tie.Need-loop-low-preserved-then-same_values invariant-loop decreases-loop
loop-again c =
    let l = c.loop-low in
    let s = c in
    let m = halved l.low l.end c.loop-low-test.true in
    (omega (arith, m.0, l.invariant.0), m.1, l.invariant.2, λ codes rising. c.same_values.ensures c.if-same_values.true codes rising s.args.rows.width s.requires.0.wide)

loop-less-2 : tie.Need-loop-low-smaller invariant-loop decreases-loop
loop-less-2 c = let l = c.loop-low in let m = halved l.low l.end c.loop-low-test.true in omega (arith, m.0, m.1)

loop-again-2 : tie.Need-loop-low-preserved invariant-loop decreases-loop
loop-again-2 c =
    let l = c.loop-low in
    let m = halved l.low l.end c.loop-low-test.true in
    (l.invariant.0, m.0, omega (arith, m.1, l.invariant.2), l.invariant.3)

returns : tie.Need-returns invariant-loop decreases-loop
returns c = let l = c.loop-low in (l.invariant.0, omega (arith, l.invariant.1, l.invariant.2), l.invariant.3)

pub last_alike_spec : {M : Type 1} → statement M
last_alike_spec =
    tie.close
    (tie.spec invariant-loop decreases-loop loop-holds add-loop sub-middle add-middle mul-same-values mul-same-values-2 same-values-requires loop-less loop-again loop-less-2 loop-again-2 returns)
