use Prim.Native.Nat.{◌-◌, ◌+◌, ◌<◌}
use native.Mathlib.Omega.{arith}
use Rattle.order.proofs.RowLaws.{row_room}
use Rattle.tables.proofs.CellLaws.{at_least}
use Rattle.searching.proofs.ReachLaws.{row_at}
use Rattle.groups.proofs.sortedruns.reach.Statement.{statement}
use Rattle.groups.proofs.sortedruns.reach.Tie as tie

abbrev invariant-loop : tie.invariant-loop-step
invariant-loop rows i o step₀ step = 0 < step

abbrev decreases-loop : tie.decreases-loop-step
decreases-loop rows i o step₀ step = rows.count - step

-- the row at that distance is one of them
there : (c : tie.In-loop-step invariant-loop decreases-loop) → c.args.i + c.loop-step.step < c.args.rows.count
there c = omega (arith, c.loop-step-test.true)

loop-holds : tie.Need-loop-step-init invariant-loop decreases-loop
loop-holds c = omega arith

sub-loop : tie.Need-overflow_sub-rows invariant-loop decreases-loop
sub-loop c = omega arith

mul-same-values : tie.Need-overflow_mul-i invariant-loop decreases-loop
mul-same-values c = let s = c in omega (arith, row_room s.args.i s.args.rows.count s.args.rows.width s.requires.1, s.requires.0.values)

add-same-values : tie.Need-overflow_add-i invariant-loop decreases-loop
add-same-values c = omega (arith, c.loop-step-test.true)

mul-same-values-2 : tie.Need-overflow_mul-i-in-loop-step invariant-loop decreases-loop
mul-same-values-2 c = let s = c in omega (arith, row_room (s.args.i + c.loop-step.step) s.args.rows.count s.args.rows.width (there c), s.requires.0.values)

same-values-requires : tie.Need-same_values-requires invariant-loop decreases-loop
same-values-requires c κs =
    let s = c in
    (row_at s.requires.0 s.args.i s.requires.1, row_at s.requires.0 (s.args.i + c.loop-step.step) (there c))

add-result : tie.Need-overflow_add-result invariant-loop decreases-loop
add-result c = omega (arith, there c.before.before)

returns : tie.Need-returns-then-not-same_values invariant-loop decreases-loop
returns c = (omega arith, omega arith)

add_step : tie.Need-overflow_add-step invariant-loop decreases-loop
add_step c =
    let i = c in
    let s = i in
    omega (arith, there i.before.before, at_least s.args.rows.count s.args.rows.width (omega (arith, s.requires.0.wide)), s.requires.0.values)

loop-less : tie.Need-loop-step-smaller invariant-loop decreases-loop
loop-less c = omega arith

loop-again : tie.Need-loop-step-preserved invariant-loop decreases-loop
loop-again c = omega arith

returns-2 : tie.Need-returns invariant-loop decreases-loop
returns-2 c = (omega arith, omega arith)

pub reach_spec : {M : Type 1} → statement M
reach_spec =
    tie.close
    (tie.spec invariant-loop decreases-loop loop-holds sub-loop mul-same-values add-same-values mul-same-values-2 same-values-requires add-result returns add_step loop-less loop-again returns-2)
