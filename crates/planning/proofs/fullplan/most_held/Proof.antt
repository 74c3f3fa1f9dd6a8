-- `fullplan::most_held` meets its contract. Assumes nothing.
use Prim.Native.Nat.{◌+◌, ◌-◌}
use native.Mathlib.Omega.{arith}
use lib.ListN.{length}
use Rattle.frames.specs.Cells.{rows_of}
use Rattle.order.specs.options.Options.{with_list}
use Rattle.planning.specs.Heights.{full_heights}
use Rattle.planning.specs.fullplan.Full.{FullStands}
use Rattle.planning.proofs.fullplan.FullLaws.{full_starts, full_ends}
use Rattle.planning.proofs.fullplan.most_held.Statement.{statement}
use Rattle.planning.proofs.fullplan.most_held.Tie as tie

abbrev invariant-loop : tie.invariant-loop-s
invariant-loop left right rules s₀ s = FullStands (with_list rules.terms rules.codes.now rules.rising.now) left.count right.count (rows_of left.width left.count left.values.now left.marks.now) (rows_of right.width right.count right.values.now right.marks.now) s

abbrev decreases-loop : tie.decreases-loop-s
decreases-loop left right rules s₀ s = (length (full_heights left.count) + length (full_heights right.count)) - (s.lefts + s.rights)

loop-holds : tie.Need-loop-s-init invariant-loop decreases-loop
loop-holds c = full_starts c.requires.0 c.requires.1

full-turn-requires : tie.Need-full_turn-s-requires invariant-loop decreases-loop
full-turn-requires c κs = let l = c in (l.requires.0, l.requires.1, l.loop-s.invariant, c.loop-s-test.true)

loop-less : tie.Need-loop-s-smaller invariant-loop decreases-loop
loop-less c =
    let l = c.loop-s.invariant in
    let e = c.full_turn-s.ensures in
    omega (arith, e.1, e.0.lefts, e.0.rights, l.lefts, l.rights)

loop-again : tie.Need-loop-s-preserved invariant-loop decreases-loop
loop-again c = c.full_turn-s.ensures.0

returns : tie.Need-returns invariant-loop decreases-loop
returns c =
    let l = c in
    full_ends l.requires.0 l.requires.1 l.loop-s.s l.loop-s.invariant c.loop-s-test.false

pub most_held_spec : {M : Type 1} → statement M
most_held_spec =
    tie.close (tie.spec invariant-loop decreases-loop loop-holds full-turn-requires loop-less loop-again returns)
