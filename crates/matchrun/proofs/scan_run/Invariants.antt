-- The loop of `scan_run`: the choices of the rows from i on are still to be laid. Assumes nothing.
use mathlib.Core.Path.{◌≡◌}
use mathlib.Core.List.{map}
use Prim.Native.Nat.{◌+◌}
use lib.ListN.{length}
use Rattle.order.specs.options.Options.{without_list}
use Rattle.matching.specs.Match.{match_in}
use Rattle.matching.specs.Stretches.{between, lay}
use Rattle.matchrun.proofs.scan_run.Given as goal

abbrev pub invariant-loop-i : goal.invariant-loop-i
invariant-loop-i l = record {
  kept : length l.out ≡ length l.initial.out;
  laid : lay l.m l.from (map (match_in (without_list l.o) (l.number + l.at) (between l.right.width l.at l.end l.right.values.now l.right.marks.now)) (between l.left.width l.from l.to l.left.values.now l.left.marks.now)) l.initial.out
      ≡ lay l.m l.i (map (match_in (without_list l.o) (l.number + l.at) (between l.right.width l.at l.end l.right.values.now l.right.marks.now)) (between l.left.width l.i l.to l.left.values.now l.left.marks.now)) l.out;
}
