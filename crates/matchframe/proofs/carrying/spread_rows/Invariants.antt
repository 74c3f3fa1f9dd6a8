-- The loop of `carrying::spread_rows`: the rows from i on are spread. Assumes nothing.
use mathlib.Core.Path.{◌≡◌}
use Prim.Native.Nat.{◌+◌, ◌*◌}
use lib.ListN.{length}
use Rattle.order.specs.options.Options.{without_list}
use Rattle.order.specs.Requires.{cell_at}
use Rattle.matchframe.proofs.carrying.SpreadLaws.{spread_on}
use Rattle.matchframe.proofs.carrying.spread_rows.Given as goal

abbrev pub invariant-loop-i : goal.invariant-loop-i
invariant-loop-i l = record {
  kept : length l.out ≡ length l.initial.out;
  behind : l.out ≡ spread_on (without_list l.o) l.number l.right.width l.right.values.now l.right.marks.now (λ j. cell_at (j * l.left.width + l.o.by) l.left.values.now l.left.marks.now) l.m l.left.count l.initial.out l.i;
}
