-- The loop of `pairing::put_stretch`: the pairs of the points that are left go to the cells that are left. Assumes nothing.
use mathlib.Core.Path.{◌≡◌}
use mathlib.Core.List.{map}
use Prim.Native.Nat.{◌+◌, ◌-◌, ◌*◌}
use lib.ListN.{length}
use Rattle.tables.specs.Lay.{flat, lay_cells}
use Rattle.spans.specs.Span.{pair_row}
use Rattle.spans.specs.Port.{up_from}
use Rattle.spans.proofs.pairing.put_stretch.Given as goal

abbrev pub invariant-loop-j : goal.invariant-loop-j
invariant-loop-j l = record {
  place : l.k + 2 * (l.end - l.j) ≡ l.from + 2 * (l.end - l.start);
  kept : length l.out ≡ length l.initial.out;
  laid : lay_cells l.cells l.from (flat (map (pair_row l.i) (up_from l.start (l.end - l.start)))) l.initial.out ≡ lay_cells l.cells l.k (flat (map (pair_row l.i) (up_from l.j (l.end - l.j)))) l.out;
}
