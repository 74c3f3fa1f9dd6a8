-- The loop of `carrying::carry_cells`: the cells from j on are still to be laid. Assumes nothing.
use mathlib.Core.Path.{◌≡◌}
use Prim.Native.Nat.{◌+◌, ◌-◌}
use lib.ListN.{length}
use Rattle.tables.specs.Lay.{lay_cells}
use Rattle.matchframe.specs.carrying.Loops.{cells_at}
use Rattle.matchframe.proofs.carrying.carry_cells.Given as goal

abbrev pub invariant-loop-j : goal.invariant-loop-j
invariant-loop-j l = record {
  kept : length l.out ≡ length l.initial.out;
  laid : lay_cells l.m l.k (cells_at l.q l.p l.right.values.now l.right.marks.now) l.initial.out ≡ lay_cells l.m (l.k + l.j) (cells_at (l.q + l.j) (l.p - l.j) l.right.values.now l.right.marks.now) l.out;
}
