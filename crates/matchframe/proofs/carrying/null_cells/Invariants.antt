-- The loop of `carrying::null_cells`: the nulls from j on are still to be laid. Assumes nothing.
use mathlib.Core.Path.{◌≡◌}
use Prim.Native.Nat.{◌+◌, ◌-◌}
use lib.ListN.{length, replicate}
use Rattle.frames.specs.Cells.{null}
use Rattle.tables.specs.Lay.{lay_cells}
use Rattle.matchframe.proofs.carrying.null_cells.Given as goal

abbrev pub invariant-loop-j : goal.invariant-loop-j
invariant-loop-j l = record {
  kept : length l.out ≡ length l.initial.out;
  laid : lay_cells l.m l.k (replicate l.p null) l.initial.out ≡ lay_cells l.m (l.k + l.j) (replicate (l.p - l.j) null) l.out;
}
