-- The loop of `tables::put_row`: the cells that are left go to the cells of the table that are left. Assumes nothing.
use mathlib.Core.Path.{◌≡◌}
use Prim.Native.Nat.{◌+◌}
use lib.ListN.{length}
use Rattle.frames.specs.Cells.{row_from}
use Rattle.tables.specs.Lay.{lay_cells}
use Rattle.tables.proofs.CellLaws.{cells_from}
use Rattle.tables.proofs.put_row.Given as goal

abbrev pub invariant-loop-j : goal.invariant-loop-j
invariant-loop-j l =
    let r = l.rows in
    record {
      kept : length l.out ≡ length l.initial.out;
      laid : lay_cells l.m l.k (row_from r.width l.p r.values.now r.marks.now) l.initial.out ≡ lay_cells l.m (l.k + l.j) (cells_from r.width l.p l.j r.values.now r.marks.now) l.out;
    }
