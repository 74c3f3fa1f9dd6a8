-- The loop of `boundaries::put_places`: what is left of the places, laid behind those that were, gives what all of them give. Assumes nothing.
use mathlib.Core.Path.{◌≡◌}
use Prim.Native.Nat.{◌-◌, ◌*◌}
use lib.ListN.{length}
use Rattle.order.specs.options.Options.{options_of}
use Rattle.frames.specs.Cells.{rows_of, rows_in}
use Rattle.tables.specs.Lay.{flat, lay_cells}
use Rattle.cutting.specs.boundaries.Boundaries.{places}
use Rattle.cutting.proofs.boundaries.PlaceLaws.{left}
use Rattle.cutting.proofs.boundaries.put_places.Given as goal

abbrev pub invariant-loop-i : goal.invariant-loop-i
invariant-loop-i l =
    let o = options_of l.rules in
    let r = rows_in l.rows in
    let w = l.rules.terms.by in
    let b = l.bounds in
    record {
      kept : length l.out ≡ length l.initial.out;
      laid : lay_cells b.count 0 (flat (places o r (rows_of w b.count b.values.now b.marks.now))) l.initial.out ≡ lay_cells b.count l.i (left o r w b.values.now b.marks.now b.count (l.i * w) (b.count - l.i)) l.out;
    }
