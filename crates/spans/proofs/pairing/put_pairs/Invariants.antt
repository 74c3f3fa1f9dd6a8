-- The loop of `pairing::put_pairs`: the pairs of the intervals that are left go to the cells that are left. Assumes nothing.
use mathlib.Core.Path.{◌≡◌}
use Prim.Native.Nat.{◌+◌, ◌-◌, ◌*◌}
use lib.ListN.{length}
use Rattle.frames.specs.Cells.{rows_of}
use Rattle.tables.specs.Lay.{flat, lay_cells}
use Rattle.spans.specs.Requires.{ported}
use Rattle.spans.specs.Port.{ported_from}
use Rattle.spans.proofs.WalkLaws.{rest}
use Rattle.spans.proofs.pairing.put_pairs.Given as goal

abbrev pub invariant-loop-i : goal.invariant-loop-i
invariant-loop-i l =
    let p = l.points in
    let q = l.intervals in
    record {
      place : l.k + 2 * length (ported_from l.b (rows_of 1 p.count p.values.now p.marks.now) l.i (rest 2 (l.i * 2) (q.count - l.i) q.values.now q.marks.now)) ≡ l.cells;
      kept : length l.out ≡ length l.initial.out;
      laid : lay_cells l.cells 0 (flat (ported l.b p.count p.values.now p.marks.now q.count q.values.now q.marks.now)) l.initial.out ≡ lay_cells l.cells l.k (flat (ported_from l.b (rows_of 1 p.count p.values.now p.marks.now) l.i (rest 2 (l.i * 2) (q.count - l.i) q.values.now q.marks.now))) l.out;
    }
