-- The loop of `scan::last_keyed`: the last row with a key is the last of those that are left. Assumes nothing.
use Rattle.std.proofs.Common.{◌≡◌, ◌*◌, ◌≤◌, length}
use Rattle.frames.specs.Cells.{Words, rows_of}
use Rattle.order.specs.options.Options.{without_list}
use Rattle.order.specs.Keyed.{last_keyed, last_below}
use Rattle.rows.proofs.keyed.scan.last_keyed.Given as goal

abbrev pub invariant-loop-i : goal.invariant-loop-i
invariant-loop-i l = record {
  place : l.p ≡ l.i * l.w;
  left : (vs : Words) → l.n * l.w ≤ length vs → last_keyed (without_list l.o) (rows_of l.w l.n vs l.marks) ≡ last_below (without_list l.o) (rows_of l.w l.n vs l.marks) l.i;
}
