-- The loop of `scan::first_keyed`: the first row with a key is the first of those that are left. Assumes nothing.
use Rattle.std.proofs.Common.{◌≡◌, ◌-◌, ◌*◌, ◌≤◌, length}
use Rattle.frames.specs.Cells.{Words, rows_of}
use Rattle.order.specs.options.Options.{without_list}
use Rattle.order.specs.Keyed.{first_keyed, first_from}
use Rattle.order.proofs.RowLaws.{rest}
use Rattle.rows.proofs.keyed.scan.first_keyed.Given as goal

abbrev pub invariant-loop-i : goal.invariant-loop-i
invariant-loop-i l = record {
  place : l.p ≡ l.i * l.w;
  left : (vs : Words) → l.n * l.w ≤ length vs → first_keyed (without_list l.o) (rows_of l.w l.n vs l.marks) ≡ first_from (without_list l.o) l.i (rest l.w l.p (l.n - l.i) vs l.marks);
}
