-- The loop of `scan::null_group`: none of the cells so far is null. Assumes nothing.
use Rattle.std.proofs.Common.{◌≡◌, ℕ, ◌+◌, ◌<◌, false, length}
use Rattle.frames.specs.Cells.{Words, row_from}
use Rattle.order.specs.Order.{null_in}
use Rattle.rows.proofs.keyed.scan.null_group.Given as goal

abbrev pub invariant-loop-j : goal.invariant-loop-j
invariant-loop-j l = (w : ℕ) (vs : Words) → l.fn.o.by < w → l.p + l.fn.o.by < length vs → null_in l.j (row_from w l.p vs l.marks) ≡ false
