-- The loop of `subtables::is_ascending`: the rows from the last one that it has come to decide. Assumes nothing.
use mathlib.Core.Path.{◌≡◌}
use Prim.Native.Nat.{◌-◌, ◌*◌}
use Rattle.order.specs.options.Options.{options_of}
use Rattle.frames.specs.Cells.{rows_in}
use Rattle.order.proofs.RowLaws.{rest}
use Rattle.takings.specs.Subtotals.{ascending, subtotals_of}
use Rattle.subtotals.proofs.subtables.is_ascending.Given as goal

abbrev pub invariant-loop-i : goal.invariant-loop-i
invariant-loop-i l =
    let o = options_of l.rules in
    let r = l.rows in
    ascending o (subtotals_of o (rows_in r)) ≡ ascending o (subtotals_of o (rest r.width ((l.i - 1) * r.width) (r.count - (l.i - 1)) r.values.now r.marks.now))
