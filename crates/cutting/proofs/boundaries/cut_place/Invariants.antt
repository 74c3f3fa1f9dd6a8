-- The loop of `boundaries::cut_place`: the cut is not before low and not behind high. Assumes nothing.
use Prim.Native.Nat.{◌-◌, ◌≤◌}
use Rattle.order.specs.options.Options.{options_of}
use Rattle.frames.specs.Cells.{rows_in, row_from}
use Rattle.cutting.specs.boundaries.Boundaries.{cut_at}
use Rattle.cutting.proofs.boundaries.cut_place.Given as goal

abbrev pub invariant-loop-low : goal.invariant-loop-low
invariant-loop-low l =
    let k = cut_at (options_of l.rules) (row_from l.rules.terms.by l.p l.bounds.values.now l.bounds.marks.now) (rows_in l.rows) in
    record { behind : l.low ≤ k; before : k ≤ l.high; within : l.high ≤ l.rows.count }

abbrev pub decreases-loop-low : goal.decreases-loop-low
decreases-loop-low l = l.high - l.low
