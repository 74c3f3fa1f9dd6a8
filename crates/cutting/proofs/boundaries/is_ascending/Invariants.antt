-- The loop of `boundaries::is_ascending`: the list ascends if what is left of it does, from the boundary before i on. Assumes nothing.
use mathlib.Core.Path.{◌≡◌}
use Prim.Native.Nat.{◌-◌, ◌*◌}
use Rattle.order.specs.options.Options.{options_of}
use Rattle.frames.specs.Cells.{rows_of}
use Rattle.order.proofs.RowLaws.{rest}
use Rattle.cutting.specs.boundaries.Boundaries.{ascending}
use Rattle.cutting.proofs.boundaries.is_ascending.Given as goal

abbrev pub invariant-loop-i : goal.invariant-loop-i
invariant-loop-i l =
    let o = options_of l.rules in
    let b = l.rows in
    ascending o (rows_of l.w b.count b.values.now b.marks.now) ≡ ascending o (rest l.w ((l.i - 1) * l.w) (b.count - (l.i - 1)) b.values.now b.marks.now)
