-- The loop of `groups::same_cells`: the first j cells are equal. Assumes nothing.
use Rattle.groups.specs.Alike.{SameCells}
use Rattle.groups.proofs.same_cells.Given as goal

abbrev pub invariant-loop-j : goal.invariant-loop-j
invariant-loop-j l = SameCells l.j l.p l.q l.rows.values.now l.rows.marks.now
