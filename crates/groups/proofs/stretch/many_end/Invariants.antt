-- The loop of `stretch::many_end`: the rows so far have the words of those before them. Assumes nothing.
use Rattle.groups.specs.stretch.Stretch.{SameTo}
use Rattle.groups.proofs.stretch.many_end.Given as goal

abbrev pub invariant-loop-e : goal.invariant-loop-e
invariant-loop-e l = SameTo l.by l.rows.width l.rows.count l.rows.values.now l.rows.marks.now l.i l.e
