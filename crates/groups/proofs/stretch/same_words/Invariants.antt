-- The loop of `stretch::same_words`: the first j cells are equal. Assumes nothing.
use Rattle.groups.specs.Alike.{SameCells}
use Rattle.groups.proofs.stretch.same_words.Given as goal

abbrev pub invariant-loop-j : goal.invariant-loop-j
invariant-loop-j l = SameCells l.j l.p l.q l.rows.values.now l.rows.marks.now
