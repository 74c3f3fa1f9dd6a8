-- The loop of `stretch::words_end`: the rows so far have the words. Assumes nothing.
use Rattle.frames.specs.Cells.{cell_of}
use Rattle.groups.specs.stretch.Stretch.{Have}
use Rattle.groups.proofs.stretch.words_end.Given as goal

abbrev pub invariant-loop-i : goal.invariant-loop-i
invariant-loop-i l = Have l.rows.width l.e l.rows.count l.rows.values.now l.rows.marks.now (cell_of l.v l.m) l.i
