-- The loop of `cursor::keys_rise`: no key before row i is greater than the next. Assumes nothing.
use Rattle.matchrun.specs.cursor.Risen.{Risen}
use Rattle.matchrun.proofs.cursor.keys_rise.Given as goal

abbrev pub invariant-loop-i : goal.invariant-loop-i
invariant-loop-i l = Risen l.rows.width l.by l.from l.rows.values.now l.rows.marks.now l.i
