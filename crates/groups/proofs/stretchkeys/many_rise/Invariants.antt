-- The loop of `stretchkeys::many_rise`: the rows so far have the words of those before them, and their keys do not fall. Assumes nothing.
use Rattle.groups.specs.stretch.Stretch.{SameTo}
use Rattle.groups.specs.rising.Rising.{Rises}
use Rattle.groups.proofs.stretchkeys.many_rise.Given as goal

abbrev pub invariant-loop-e : goal.invariant-loop-e
invariant-loop-e l = record {
  same : SameTo l.by l.rows.width l.rows.count l.rows.values.now l.rows.marks.now l.i l.e;
  rises : Rises l.by l.rows.width l.rows.values.now l.rows.marks.now l.i l.e;
}
