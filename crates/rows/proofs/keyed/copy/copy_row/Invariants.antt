-- The loop of `copy::copy_row`: the cells so far are copied. Assumes nothing.
use Rattle.std.proofs.Common.{◌≡◌, map, length}
use Rattle.frames.specs.Cells.{row_from, value_word, mark_word}
use Rattle.order.specs.Keyed.{five}
use Rattle.rows.proofs.keyed.copy.copy_row.Given as goal

abbrev pub invariant-loop-j : goal.invariant-loop-j
invariant-loop-j l = record {
  five_values : length l.v ≡ 5;
  five_marks : length l.m ≡ 5;
  values : l.v ≡ five (map value_word (row_from l.j l.p l.rows.values.now l.rows.marks.now));
  marks : l.m ≡ five (map mark_word (row_from l.j l.p l.rows.values.now l.rows.marks.now));
}
