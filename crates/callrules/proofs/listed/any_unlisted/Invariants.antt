-- The loop of `listed::any_unlisted`: the known value is in the list, and the rows before i lack none. Assumes nothing.
use mathlib.Core.Path.{◌≡◌}
use mathlib.Core.Bool.{true}
use lib.ListN.{drop}
use Rattle.frames.specs.Cells.{rows_of}
use Rattle.order.specs.ranks.Ranks.{listed}
use Rattle.order.specs.Listed.{unlisted_in}
use Rattle.callrules.proofs.listed.any_unlisted.Given as goal

abbrev pub invariant-loop-i : goal.invariant-loop-i
invariant-loop-i l = record {
  known : listed l.codes l.known ≡ true;
  passed : unlisted_in l.codes l.j (rows_of l.rows.width l.rows.count l.rows.values.now l.rows.marks.now) ≡ unlisted_in l.codes l.j (drop l.i (rows_of l.rows.width l.rows.count l.rows.values.now l.rows.marks.now));
}
