-- The loop of `salekind::count_kinds`: the sales of the rows that it has come to are counted. Assumes nothing.
use mathlib.Core.List.{List}
use Prim.Native.Nat.{ℕ, ◌≤◌}
use lib.ListN.{length}
use Rattle.frames.specs.Cells.{Words}
use Rattle.order.specs.options.Options.{with_list}
use Rattle.sales.proofs.salekind.KindLaws.{Going}
use Rattle.sales.proofs.salekind.count_kinds.Given as goal

abbrev pub invariant-loop-i : goal.invariant-loop-i
invariant-loop-i l = record {
  few_sales : l.sales ≤ l.i;
  few_nulls : l.nulls ≤ l.i;
  going : (lv codes : Words) (rising : List ℕ) → length l.left.marks.now ≤ length lv → Going (with_list l.o codes rising) l.left.count l.answers.width lv l.left.marks.now l.answers.values.now l.answers.marks.now l.i l.sales l.nulls;
}
