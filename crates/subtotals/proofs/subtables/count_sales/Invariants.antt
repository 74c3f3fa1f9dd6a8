-- The loop of `subtables::count_sales`: the rows that it has come to are counted. Assumes nothing.
use Rattle.subtotals.proofs.subtables.SheetLaws.{Walked}
use Rattle.subtotals.proofs.subtables.count_sales.Given as goal

abbrev pub invariant-loop-i : goal.invariant-loop-i
invariant-loop-i l = Walked l.by l.w l.values l.n l.sum l.i l.s
