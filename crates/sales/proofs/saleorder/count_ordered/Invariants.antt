-- The loop of `saleorder::count_ordered`: the rows of the table with the sales so far are counted, if they came in group order. Assumes nothing.
use mathlib.Core.Path.{◌≡◌}
use mathlib.Core.Bool.{true}
use mathlib.Core.List.{List}
use Prim.Native.Nat.{suc, ◌+◌, ◌*◌, ◌≤◌}
use lib.ListN.{length}
use Rattle.frames.specs.Cells.{Words, row_from}
use Rattle.order.specs.options.Options.{options_of}
use Rattle.takings.specs.Subtotals.{Subtotal}
use Rattle.sales.specs.salecount.Counts.{TableIs}
use Rattle.sales.proofs.saleorder.OrderedLaws.{CountedTo, Passed}
use Rattle.sales.proofs.saleorder.count_ordered.Given as goal

abbrev pub invariant-loop-i : goal.invariant-loop-i
invariant-loop-i l =
    let o = options_of l.rules in
    let c = suc l.rules.terms.by in
    let x = row_from c l.last l.left.values.now l.left.marks.now in
    record {
      few : l.m ≤ l.table.count + l.i;
      there : l.any ≡ true → l.last + c ≤ l.left.count * c;
      passed : Passed o l.near l.table.count l.table.values.now l.any x;
      counted : (ts : List Subtotal) (av : Words) → length l.answers.marks.now ≤ length av → (t : TableIs o l.table.count ts l.table.values.now) → CountedTo o l.table.count l.left.count l.answers.width l.table.values.now l.left.values.now l.left.marks.now av l.answers.marks.now ts t l.any x l.m l.i;
    }
