-- The loop of `saleadd::add_frame`: the sales of the rows that it has come to are added. Assumes nothing.
use mathlib.Core.Path.{◌≡◌}
use mathlib.Core.List.{List}
use lib.ListN.{length}
use Rattle.order.specs.options.Options.{options_of}
use Rattle.takings.specs.Subtotals.{Subtotal}
use Rattle.sales.specs.saleadd.Adds.{Starts}
use Rattle.sales.proofs.saleadd.AddLaws.{Running}
use Rattle.sales.proofs.saleadd.add_frame.Given as goal

abbrev pub invariant-loop-i : goal.invariant-loop-i
invariant-loop-i l =
    let o = options_of l.rules in
    record {
      kept : length l.body ≡ length l.initial.body;
      runs : (ts : List Subtotal) → Starts o l.table.count l.left.count l.answers.width ts l.table.values.now l.left.values.now l.left.marks.now l.answers.values.now l.answers.marks.now l.initial.body
          → Running o l.table.count l.left.count l.answers.width l.table.values.now l.left.values.now l.left.marks.now l.answers.values.now l.answers.marks.now l.initial.body ts l.m l.taken l.i l.body;
    }
