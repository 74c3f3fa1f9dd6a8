-- The loop of `rising::keys_sorted`: the rows are sorted if those from the last one that was passed on are. Assumes nothing.
use Rattle.std.proofs.Common.{◌≡◌, ◌+◌, ◌-◌, ◌*◌}
use Rattle.frames.specs.Cells.{rows_in}
use Rattle.order.specs.declared.options.Options.{Options}
use Rattle.order.specs.Order.{sorted}
use Rattle.order.proofs.RowLaws.{rest}
use Rattle.groups.proofs.rising.keys_sorted.Given as goal

abbrev pub invariant-loop-i : goal.invariant-loop-i
invariant-loop-i l =
    let r = l.rows in
    (o : Options) → o.by ≡ 0 → sorted o (rows_in r) ≡ sorted o (rest r.width ((l.i - 1) * r.width) (r.count - l.i + 1) r.values.now r.marks.now)
