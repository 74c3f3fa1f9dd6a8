-- `saleweigh::rows_fit` meets its contract. Assumes nothing.
use mathlib.Core.Path.{◌≡◌, sym, ◌∙◌}
use Prim.Native.Nat.{suc, ◌+◌}
use native.Mathlib.Omega.{arith}
use Rattle.frames.specs.Cells.{rows_of}
use Rattle.order.specs.options.Options.{options_of}
use Rattle.takings.specs.Sales.{sales_of, amounts_of}
use Rattle.sales.proofs.saleweigh.WeighLaws.{room_all}
use Rattle.sales.proofs.saleweigh.rows_fit.Goals as goal

pub returns-then-has_room : goal.returns-then-has_room
returns-then-has_room c =
    λ ts av h t e. let a = c.args in
    let o = options_of a.rules in
    let b = a.rules.terms.by in
    let w : b + 2 ≡ suc (suc b) = omega arith in
    room_all o ts (amounts_of (sales_of o (rows_of (suc b) a.left.count a.left.values.now a.left.marks.now) (rows_of a.answers.width a.left.count av a.answers.marks.now))) a.table.count a.sales (suc (suc b)) a.room t.held.rows e (rw w at (sym c.has_room.ensures ∙ c.if-has_room.true))
