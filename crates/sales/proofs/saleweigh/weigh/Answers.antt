-- `saleweigh::weigh` meets its contract. Assumes nothing.
use mathlib.Core.Path.{◌≡◌, sym, ◌∙◌}
use mathlib.Core.List.{[]}
use Prim.Native.Nat.{suc, ◌≤◌}
use native.Mathlib.Omega.{arith}
use lib.Dec.{T}
use lib.IntN.{nat_abs}
use lib.Signed.{non_neg}
use mir.Facts.{to_z-of_z}
use Rattle.frames.specs.Cells.{rows_of}
use Rattle.order.specs.options.Options.{with_list}
use Rattle.takings.specs.Subtotals.{beyond_number, most_sales}
use Rattle.takings.specs.Sales.{sales_of}
use Rattle.subtotals.proofs.takejudge.JudgeLaws.{number_fine}
use Rattle.sales.proofs.saleweigh.WeighLaws.{over_number, over_rows_lem, over_amounts, over_sum, over_nulls, weighed}
use Rattle.sales.proofs.saleweigh.weigh.Goals.{After-bad_number, Else-bad_number, After-count_kinds-t}
use Rattle.sales.proofs.saleweigh.weigh.Goals as goal

-- What was said of the number.
said : (c : After-bad_number) → c.bad_number.result ≡ beyond_number c.args.number
said c = rw (to_z-of_z c.ranges.number) at c.bad_number.ensures

fine : (c : Else-bad_number) → T (non_neg c.args.number) × (nat_abs c.args.number ≤ most_sales)
fine c = number_fine c.args.number (sym (said (goal.at.Else-bad_number c).After-bad_number) ∙ c.if-bad_number.false)

-- A frame has few sales.
few : (c : After-count_kinds-t) → (c.count_kinds-t.result.sales ≤ 4096) × (c.count_kinds-t.result.nulls ≤ 4096)
few c = let t = c.count_kinds-t.ensures c.args.left.marks.now [] [] (omega arith) in (t.few_sales, t.few_nulls)

pub returns-then-bad_number : goal.returns-then-bad_number
returns-then-bad_number c =
    λ lv codes rising h. let a = c.args in
    over_number (with_list a.o codes rising) a.table.width a.table.count a.table.values.now a.table.marks.now c.requires.0 a.number
    (sales_of (with_list a.o codes rising) (rows_of (suc a.o.by) a.left.count lv a.left.marks.now) (rows_of a.answers.width a.left.count a.answers.values.now a.answers.marks.now))
    (sym (said (goal.at.returns-then-bad_number c).After-bad_number) ∙ c.if-bad_number.true)

pub returns-then-s-gt-MOST_SALES : goal.returns-then-s-gt-MOST_SALES
returns-then-s-gt-MOST_SALES c =
    λ lv codes rising h. let a = c.args in
    over_rows_lem (with_list a.o codes rising) a.table.width a.table.count a.table.values.now a.table.marks.now c.requires.0 a.number
    (sales_of (with_list a.o codes rising) (rows_of (suc a.o.by) a.left.count lv a.left.marks.now) (rows_of a.answers.width a.left.count a.answers.values.now a.answers.marks.now))
    _ c.count_sales-s.ensures c.if-s-gt-MOST_SALES.true

pub returns-then-t : goal.returns-then-t
returns-then-t c =
    λ lv codes rising h. let a = c.args in
    over_amounts (with_list a.o codes rising) a.table.width a.table.count a.table.values.now a.table.marks.now c.requires.0 a.number
    (sales_of (with_list a.o codes rising) (rows_of (suc a.o.by) a.left.count lv a.left.marks.now) (rows_of a.answers.width a.left.count a.answers.values.now a.answers.marks.now))
    _ _ _ (c.count_kinds-t.ensures lv codes rising h) c.if-t.true

pub overflow_add-s : goal.overflow_add-s
overflow_add-s c = omega (arith, c.if-s-gt-MOST_SALES.false, (few (goal.at.overflow_add-s c).After-count_kinds-t).0)

pub returns-then-s-t-gt-MOST_SALES : goal.returns-then-s-t-gt-MOST_SALES
returns-then-s-t-gt-MOST_SALES c =
    λ lv codes rising h. let a = c.args in
    over_sum (with_list a.o codes rising) a.table.width a.table.count a.table.values.now a.table.marks.now c.requires.0 a.number
    (sales_of (with_list a.o codes rising) (rows_of (suc a.o.by) a.left.count lv a.left.marks.now) (rows_of a.answers.width a.left.count a.answers.values.now a.answers.marks.now))
    _ _ _ (c.count_kinds-t.ensures lv codes rising h) c.if-t.false _ c.count_sales-s.ensures c.if-s-gt-MOST_SALES.false c.if-s-t-gt-MOST_SALES.true

pub overflow_add-number : goal.overflow_add-number
overflow_add-number c = rw (to_z-of_z c.ranges.number) (omega (arith, (fine (goal.at.overflow_add-number c).Else-bad_number).1, (few (goal.at.overflow_add-number c).After-count_kinds-t).1))

pub returns-then-number-t-gt-MOST_SALES : goal.returns-then-number-t-gt-MOST_SALES
returns-then-number-t-gt-MOST_SALES c =
    λ lv codes rising h. let a = c.args in
    over_nulls (with_list a.o codes rising) a.table.width a.table.count a.table.values.now a.table.marks.now c.requires.0 a.number
    (sales_of (with_list a.o codes rising) (rows_of (suc a.o.by) a.left.count lv a.left.marks.now) (rows_of a.answers.width a.left.count a.answers.values.now a.answers.marks.now))
    _ _ _ (c.count_kinds-t.ensures lv codes rising h) c.if-t.false _ c.count_sales-s.ensures c.if-s-gt-MOST_SALES.false (rw (to_z-of_z c.ranges.number) at c.if-number-t-gt-MOST_SALES.true)

pub returns : goal.returns
returns c =
    λ lv codes rising h. let a = c.args in
    weighed (with_list a.o codes rising) a.table.width a.table.count a.table.values.now a.table.marks.now c.requires.0 a.number
    (sales_of (with_list a.o codes rising) (rows_of (suc a.o.by) a.left.count lv a.left.marks.now) (rows_of a.answers.width a.left.count a.answers.values.now a.answers.marks.now))
    _ _ _ (c.count_kinds-t.ensures lv codes rising h) c.if-t.false _ c.count_sales-s.ensures c.if-s-gt-MOST_SALES.false (sym (said (goal.at.returns c).After-bad_number) ∙ c.if-bad_number.false) c.if-s-t-gt-MOST_SALES.false (rw (to_z-of_z c.ranges.number) at c.if-number-t-gt-MOST_SALES.false)
