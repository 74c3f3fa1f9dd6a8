-- `addrows::add_rows` meets its contract. Assumes nothing.
use mathlib.Core.Path.{◌≡◌, sym, ◌∙◌}
use mathlib.Core.Bool.{true, false}
use Prim.Native.Nat.{suc, ◌^◌, ◌<◌}
use native.Mathlib.Omega.{arith}
use lib.Dec.{leb}
use lib.IntN.{pos, ◌+ℤ◌}
use lib.Signed.{mag}
use lib.ListN.{length}
use mir.Facts.{to_z-of_z}
use mir.Syntax.{w64}
use mir.ValLaws.{to_z_pos}
use Rattle.frames.specs.Cells.{rows_of}
use Rattle.frames.specs.Frame.{frame_words}
use Rattle.frames.proofs.Signed.{back}
use Rattle.order.specs.options.Options.{with_list}
use Rattle.takings.specs.Subtotals.{add_all, subtotals_of}
use Rattle.takings.specs.Sales.{sales_of, amounts_of}
use Rattle.subtotals.specs.takejudge.Judge.{fine_rows}
use Rattle.sales.specs.saleweigh.Weighed.{Weighed, beyond_sales}
use Rattle.sales.proofs.addrows.RowsLaws.{unsorted, beyond, no_room_lem, wrote, numbers, table_is, grows, sum_number, number_fits}
use Rattle.sales.proofs.addrows.add_rows.Goals.{After-rows_fit, After-weigh-t, Else-not-is_fine, Else-not-rows_fit, Else-t}
use Rattle.sales.proofs.addrows.add_rows.Goals as goal

pub is_fine-requires : goal.is_fine-requires
is_fine-requires c =
    let p = c.requires in (p.compare, p.table)

pub returns-then-not-is_fine : goal.returns-then-not-is_fine
returns-then-not-is_fine c =
    let a = c.args in unsorted (with_list a.rules.terms a.rules.codes.now a.rules.rising.now) a.table.width (rows_of a.table.width a.table.count a.table.values.now a.table.marks.now) a.number (sales_of (with_list a.rules.terms a.rules.codes.now a.rules.rising.now) (rows_of (suc a.rules.terms.by) a.left.count a.left.values.now a.left.marks.now) (rows_of a.answers.width a.left.count a.answers.values.now a.answers.marks.now)) a.out.now (sym c.is_fine.ensures ∙ c.if-not-is_fine.true)

-- No null, and groups in order.
fine : (c : Else-not-is_fine) → let a = c.args in fine_rows (with_list a.rules.terms a.rules.codes.now a.rules.rising.now) a.table.width (rows_of a.table.width a.table.count a.table.values.now a.table.marks.now) ≡ true
fine c = sym c.is_fine.ensures ∙ c.if-not-is_fine.false

pub weigh-t-requires : goal.weigh-t-requires
weigh-t-requires c =
    let p = c.requires in (p.table, p.frames)

-- What the weighing said.
said : (c : After-weigh-t) → let a = c.args in Weighed (with_list a.rules.terms a.rules.codes.now a.rules.rising.now) (rows_of a.table.width a.table.count a.table.values.now a.table.marks.now) a.number (sales_of (with_list a.rules.terms a.rules.codes.now a.rules.rising.now) (rows_of (suc a.rules.terms.by) a.left.count a.left.values.now a.left.marks.now) (rows_of a.answers.width a.left.count a.answers.values.now a.answers.marks.now)) c.weigh-t.result.sales c.weigh-t.result.nulls c.weigh-t.result.beyond
said c =
    let a = c.args in
    rw (to_z-of_z c.ranges.number) at (c.weigh-t.ensures a.left.values.now a.rules.codes.now a.rules.rising.now (omega (arith, c.requires.left_values, c.requires.left_marks)))

pub returns-then-t : goal.returns-then-t
returns-then-t c =
    let a = c.args in beyond (with_list a.rules.terms a.rules.codes.now a.rules.rising.now) a.table.width (rows_of a.table.width a.table.count a.table.values.now a.table.marks.now) a.number (sales_of (with_list a.rules.terms a.rules.codes.now a.rules.rising.now) (rows_of (suc a.rules.terms.by) a.left.count a.left.values.now a.left.marks.now) (rows_of a.answers.width a.left.count a.answers.values.now a.answers.marks.now)) a.out.now (fine (goal.at.returns-then-t c).Else-not-is_fine) (sym (said (goal.at.returns-then-t c).After-weigh-t).beyond_is ∙ c.if-t.true)

within : (c : Else-t) → let a = c.args in beyond_sales (with_list a.rules.terms a.rules.codes.now a.rules.rising.now) (rows_of a.table.width a.table.count a.table.values.now a.table.marks.now) a.number (sales_of (with_list a.rules.terms a.rules.codes.now a.rules.rising.now) (rows_of (suc a.rules.terms.by) a.left.count a.left.values.now a.left.marks.now) (rows_of a.answers.width a.left.count a.answers.values.now a.answers.marks.now)) ≡ false
within c = sym (said (goal.at.Else-t c).After-weigh-t).beyond_is ∙ c.if-t.false

pub rows_fit-requires : goal.rows_fit-requires
rows_fit-requires c =
    let p = c.requires in (
      record {
        compare = p.compare;
        table_rows = rw (← p.table.width) (omega (arith, p.table.values));
        left_values = omega (arith, p.left_values);
        left_marks = omega (arith, p.left_marks);
        answers = p.frames.answer_in;
        wide = p.frames.wide;
        few = p.frames.few;
      },
      (said (goal.at.rows_fit-requires c).After-weigh-t).few_sales,
    )

-- What was said of the room.
roomy : (c : After-rows_fit) → let a = c.args in c.rows_fit.result ≡ leb (frame_words (length (add_all (with_list a.rules.terms a.rules.codes.now a.rules.rising.now) (subtotals_of (with_list a.rules.terms a.rules.codes.now a.rules.rising.now) (rows_of a.table.width a.table.count a.table.values.now a.table.marks.now)) (amounts_of (sales_of (with_list a.rules.terms a.rules.codes.now a.rules.rising.now) (rows_of (suc a.rules.terms.by) a.left.count a.left.values.now a.left.marks.now) (rows_of a.answers.width a.left.count a.answers.values.now a.answers.marks.now))))) (suc (suc a.rules.terms.by))) (length a.out.now)
roomy c =
    let a = c.args in
    c.rows_fit.ensures (subtotals_of (with_list a.rules.terms a.rules.codes.now a.rules.rising.now) (rows_of a.table.width a.table.count a.table.values.now a.table.marks.now)) a.answers.values.now c.requires.answer_marks (table_is (with_list a.rules.terms a.rules.codes.now a.rules.rising.now) a.table.width a.table.count a.table.values.now a.table.marks.now c.requires.table a.number (sales_of (with_list a.rules.terms a.rules.codes.now a.rules.rising.now) (rows_of (suc a.rules.terms.by) a.left.count a.left.values.now a.left.marks.now) (rows_of a.answers.width a.left.count a.answers.values.now a.answers.marks.now)) (fine (goal.at.After-rows_fit c).Else-not-is_fine) (within (goal.at.After-rows_fit c).Else-t)).0 ((said (goal.at.After-rows_fit c).After-weigh-t).sales_is c.if-t.false)

pub returns-then-not-rows_fit : goal.returns-then-not-rows_fit
returns-then-not-rows_fit c =
    let a = c.args in no_room_lem (with_list a.rules.terms a.rules.codes.now a.rules.rising.now) a.table.width (rows_of a.table.width a.table.count a.table.values.now a.table.marks.now) a.number (sales_of (with_list a.rules.terms a.rules.codes.now a.rules.rising.now) (rows_of (suc a.rules.terms.by) a.left.count a.left.values.now a.left.marks.now) (rows_of a.answers.width a.left.count a.answers.values.now a.answers.marks.now)) a.out.now (fine (goal.at.returns-then-not-rows_fit c).Else-not-is_fine) (within (goal.at.returns-then-not-rows_fit c).Else-t) (sym (roomy (goal.at.returns-then-not-rows_fit c).After-rows_fit) ∙ c.if-not-rows_fit.true)

room : (c : Else-not-rows_fit) → let a = c.args in leb (frame_words (length (add_all (with_list a.rules.terms a.rules.codes.now a.rules.rising.now) (subtotals_of (with_list a.rules.terms a.rules.codes.now a.rules.rising.now) (rows_of a.table.width a.table.count a.table.values.now a.table.marks.now)) (amounts_of (sales_of (with_list a.rules.terms a.rules.codes.now a.rules.rising.now) (rows_of (suc a.rules.terms.by) a.left.count a.left.values.now a.left.marks.now) (rows_of a.answers.width a.left.count a.answers.values.now a.answers.marks.now))))) (suc (suc a.rules.terms.by))) (length a.out.now) ≡ true
room c = sym (roomy (goal.at.Else-not-rows_fit c).After-rows_fit) ∙ c.if-not-rows_fit.false

pub write_sales-m-requires : goal.write_sales-m-requires
write_sales-m-requires c =
    let a = c.args in let p = c.requires in
    let g = grows (with_list a.rules.terms a.rules.codes.now a.rules.rising.now) a.table.width a.table.count a.table.values.now a.table.marks.now p.table a.number a.left.count a.answers.width a.left.values.now a.left.marks.now a.answers.values.now a.answers.marks.now (fine (goal.at.write_sales-m-requires c).Else-not-is_fine) (within (goal.at.write_sales-m-requires c).Else-t) a.out.now (room (goal.at.write_sales-m-requires c).Else-not-rows_fit) in
    record {
      two = g.0;
      grow = record { ts = subtotals_of (with_list a.rules.terms a.rules.codes.now a.rules.rising.now) (rows_of a.table.width a.table.count a.table.values.now a.table.marks.now); grows = g.1; compare = p.compare; frames = p.frames; left_values = omega (arith, p.left_values); left_paired = omega (arith, p.left_values, p.left_marks); left_fine = p.left_fine };
    }

sum_fits : (c : Else-not-rows_fit) → let a = c.args in mag (a.number +ℤ pos c.weigh-t.result.nulls) < 2 ^ 63
sum_fits c =
    let a = c.args in
    let m = numbers (with_list a.rules.terms a.rules.codes.now a.rules.rising.now) a.table.width (rows_of a.table.width a.table.count a.table.values.now a.table.marks.now) a.number (sales_of (with_list a.rules.terms a.rules.codes.now a.rules.rising.now) (rows_of (suc a.rules.terms.by) a.left.count a.left.values.now a.left.marks.now) (rows_of a.answers.width a.left.count a.answers.values.now a.answers.marks.now)) a.out.now (fine (goal.at.Else-not-rows_fit c).Else-not-is_fine) (within (goal.at.Else-not-rows_fit c).Else-t) in
    number_fits a.number c.weigh-t.result.nulls m.0 (omega (arith, m.1, (said (goal.at.Else-not-rows_fit c).After-weigh-t).nulls_is c.if-t.false))

pub overflow_cast-result : goal.overflow_cast-result
overflow_cast-result c =
    omega (arith, (said (goal.at.overflow_cast-result c).After-weigh-t).few_nulls)

pub overflow_add-result : goal.overflow_add-result
overflow_add-result c =
    rw (to_z-of_z c.ranges.number, to_z_pos w64 c.weigh-t.result.nulls (omega (arith, (said (goal.at.overflow_add-result c).After-weigh-t).few_nulls))) (record { sfits = sum_fits (goal.at.overflow_add-result c).Else-not-rows_fit })

pub returns : goal.returns
returns c =
    let a = c.args in let p = c.requires in
    let g = grows (with_list a.rules.terms a.rules.codes.now a.rules.rising.now) a.table.width a.table.count a.table.values.now a.table.marks.now p.table a.number a.left.count a.answers.width a.left.values.now a.left.marks.now a.answers.values.now a.answers.marks.now (fine (goal.at.returns c).Else-not-is_fine) (within (goal.at.returns c).Else-t) a.out.now (room (goal.at.returns c).Else-not-rows_fit) in
    let y = c.write_sales-m.ensures (subtotals_of (with_list a.rules.terms a.rules.codes.now a.rules.rising.now) (rows_of a.table.width a.table.count a.table.values.now a.table.marks.now)) g.1 in
    let m = numbers (with_list a.rules.terms a.rules.codes.now a.rules.rising.now) a.table.width (rows_of a.table.width a.table.count a.table.values.now a.table.marks.now) a.number (sales_of (with_list a.rules.terms a.rules.codes.now a.rules.rising.now) (rows_of (suc a.rules.terms.by) a.left.count a.left.values.now a.left.marks.now) (rows_of a.answers.width a.left.count a.answers.values.now a.answers.marks.now)) a.out.now (fine (goal.at.returns c).Else-not-is_fine) (within (goal.at.returns c).Else-t) in
    let n = (said (goal.at.returns c).After-weigh-t).nulls_is c.if-t.false in
    rw (to_z-of_z c.ranges.number, to_z_pos w64 c.weigh-t.result.nulls (omega (arith, (said (goal.at.returns c).After-weigh-t).few_nulls)), back (a.number +ℤ pos c.weigh-t.result.nulls) (sum_fits (goal.at.returns c).Else-not-rows_fit), sum_number a.number c.weigh-t.result.nulls m.0, n)
    (wrote (with_list a.rules.terms a.rules.codes.now a.rules.rising.now) a.table.width (rows_of a.table.width a.table.count a.table.values.now a.table.marks.now) a.number (sales_of (with_list a.rules.terms a.rules.codes.now a.rules.rising.now) (rows_of (suc a.rules.terms.by) a.left.count a.left.values.now a.left.marks.now) (rows_of a.answers.width a.left.count a.answers.values.now a.answers.marks.now)) a.out.now (fine (goal.at.returns c).Else-not-is_fine) (within (goal.at.returns c).Else-t) (room (goal.at.returns c).Else-not-rows_fit) _ _ y.0 y.1)
