-- `addcall::add_listed` meets its contract. Assumes nothing.
use Rattle.std.specs.Prelude.{Ok}
use mathlib.Core.Path.{◌≡◌, sym, ◌∙◌}
use mathlib.Core.Bool.{true}
use Prim.Native.Nat.{ℕ, suc, ◌+◌, ◌*◌, ◌≤◌}
use native.Mathlib.Omega.{arith}
use borrow.Author.Tests.{eqb-true}
use lib.ListN.{length}
use mir.Facts.{to_z-of_z}
use Rattle.frames.specs.Frame.{row_count, frame_words, is_table, pairs_fine, values_in, marks_in}
use Rattle.frames.proofs.FrameLaws.{table_parts}
use Rattle.frames.proofs.FrontLaws.{table_count, frame_count, frame_table, frame_few, values_part, marks_part}
use Rattle.order.proofs.options.OptionLaws.{allowed_few}
use Rattle.order.specs.options.Options.{with_list}
use Rattle.subtotals.specs.takewords.Judged.{sales_judged}
use Rattle.subtotals.proofs.takewords.JudgeLaws.{SalesFine, sales_fine}
use Rattle.sales.proofs.addcall.CallLaws.{add_refused, rows_added, table_exact, table_values_lem, table_marks, sheet_in, known_wide}
use Rattle.std.proofs.lemmas.Result.{err_from_is_err_and}
use Rattle.sales.proofs.addcall.add_listed.Goals.{After-row_count-rows, In_ok-judge_sales}
use Rattle.sales.proofs.addcall.add_listed.Goals as goal

pub returns-in_err-judge_sales : goal.returns-in_err-judge_sales
returns-in_err-judge_sales c =
    let a = c.args in
    let p = err_from_is_err_and c.from_residual.result c.from_residual.ensures.1 in
    rw (p.1, p.2) (add_refused (with_list a.rules.terms a.rules.codes.now a.rules.rising.now) a.table.now a.number a.left.now a.answers.now a.out.now _ (sym c.judge_sales.ensures ∙ c.in_err-judge_sales.was))

-- All three were accepted.
accepted : (c : In_ok-judge_sales) → let a = c.args in sales_judged (with_list a.rules.terms a.rules.codes.now a.rules.rising.now) a.table.now a.left.now a.answers.now ≡ Ok tt
accepted c = sym c.judge_sales.ensures ∙ c.in_ok-judge_sales.was

fine : (c : In_ok-judge_sales) → let a = c.args in SalesFine (with_list a.rules.terms a.rules.codes.now a.rules.rising.now) a.table.now a.left.now a.answers.now
fine c = sales_fine _ _ _ _ (accepted c)

-- The widths, as the definitions have them.
width : (b : ℕ) → b + 2 ≡ suc (suc b)
width b = omega arith

left-width : (b : ℕ) → b + 1 ≡ suc b
left-width b = omega arith

pub overflow_add-w : goal.overflow_add-w
overflow_add-w c =
    omega (arith, (fine (goal.at.overflow_add-w c).In_ok-judge_sales).allowed.by)

pub overflow_add-c : goal.overflow_add-c
overflow_add-c c =
    omega (arith, (fine (goal.at.overflow_add-c c).In_ok-judge_sales).allowed.by)

pub column_count-d-requires : goal.column_count-d-requires
column_count-d-requires c =
    (fine (goal.at.column_count-d-requires c).In_ok-judge_sales).answer_is

pub row_count-n-requires : goal.row_count-n-requires
row_count-n-requires c =
    table_count _ _ (fine (goal.at.row_count-n-requires c).In_ok-judge_sales).table_is

pub row_count-rows-requires : goal.row_count-rows-requires
row_count-rows-requires c =
    frame_count _ _ (fine (goal.at.row_count-rows-requires c).In_ok-judge_sales).left_is

-- What the words are, by the rows and columns that were read.
record Lengths (c : After-row_count-rows) : Type 0 where
  table : let a = c.args in is_table (a.rules.terms.by + 2) a.table.now ≡ true
  left : let a = c.args in is_table (a.rules.terms.by + 1) a.left.now ≡ true
  answer : let a = c.args in is_table c.column_count-d.result a.answers.now ≡ true
  height : let a = c.args in row_count a.left.now ≡ row_count a.answers.now
  left_values : let a = c.args in length (values_in (a.rules.terms.by + 1) a.left.now) ≡ c.row_count-rows.result * suc a.rules.terms.by
  left_marks : let a = c.args in length (marks_in (a.rules.terms.by + 1) a.left.now) ≡ c.row_count-rows.result * suc a.rules.terms.by
  left_fine : let a = c.args in pairs_fine (values_in (a.rules.terms.by + 1) a.left.now) (marks_in (a.rules.terms.by + 1) a.left.now) ≡ true
  answer-values : let a = c.args in length (values_in c.column_count-d.result a.answers.now) ≡ c.row_count-rows.result * c.column_count-d.result
  answer_marks : let a = c.args in length (marks_in c.column_count-d.result a.answers.now) ≡ c.row_count-rows.result * c.column_count-d.result
  answer-fine : let a = c.args in pairs_fine (values_in c.column_count-d.result a.answers.now) (marks_in c.column_count-d.result a.answers.now) ≡ true
  wide : 2 ≤ c.column_count-d.result
  few : c.row_count-rows.result ≤ 4096

lengths : (c : After-row_count-rows) → Lengths c
lengths c =
    let a = c.args in
    let g = fine (goal.at.After-row_count-rows c).In_ok-judge_sales in
    let h = eqb-true (row_count a.left.now) (row_count a.answers.now) g.height in
    let n = c.row_count-rows.ensures ∙ h in
    let dd = c.column_count-d.ensures in
    let t = frame_table _ _ g.answer_is in
    let l = frame_table _ _ g.left_is in
    record {
      table = rw (width a.rules.terms.by) g.table_is;
      left = rw (left-width a.rules.terms.by) l;
      answer = rw dd t;
      height = h;
      left_values = rw (left-width a.rules.terms.by, c.row_count-rows.ensures) (table_values_lem _ _ l);
      left_marks = rw (left-width a.rules.terms.by, c.row_count-rows.ensures) (table_marks _ _ l);
      left_fine = rw (left-width a.rules.terms.by) (table_parts _ _ l).fine;
      answer-values = rw (dd, n) (table_values_lem _ _ t);
      answer_marks = rw (dd, n) (table_marks _ _ t);
      answer-fine = rw dd (table_parts _ _ t).fine;
      wide = rw dd (known_wide (with_list a.rules.terms a.rules.codes.now a.rules.rising.now) _ g.known);
      few = rw c.row_count-rows.ensures (frame_few _ _ g.left_is);
    }

exact : (c : After-row_count-rows) → let a = c.args in
    (length a.table.now ≡ frame_words c.row_count-n.result (a.rules.terms.by + 2)) × (length a.left.now ≡ frame_words c.row_count-rows.result (a.rules.terms.by + 1)) × (length a.answers.now ≡ frame_words c.row_count-rows.result c.column_count-d.result)
exact c =
    let y = lengths c in
    (rw c.row_count-n.ensures (table_exact _ _ y.table), rw c.row_count-rows.ensures (table_exact _ _ y.left), rw (c.row_count-rows.ensures ∙ y.height) (table_exact _ _ y.answer))

pub overflow_mul-e : goal.overflow_mul-e
overflow_mul-e c =
    omega (arith, (exact (goal.at.overflow_mul-e c).After-row_count-rows).0)

pub overflow_add-e : goal.overflow_add-e
overflow_add-e c =
    omega (arith, (exact (goal.at.overflow_add-e c).After-row_count-rows).0)

pub overflow_mul-f : goal.overflow_mul-f
overflow_mul-f c =
    omega (arith, (exact (goal.at.overflow_mul-f c).After-row_count-rows).1)

pub overflow_add-f : goal.overflow_add-f
overflow_add-f c =
    omega (arith, (exact (goal.at.overflow_add-f c).After-row_count-rows).1)

pub overflow_mul-g : goal.overflow_mul-g
overflow_mul-g c =
    omega (arith, (exact (goal.at.overflow_mul-g c).After-row_count-rows).2)

pub overflow_add-g : goal.overflow_add-g
overflow_add-g c =
    omega (arith, (exact (goal.at.overflow_add-g c).After-row_count-rows).2)

pub slice_bounds-add_rows-end : goal.slice_bounds-add_rows-end
slice_bounds-add_rows-end c =
    omega (arith, (exact (goal.at.slice_bounds-add_rows-end c).After-row_count-rows).0)

pub offset_bounds-table-e : goal.offset_bounds-table-e
offset_bounds-table-e c =
    omega (arith, (exact (goal.at.offset_bounds-table-e c).After-row_count-rows).0)

pub slice_bounds-add_rows-count-2 : goal.slice_bounds-add_rows-count-2
slice_bounds-add_rows-count-2 c =
    omega (arith, (exact (goal.at.slice_bounds-add_rows-count-2 c).After-row_count-rows).0)

pub slice_bounds-add_rows-start-2 : goal.slice_bounds-add_rows-start-2
slice_bounds-add_rows-start-2 c =
    omega (arith, (exact (goal.at.slice_bounds-add_rows-start-2 c).After-row_count-rows).0)

pub slice_bounds-add_rows-end-3 : goal.slice_bounds-add_rows-end-3
slice_bounds-add_rows-end-3 c =
    omega (arith, (exact (goal.at.slice_bounds-add_rows-end-3 c).After-row_count-rows).1)

pub offset_bounds-left-f : goal.offset_bounds-left-f
offset_bounds-left-f c =
    omega (arith, (exact (goal.at.offset_bounds-left-f c).After-row_count-rows).1)

pub slice_bounds-add_rows-count-4 : goal.slice_bounds-add_rows-count-4
slice_bounds-add_rows-count-4 c =
    omega (arith, (exact (goal.at.slice_bounds-add_rows-count-4 c).After-row_count-rows).1)

pub slice_bounds-add_rows-start-4 : goal.slice_bounds-add_rows-start-4
slice_bounds-add_rows-start-4 c =
    omega (arith, (exact (goal.at.slice_bounds-add_rows-start-4 c).After-row_count-rows).1)

pub slice_bounds-add_rows-end-5 : goal.slice_bounds-add_rows-end-5
slice_bounds-add_rows-end-5 c =
    omega (arith, (exact (goal.at.slice_bounds-add_rows-end-5 c).After-row_count-rows).2)

pub offset_bounds-answers-g : goal.offset_bounds-answers-g
offset_bounds-answers-g c =
    omega (arith, (exact (goal.at.offset_bounds-answers-g c).After-row_count-rows).2)

pub slice_bounds-add_rows-count-6 : goal.slice_bounds-add_rows-count-6
slice_bounds-add_rows-count-6 c =
    omega (arith, (exact (goal.at.slice_bounds-add_rows-count-6 c).After-row_count-rows).2)

pub slice_bounds-add_rows-start-6 : goal.slice_bounds-add_rows-start-6
slice_bounds-add_rows-start-6 c =
    omega (arith, (exact (goal.at.slice_bounds-add_rows-start-6 c).After-row_count-rows).2)

-- Where the values end, by the row counts.
ends : (c : After-row_count-rows) → let a = c.args in
    (2 + c.row_count-n.result * (a.rules.terms.by + 2) ≡ 2 + row_count a.table.now * (a.rules.terms.by + 2)) × (2 + c.row_count-rows.result * (a.rules.terms.by + 1) ≡ 2 + row_count a.left.now * (a.rules.terms.by + 1))
    × (2 + c.row_count-rows.result * c.column_count-d.result ≡ 2 + row_count a.answers.now * c.column_count-d.result)
ends c = (rw c.row_count-n.ensures, rw c.row_count-rows.ensures, rw (c.row_count-rows.ensures ∙ (lengths c).height))

pub add_rows-requires : goal.add_rows-requires
add_rows-requires c =
    let a = c.args in
    let w = a.rules.terms.by + 2 in
    let k = a.rules.terms.by + 1 in
    let e = ends (goal.at.add_rows-requires c).After-row_count-rows in
    let g = fine (goal.at.add_rows-requires c).In_ok-judge_sales in
    let y = lengths (goal.at.add_rows-requires c).After-row_count-rows in
    rw (
      values_part w a.table.now (2 + c.row_count-n.result * w) e.0,
      marks_part w a.table.now (2 + c.row_count-n.result * w) e.0,
      values_part k a.left.now (2 + c.row_count-rows.result * k) e.1,
      marks_part k a.left.now (2 + c.row_count-rows.result * k) e.1,
      values_part c.column_count-d.result a.answers.now (2 + c.row_count-rows.result * c.column_count-d.result) e.2,
      marks_part c.column_count-d.result a.answers.now (2 + c.row_count-rows.result * c.column_count-d.result) e.2,
      c.row_count-n.ensures,
    )
    (record {
      compare = allowed_few _ g.allowed c.requires.0 c.requires.1;
      table = sheet_in a.rules.terms.by w a.table.now (width a.rules.terms.by) y.table;
      frames = record {
        left_in = omega (arith, y.left_marks);
        values_in = omega (arith, y.answer-values);
        answer_in = omega (arith, y.answer_marks);
        paired = omega (arith, y.answer-values, y.answer_marks);
        fine = y.answer-fine;
        wide = y.wide;
        few = y.few;
        by_few = g.allowed.by;
      };
      left_values = y.left_values;
      left_marks = y.left_marks;
      left_fine = y.left_fine;
      answer_marks = omega (arith, y.answer-values, y.answer_marks);
    })

pub returns : goal.returns
returns c =
    let a = c.args in
    let w = a.rules.terms.by + 2 in
    let k = a.rules.terms.by + 1 in
    let e = ends (goal.at.returns c).After-row_count-rows in
    rows_added (with_list a.rules.terms a.rules.codes.now a.rules.rising.now) a.table.now a.number a.left.now a.answers.now a.out.now (accepted (goal.at.returns c).In_ok-judge_sales) w k c.column_count-d.result (width a.rules.terms.by) (left-width a.rules.terms.by) c.column_count-d.ensures c.row_count-rows.result c.row_count-rows.ensures _ _
    (rw (
      to_z-of_z c.ranges.number,
      values_part w a.table.now (2 + c.row_count-n.result * w) e.0,
      marks_part w a.table.now (2 + c.row_count-n.result * w) e.0,
      values_part k a.left.now (2 + c.row_count-rows.result * k) e.1,
      marks_part k a.left.now (2 + c.row_count-rows.result * k) e.1,
      values_part c.column_count-d.result a.answers.now (2 + c.row_count-rows.result * c.column_count-d.result) e.2,
      marks_part c.column_count-d.result a.answers.now (2 + c.row_count-rows.result * c.column_count-d.result) e.2,
      c.row_count-n.ensures,
    )
    at c.add_rows.ensures)
