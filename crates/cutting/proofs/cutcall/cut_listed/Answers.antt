-- `cutcall::cut_listed` meets its contract. Assumes nothing.
use Rattle.std.specs.Prelude.{Ok}
use mathlib.Core.Path.{◌≡◌, sym, ◌∙◌}
use mathlib.Core.Bool.{true}
use Prim.Native.Nat.{◌+◌, ◌*◌}
use native.Mathlib.Omega.{arith}
use lib.ListN.{length}
use Rattle.frames.specs.Frame.{row_count, frame_words, is_table}
use Rattle.frames.proofs.FrontLaws.{table_count, frame_table, values_part, marks_part}
use Rattle.order.proofs.options.OptionLaws.{allowed_few}
use Rattle.order.specs.options.Options.{with_list}
use Rattle.books.proofs.bookjudge.JudgeLaws.{table_exact}
use Rattle.cutting.specs.cutcall.Calls.{words_judged}
use Rattle.cutting.proofs.cutcall.CallLaws.{WordsFine, words_fine, cut_refused, cut_done, both_in}
use Rattle.std.proofs.lemmas.Result.{err_from_is_err_and}
use Rattle.cutting.proofs.cutcall.cut_listed.Goals.{After-row_count-k, After-side_columns-w, In_ok-judge_words}
use Rattle.cutting.proofs.cutcall.cut_listed.Goals as goal

pub returns-in_err-judge_words : goal.returns-in_err-judge_words
returns-in_err-judge_words c =
    let p = err_from_is_err_and c.from_residual.result c.from_residual.ensures.1 in
    rw (p.1, p.2) (cut_refused (with_list c.args.rules.terms c.args.rules.codes.now c.args.rules.rising.now) c.args.right c.args.table.now c.args.boundaries.now c.args.out.now _ (sym c.judge_words.ensures ∙ c.in_err-judge_words.was))

-- Table and boundaries were accepted.
accepted : (c : In_ok-judge_words) → let a = c.args in words_judged (with_list a.rules.terms a.rules.codes.now a.rules.rising.now) a.right a.table.now a.boundaries.now ≡ Ok tt
accepted c = sym c.judge_words.ensures ∙ c.in_ok-judge_words.was

fine : (c : In_ok-judge_words) → let a = c.args in WordsFine (with_list a.rules.terms a.rules.codes.now a.rules.rising.now) a.right a.table.now a.boundaries.now
fine c = words_fine _ _ _ _ (accepted c)

pub side_columns-w-requires : goal.side_columns-w-requires
side_columns-w-requires c =
    ((fine (goal.at.side_columns-w-requires c).In_ok-judge_words).allowed.by, (fine (goal.at.side_columns-w-requires c).In_ok-judge_words).allowed.carried)

-- Both are tables: of so many columns, and of as many as there are by-columns.
record Tables (c : After-side_columns-w) : Type 0 where
  table : is_table c.side_columns-w.result c.args.table.now ≡ true
  boundaries : is_table c.args.rules.terms.by c.args.boundaries.now ≡ true

tables : (c : After-side_columns-w) → Tables c
tables c = record { table = rw c.side_columns-w.ensures (fine (goal.at.After-side_columns-w c).In_ok-judge_words).table_is; boundaries = frame_table _ _ (fine (goal.at.After-side_columns-w c).In_ok-judge_words).frame_is }

pub row_count-n-requires : goal.row_count-n-requires
row_count-n-requires c =
    table_count _ _ (tables (goal.at.row_count-n-requires c).After-side_columns-w).table

pub row_count-k-requires : goal.row_count-k-requires
row_count-k-requires c =
    table_count _ _ (tables (goal.at.row_count-k-requires c).After-side_columns-w).boundaries

-- Their words, by their rows.
record Lengths (c : After-row_count-k) : Type 0 where
  table : length c.args.table.now ≡ frame_words c.row_count-n.result c.side_columns-w.result
  boundaries : length c.args.boundaries.now ≡ frame_words c.row_count-k.result c.args.rules.terms.by

lengths : (c : After-row_count-k) → Lengths c
lengths c = record {
  table = rw c.row_count-n.ensures (table_exact _ _ (tables (goal.at.After-row_count-k c).After-side_columns-w).table);
  boundaries = rw c.row_count-k.ensures (table_exact _ _ (tables (goal.at.After-row_count-k c).After-side_columns-w).boundaries);
}

pub overflow_mul-e : goal.overflow_mul-e
overflow_mul-e c =
    omega (arith, (lengths (goal.at.overflow_mul-e c).After-row_count-k).table)

pub overflow_add-e : goal.overflow_add-e
overflow_add-e c =
    omega (arith, (lengths (goal.at.overflow_add-e c).After-row_count-k).table)

pub overflow_mul-f : goal.overflow_mul-f
overflow_mul-f c =
    omega (arith, (lengths (goal.at.overflow_mul-f c).After-row_count-k).boundaries)

pub overflow_add-f : goal.overflow_add-f
overflow_add-f c =
    omega (arith, (lengths (goal.at.overflow_add-f c).After-row_count-k).boundaries)

pub slice_bounds-cut_rows-end : goal.slice_bounds-cut_rows-end
slice_bounds-cut_rows-end c =
    omega (arith, (lengths (goal.at.slice_bounds-cut_rows-end c).After-row_count-k).table)

pub offset_bounds-table-e : goal.offset_bounds-table-e
offset_bounds-table-e c =
    omega (arith, (lengths (goal.at.offset_bounds-table-e c).After-row_count-k).table)

pub slice_bounds-cut_rows-count-2 : goal.slice_bounds-cut_rows-count-2
slice_bounds-cut_rows-count-2 c =
    omega (arith, (lengths (goal.at.slice_bounds-cut_rows-count-2 c).After-row_count-k).table)

pub slice_bounds-cut_rows-start-2 : goal.slice_bounds-cut_rows-start-2
slice_bounds-cut_rows-start-2 c =
    omega (arith, (lengths (goal.at.slice_bounds-cut_rows-start-2 c).After-row_count-k).table)

pub slice_bounds-cut_rows-end-3 : goal.slice_bounds-cut_rows-end-3
slice_bounds-cut_rows-end-3 c =
    omega (arith, (lengths (goal.at.slice_bounds-cut_rows-end-3 c).After-row_count-k).boundaries)

pub offset_bounds-boundaries-f : goal.offset_bounds-boundaries-f
offset_bounds-boundaries-f c =
    omega (arith, (lengths (goal.at.offset_bounds-boundaries-f c).After-row_count-k).boundaries)

pub slice_bounds-cut_rows-count-4 : goal.slice_bounds-cut_rows-count-4
slice_bounds-cut_rows-count-4 c =
    omega (arith, (lengths (goal.at.slice_bounds-cut_rows-count-4 c).After-row_count-k).boundaries)

pub slice_bounds-cut_rows-start-4 : goal.slice_bounds-cut_rows-start-4
slice_bounds-cut_rows-start-4 c =
    omega (arith, (lengths (goal.at.slice_bounds-cut_rows-start-4 c).After-row_count-k).boundaries)

-- Where the values end, by the row counts.
ends : (c : After-row_count-k) → let a = c.args in let w = c.side_columns-w.result in
    (2 + c.row_count-n.result * w ≡ 2 + row_count a.table.now * w) × (2 + c.row_count-k.result * a.rules.terms.by ≡ 2 + row_count a.boundaries.now * a.rules.terms.by)
ends c = (rw c.row_count-n.ensures, rw c.row_count-k.ensures)

pub cut_rows-requires : goal.cut_rows-requires
cut_rows-requires c =
    let a = c.args in
    let w = c.side_columns-w.result in
    let b = a.rules.terms.by in
    let e = ends (goal.at.cut_rows-requires c).After-row_count-k in
    let g = fine (goal.at.cut_rows-requires c).In_ok-judge_words in
    rw (
      values_part w a.table.now (2 + c.row_count-n.result * w) e.0,
      marks_part w a.table.now (2 + c.row_count-n.result * w) e.0,
      values_part b a.boundaries.now (2 + c.row_count-k.result * b) e.1,
      marks_part b a.boundaries.now (2 + c.row_count-k.result * b) e.1,
      c.row_count-n.ensures,
      c.row_count-k.ensures,
    )
    (both_in (with_list a.rules.terms a.rules.codes.now a.rules.rising.now) a.right w a.table.now a.boundaries.now c.side_columns-w.ensures (tables (goal.at.cut_rows-requires c).After-side_columns-w).table g.frame_is (allowed_few _ g.allowed c.requires.0 c.requires.1))

pub returns : goal.returns
returns c =
    let a = c.args in
    let w = c.side_columns-w.result in
    let b = a.rules.terms.by in
    let e = ends (goal.at.returns c).After-row_count-k in
    cut_done (with_list a.rules.terms a.rules.codes.now a.rules.rising.now) a.right a.table.now a.boundaries.now a.out.now (accepted (goal.at.returns c).In_ok-judge_words) w c.side_columns-w.ensures _ _
    (rw (
      values_part w a.table.now (2 + c.row_count-n.result * w) e.0,
      marks_part w a.table.now (2 + c.row_count-n.result * w) e.0,
      values_part b a.boundaries.now (2 + c.row_count-k.result * b) e.1,
      marks_part b a.boundaries.now (2 + c.row_count-k.result * b) e.1,
      c.row_count-n.ensures,
      c.row_count-k.ensures,
    )
    at c.cut_rows.ensures)
