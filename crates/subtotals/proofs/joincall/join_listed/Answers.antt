-- `joincall::join_listed` meets its contract. Assumes nothing.
use Rattle.std.specs.Prelude.{Ok}
use mathlib.Core.Path.{◌≡◌, sym, ◌∙◌}
use mathlib.Core.Bool.{true}
use Prim.Native.Nat.{ℕ, suc, ◌+◌, ◌*◌}
use native.Mathlib.Omega.{arith}
use lib.ListN.{length}
use mir.Facts.{to_z-of_z}
use Rattle.frames.specs.Frame.{row_count, frame_words, is_table}
use Rattle.frames.proofs.FrontLaws.{table_count, values_part, marks_part}
use Rattle.order.proofs.options.OptionLaws.{allowed_few}
use Rattle.order.specs.options.Options.{with_list}
use Rattle.subtotals.specs.takewords.Judged.{tables_judged}
use Rattle.subtotals.proofs.takewords.JudgeLaws.{TablesFine, tables_fine}
use Rattle.subtotals.proofs.joincall.CallLaws.{join_refused, rows_joined, table_exact, sheet_in}
use Rattle.std.proofs.lemmas.Result.{err_from_is_err_and}
use Rattle.subtotals.proofs.joincall.join_listed.Goals.{After-row_count-nb, In_ok-judge_tables}
use Rattle.subtotals.proofs.joincall.join_listed.Goals as goal

pub returns-in_err-judge_tables : goal.returns-in_err-judge_tables
returns-in_err-judge_tables c =
    let a = c.args in
    let p = err_from_is_err_and c.from_residual.result c.from_residual.ensures.1 in
    rw (p.1, p.2) (join_refused (with_list a.rules.terms a.rules.codes.now a.rules.rising.now) a.table.now a.number a.other.now a.other_number a.out.now _ (sym c.judge_tables.ensures ∙ c.in_err-judge_tables.was))

-- Both tables were accepted.
accepted : (c : In_ok-judge_tables) → let a = c.args in tables_judged (with_list a.rules.terms a.rules.codes.now a.rules.rising.now) a.table.now a.other.now ≡ Ok tt
accepted c = sym c.judge_tables.ensures ∙ c.in_ok-judge_tables.was

fine : (c : In_ok-judge_tables) → let a = c.args in TablesFine (with_list a.rules.terms a.rules.codes.now a.rules.rising.now) a.table.now a.other.now
fine c = tables_fine _ _ _ (accepted c)

-- The width, as the definitions have it.
width : (b : ℕ) → b + 2 ≡ suc (suc b)
width b = omega arith

pub overflow_add-w : goal.overflow_add-w
overflow_add-w c =
    omega (arith, (fine (goal.at.overflow_add-w c).In_ok-judge_tables).allowed.by)

-- Both are tables of so many columns.
record Tables (c : In_ok-judge_tables) : Type 0 where
  table : let a = c.args in is_table (a.rules.terms.by + 2) a.table.now ≡ true
  other : let a = c.args in is_table (a.rules.terms.by + 2) a.other.now ≡ true

tables : (c : In_ok-judge_tables) → Tables c
tables c = let b = c.args.rules.terms.by in record { table = rw (width b) (fine c).table_is; other = rw (width b) (fine c).other_is }

pub row_count-na-requires : goal.row_count-na-requires
row_count-na-requires c =
    table_count _ _ (tables (goal.at.row_count-na-requires c).In_ok-judge_tables).table

pub row_count-nb-requires : goal.row_count-nb-requires
row_count-nb-requires c =
    table_count _ _ (tables (goal.at.row_count-nb-requires c).In_ok-judge_tables).other

-- Their words, by their rows.
record Lengths (c : After-row_count-nb) : Type 0 where
  table : let a = c.args in length a.table.now ≡ frame_words c.row_count-na.result (a.rules.terms.by + 2)
  other : let a = c.args in length a.other.now ≡ frame_words c.row_count-nb.result (a.rules.terms.by + 2)

lengths : (c : After-row_count-nb) → Lengths c
lengths c = record {
  table = rw c.row_count-na.ensures (table_exact _ _ (tables (goal.at.After-row_count-nb c).In_ok-judge_tables).table);
  other = rw c.row_count-nb.ensures (table_exact _ _ (tables (goal.at.After-row_count-nb c).In_ok-judge_tables).other);
}

pub overflow_mul-e : goal.overflow_mul-e
overflow_mul-e c =
    omega (arith, (lengths (goal.at.overflow_mul-e c).After-row_count-nb).table)

pub overflow_add-e : goal.overflow_add-e
overflow_add-e c =
    omega (arith, (lengths (goal.at.overflow_add-e c).After-row_count-nb).table)

pub overflow_mul-f : goal.overflow_mul-f
overflow_mul-f c =
    omega (arith, (lengths (goal.at.overflow_mul-f c).After-row_count-nb).other)

pub overflow_add-f : goal.overflow_add-f
overflow_add-f c =
    omega (arith, (lengths (goal.at.overflow_add-f c).After-row_count-nb).other)

pub slice_bounds-join_rows-end : goal.slice_bounds-join_rows-end
slice_bounds-join_rows-end c =
    omega (arith, (lengths (goal.at.slice_bounds-join_rows-end c).After-row_count-nb).table)

pub offset_bounds-table-e : goal.offset_bounds-table-e
offset_bounds-table-e c =
    omega (arith, (lengths (goal.at.offset_bounds-table-e c).After-row_count-nb).table)

pub slice_bounds-join_rows-count-2 : goal.slice_bounds-join_rows-count-2
slice_bounds-join_rows-count-2 c =
    omega (arith, (lengths (goal.at.slice_bounds-join_rows-count-2 c).After-row_count-nb).table)

pub slice_bounds-join_rows-start-2 : goal.slice_bounds-join_rows-start-2
slice_bounds-join_rows-start-2 c =
    omega (arith, (lengths (goal.at.slice_bounds-join_rows-start-2 c).After-row_count-nb).table)

pub slice_bounds-join_rows-end-3 : goal.slice_bounds-join_rows-end-3
slice_bounds-join_rows-end-3 c =
    omega (arith, (lengths (goal.at.slice_bounds-join_rows-end-3 c).After-row_count-nb).other)

pub offset_bounds-other-f : goal.offset_bounds-other-f
offset_bounds-other-f c =
    omega (arith, (lengths (goal.at.offset_bounds-other-f c).After-row_count-nb).other)

pub slice_bounds-join_rows-count-4 : goal.slice_bounds-join_rows-count-4
slice_bounds-join_rows-count-4 c =
    omega (arith, (lengths (goal.at.slice_bounds-join_rows-count-4 c).After-row_count-nb).other)

pub slice_bounds-join_rows-start-4 : goal.slice_bounds-join_rows-start-4
slice_bounds-join_rows-start-4 c =
    omega (arith, (lengths (goal.at.slice_bounds-join_rows-start-4 c).After-row_count-nb).other)

-- Where the values end, by the row counts.
ends : (c : After-row_count-nb) → let a = c.args in let w = a.rules.terms.by + 2 in
    (2 + c.row_count-na.result * w ≡ 2 + row_count a.table.now * w) × (2 + c.row_count-nb.result * w ≡ 2 + row_count a.other.now * w)
ends c = (rw c.row_count-na.ensures, rw c.row_count-nb.ensures)

pub join_rows-requires : goal.join_rows-requires
join_rows-requires c =
    let a = c.args in
    let w = a.rules.terms.by + 2 in
    let e = ends (goal.at.join_rows-requires c).After-row_count-nb in
    let g = (fine (goal.at.join_rows-requires c).In_ok-judge_tables).allowed in
    rw (
      values_part w a.table.now (2 + c.row_count-na.result * w) e.0,
      marks_part w a.table.now (2 + c.row_count-na.result * w) e.0,
      values_part w a.other.now (2 + c.row_count-nb.result * w) e.1,
      marks_part w a.other.now (2 + c.row_count-nb.result * w) e.1,
      c.row_count-na.ensures,
      c.row_count-nb.ensures,
    )
    (record {
      compare = allowed_few _ g c.requires.0 c.requires.1;
      first = sheet_in a.rules.terms.by w a.table.now (width a.rules.terms.by) (tables (goal.at.join_rows-requires c).In_ok-judge_tables).table;
      second = sheet_in a.rules.terms.by w a.other.now (width a.rules.terms.by) (tables (goal.at.join_rows-requires c).In_ok-judge_tables).other;
    })

pub returns : goal.returns
returns c =
    let a = c.args in
    let w = a.rules.terms.by + 2 in
    let e = ends (goal.at.returns c).After-row_count-nb in
    rows_joined (with_list a.rules.terms a.rules.codes.now a.rules.rising.now) a.table.now a.number a.other.now a.other_number a.out.now (accepted (goal.at.returns c).In_ok-judge_tables) w (width a.rules.terms.by) _ _
    (rw (
      to_z-of_z c.ranges.number,
      to_z-of_z c.ranges.other_number,
      values_part w a.table.now (2 + c.row_count-na.result * w) e.0,
      marks_part w a.table.now (2 + c.row_count-na.result * w) e.0,
      values_part w a.other.now (2 + c.row_count-nb.result * w) e.1,
      marks_part w a.other.now (2 + c.row_count-nb.result * w) e.1,
      c.row_count-na.ensures,
      c.row_count-nb.ensures,
    )
    at c.join_rows.ensures)
