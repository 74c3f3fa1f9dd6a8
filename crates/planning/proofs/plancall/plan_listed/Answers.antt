-- `plancall::plan_listed` meets its contract. Assumes nothing.
use Rattle.std.specs.Prelude.{Ok}
use mathlib.Core.Path.{◌≡◌, sym, ◌∙◌}
use mathlib.Core.Bool.{true}
use Prim.Native.Nat.{◌+◌, ◌*◌, ◌<◌}
use native.Mathlib.Omega.{arith}
use lib.ListN.{length}
use Rattle.frames.specs.Frame.{row_count, frame_words, is_table}
use Rattle.frames.proofs.FrontLaws.{table_count, values_part, marks_part}
use Rattle.order.proofs.options.OptionLaws.{allowed_few}
use Rattle.order.specs.options.Options.{with_list}
use Rattle.books.proofs.bookjudge.JudgeLaws.{table_exact}
use Rattle.planning.specs.planjudge.Judged.{tables_judged}
use Rattle.planning.proofs.planjudge.JudgeLaws.{TablesFine, tables_fine, tables_refused}
use Rattle.planning.proofs.plancall.CallLaws.{rows_in_lem, tables_planned}
use Rattle.std.proofs.lemmas.Result.{err_from_is_err_and}
use Rattle.planning.proofs.plancall.plan_listed.Goals.{After-right_columns-w, After-row_count-nr, In_ok-judge_tables}
use Rattle.planning.proofs.plancall.plan_listed.Goals as goal

pub returns-in_err-judge_tables : goal.returns-in_err-judge_tables
returns-in_err-judge_tables c =
    let p = err_from_is_err_and c.from_residual.result c.from_residual.ensures.1 in
    rw (p.1, p.2) (sym (tables_refused (with_list c.args.rules.terms c.args.rules.codes.now c.args.rules.rising.now) c.args.left.now c.args.right.now c.args.hl.now c.args.hr.now _ (sym c.judge_tables.ensures ∙ c.in_err-judge_tables.was)))

-- Both tables were accepted.
accepted : (c : In_ok-judge_tables) → let a = c.args in tables_judged (with_list a.rules.terms a.rules.codes.now a.rules.rising.now) a.left.now a.right.now ≡ Ok tt
accepted c = sym c.judge_tables.ensures ∙ c.in_ok-judge_tables.was

fine : (c : In_ok-judge_tables) → let a = c.args in TablesFine (with_list a.rules.terms a.rules.codes.now a.rules.rising.now) a.left.now a.right.now
fine c = tables_fine _ _ _ (accepted c)

pub left_columns-c-requires : goal.left_columns-c-requires
left_columns-c-requires c =
    (fine (goal.at.left_columns-c-requires c).In_ok-judge_tables).allowed.by

pub right_columns-w-requires : goal.right_columns-w-requires
right_columns-w-requires c =
    let g = (fine (goal.at.right_columns-w-requires c).In_ok-judge_tables).allowed in (g.by, g.carried)

-- Both are tables of so many columns.
record Tables (c : After-right_columns-w) : Type 0 where
  left : is_table c.left_columns-c.result c.args.left.now ≡ true
  right : is_table c.right_columns-w.result c.args.right.now ≡ true

tables : (c : After-right_columns-w) → Tables c
tables c = record { left = rw c.left_columns-c.ensures (fine (goal.at.After-right_columns-w c).In_ok-judge_tables).left_is; right = rw c.right_columns-w.ensures (fine (goal.at.After-right_columns-w c).In_ok-judge_tables).right_is }

pub row_count-nl-requires : goal.row_count-nl-requires
row_count-nl-requires c =
    table_count _ _ (tables (goal.at.row_count-nl-requires c).After-right_columns-w).left

pub row_count-nr-requires : goal.row_count-nr-requires
row_count-nr-requires c =
    table_count _ _ (tables (goal.at.row_count-nr-requires c).After-right_columns-w).right

-- Their words, by their rows.
record Lengths (c : After-row_count-nr) : Type 0 where
  left : length c.args.left.now ≡ frame_words c.row_count-nl.result c.left_columns-c.result
  right : length c.args.right.now ≡ frame_words c.row_count-nr.result c.right_columns-w.result

lengths : (c : After-row_count-nr) → Lengths c
lengths c = record {
  left = rw c.row_count-nl.ensures (table_exact _ _ (tables (goal.at.After-row_count-nr c).After-right_columns-w).left);
  right = rw c.row_count-nr.ensures (table_exact _ _ (tables (goal.at.After-row_count-nr c).After-right_columns-w).right);
}

pub overflow_mul-e : goal.overflow_mul-e
overflow_mul-e c =
    omega (arith, (lengths (goal.at.overflow_mul-e c).After-row_count-nr).left)

pub overflow_add-e : goal.overflow_add-e
overflow_add-e c =
    omega (arith, (lengths (goal.at.overflow_add-e c).After-row_count-nr).left)

pub overflow_mul-f : goal.overflow_mul-f
overflow_mul-f c =
    omega (arith, (lengths (goal.at.overflow_mul-f c).After-row_count-nr).right)

pub overflow_add-f : goal.overflow_add-f
overflow_add-f c =
    omega (arith, (lengths (goal.at.overflow_add-f c).After-row_count-nr).right)

pub slice_bounds-plan_rows-end : goal.slice_bounds-plan_rows-end
slice_bounds-plan_rows-end c =
    omega (arith, (lengths (goal.at.slice_bounds-plan_rows-end c).After-row_count-nr).left)

pub offset_bounds-left-e : goal.offset_bounds-left-e
offset_bounds-left-e c =
    omega (arith, (lengths (goal.at.offset_bounds-left-e c).After-row_count-nr).left)

pub slice_bounds-plan_rows-count-2 : goal.slice_bounds-plan_rows-count-2
slice_bounds-plan_rows-count-2 c =
    omega (arith, (lengths (goal.at.slice_bounds-plan_rows-count-2 c).After-row_count-nr).left)

pub slice_bounds-plan_rows-start-2 : goal.slice_bounds-plan_rows-start-2
slice_bounds-plan_rows-start-2 c =
    omega (arith, (lengths (goal.at.slice_bounds-plan_rows-start-2 c).After-row_count-nr).left)

pub slice_bounds-plan_rows-end-3 : goal.slice_bounds-plan_rows-end-3
slice_bounds-plan_rows-end-3 c =
    omega (arith, (lengths (goal.at.slice_bounds-plan_rows-end-3 c).After-row_count-nr).right)

pub offset_bounds-right-f : goal.offset_bounds-right-f
offset_bounds-right-f c =
    omega (arith, (lengths (goal.at.offset_bounds-right-f c).After-row_count-nr).right)

pub slice_bounds-plan_rows-count-4 : goal.slice_bounds-plan_rows-count-4
slice_bounds-plan_rows-count-4 c =
    omega (arith, (lengths (goal.at.slice_bounds-plan_rows-count-4 c).After-row_count-nr).right)

pub slice_bounds-plan_rows-start-4 : goal.slice_bounds-plan_rows-start-4
slice_bounds-plan_rows-start-4 c =
    omega (arith, (lengths (goal.at.slice_bounds-plan_rows-start-4 c).After-row_count-nr).right)

-- Where the values end, by the row counts.
ends : (c : After-row_count-nr) → let a = c.args in let k = c.left_columns-c.result in let w = c.right_columns-w.result in
    (2 + c.row_count-nl.result * k ≡ 2 + row_count a.left.now * k) × (2 + c.row_count-nr.result * w ≡ 2 + row_count a.right.now * w)
ends c = (rw c.row_count-nl.ensures, rw c.row_count-nr.ensures)

pub plan_rows-requires : goal.plan_rows-requires
plan_rows-requires c =
    let a = c.args in
    let k = c.left_columns-c.result in
    let w = c.right_columns-w.result in
    let e = ends (goal.at.plan_rows-requires c).After-row_count-nr in
    let g = (fine (goal.at.plan_rows-requires c).In_ok-judge_tables).allowed in
    let f = allowed_few _ g c.requires.0 c.requires.1 in
    let i : a.rules.terms.by < k = omega (arith, c.left_columns-c.ensures) in
    let l : a.rules.terms.by < w = omega (arith, c.right_columns-w.ensures) in
    rw (
      values_part k a.left.now (2 + c.row_count-nl.result * k) e.0,
      marks_part k a.left.now (2 + c.row_count-nl.result * k) e.0,
      values_part w a.right.now (2 + c.row_count-nr.result * w) e.1,
      marks_part w a.right.now (2 + c.row_count-nr.result * w) e.1,
      c.row_count-nl.ensures,
      c.row_count-nr.ensures,
    )
    (rows_in_lem (with_list a.rules.terms a.rules.codes.now a.rules.rising.now) k a.left.now (tables (goal.at.plan_rows-requires c).After-right_columns-w).left f i, rows_in_lem (with_list a.rules.terms a.rules.codes.now a.rules.rising.now) w a.right.now (tables (goal.at.plan_rows-requires c).After-right_columns-w).right f l)

pub returns : goal.returns
returns c =
    let a = c.args in
    let k = c.left_columns-c.result in
    let w = c.right_columns-w.result in
    let e = ends (goal.at.returns c).After-row_count-nr in
    tables_planned (with_list a.rules.terms a.rules.codes.now a.rules.rising.now) a.left.now a.right.now a.hl.now a.hr.now (accepted (goal.at.returns c).In_ok-judge_tables) k w c.left_columns-c.ensures c.right_columns-w.ensures _
    (rw (
      values_part k a.left.now (2 + c.row_count-nl.result * k) e.0,
      marks_part k a.left.now (2 + c.row_count-nl.result * k) e.0,
      values_part w a.right.now (2 + c.row_count-nr.result * w) e.1,
      marks_part w a.right.now (2 + c.row_count-nr.result * w) e.1,
      c.row_count-nl.ensures,
      c.row_count-nr.ensures,
    )
    at c.plan_rows.ensures)
