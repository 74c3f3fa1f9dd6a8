-- `cutjoin::join_listed` meets its contract. Assumes nothing.
use Rattle.std.specs.Prelude.{Ok}
use mathlib.Core.Path.{◌≡◌, sym, ◌∙◌}
use mathlib.Core.Bool.{true}
use Prim.Native.Nat.{◌+◌, ◌*◌}
use native.Mathlib.Omega.{arith}
use lib.ListN.{length}
use Rattle.frames.specs.Frame.{row_count, frame_words, is_table}
use Rattle.frames.proofs.FrontLaws.{table_count, frame_table, values_part, marks_part}
use Rattle.order.proofs.options.OptionLaws.{allowed_few}
use Rattle.order.specs.options.Options.{with_list}
use Rattle.books.proofs.bookjudge.JudgeLaws.{table_exact}
use Rattle.cutting.specs.cutpairs.Driver.{input_judged}
use Rattle.cutting.proofs.cutjudge.JudgeLaws.{InputFine, input_fine}
use Rattle.cutting.proofs.cutjoin.CallLaws.{join_refused, join_done, all_in}
use Rattle.std.proofs.lemmas.Result.{err_from_is_err_and}
use Rattle.cutting.proofs.cutjoin.join_listed.Goals.{After-right_columns-w, After-row_count-k, In_ok-judge_input}
use Rattle.cutting.proofs.cutjoin.join_listed.Goals as goal

pub returns-in_err-judge_input : goal.returns-in_err-judge_input
returns-in_err-judge_input c =
    let p = err_from_is_err_and c.from_residual.result c.from_residual.ensures.1 in
    rw (p.1, p.2) (join_refused (with_list c.args.rules.terms c.args.rules.codes.now c.args.rules.rising.now) c.args.left.now c.args.right.now c.args.boundaries.now _ _ c.args.out.now _ (sym c.judge_input.ensures ∙ c.in_err-judge_input.was))

-- All three were accepted.
accepted : (c : In_ok-judge_input) → let a = c.args in input_judged (with_list a.rules.terms a.rules.codes.now a.rules.rising.now) a.left.now a.right.now a.boundaries.now ≡ Ok tt
accepted c = sym c.judge_input.ensures ∙ c.in_ok-judge_input.was

fine : (c : In_ok-judge_input) → let a = c.args in InputFine (with_list a.rules.terms a.rules.codes.now a.rules.rising.now) a.left.now a.right.now a.boundaries.now
fine c = input_fine _ _ _ _ (accepted c)

pub left_columns-c-requires : goal.left_columns-c-requires
left_columns-c-requires c =
    (fine (goal.at.left_columns-c-requires c).In_ok-judge_input).allowed.by

pub right_columns-w-requires : goal.right_columns-w-requires
right_columns-w-requires c =
    let g = (fine (goal.at.right_columns-w-requires c).In_ok-judge_input).allowed in (g.by, g.carried)

-- All three are tables of so many columns.
record Tables (c : After-right_columns-w) : Type 0 where
  left : is_table c.left_columns-c.result c.args.left.now ≡ true
  right : is_table c.right_columns-w.result c.args.right.now ≡ true
  boundaries : is_table c.args.rules.terms.by c.args.boundaries.now ≡ true

tables : (c : After-right_columns-w) → Tables c
tables c =
    let g = fine (goal.at.After-right_columns-w c).In_ok-judge_input in
    record { left = rw c.left_columns-c.ensures g.left_is; right = rw c.right_columns-w.ensures g.right_is; boundaries = frame_table _ _ g.boundaries_are }

pub row_count-nl-requires : goal.row_count-nl-requires
row_count-nl-requires c =
    table_count _ _ (tables (goal.at.row_count-nl-requires c).After-right_columns-w).left

pub row_count-nr-requires : goal.row_count-nr-requires
row_count-nr-requires c =
    table_count _ _ (tables (goal.at.row_count-nr-requires c).After-right_columns-w).right

pub row_count-k-requires : goal.row_count-k-requires
row_count-k-requires c =
    table_count _ _ (tables (goal.at.row_count-k-requires c).After-right_columns-w).boundaries

-- Their words, by their rows.
record Lengths (c : After-row_count-k) : Type 0 where
  left : length c.args.left.now ≡ frame_words c.row_count-nl.result c.left_columns-c.result
  right : length c.args.right.now ≡ frame_words c.row_count-nr.result c.right_columns-w.result
  boundaries : length c.args.boundaries.now ≡ frame_words c.row_count-k.result c.args.rules.terms.by

lengths : (c : After-row_count-k) → Lengths c
lengths c =
    let t = tables (goal.at.After-row_count-k c).After-right_columns-w in
    record {
      left = rw c.row_count-nl.ensures (table_exact _ _ t.left);
      right = rw c.row_count-nr.ensures (table_exact _ _ t.right);
      boundaries = rw c.row_count-k.ensures (table_exact _ _ t.boundaries);
    }

pub overflow_mul-e : goal.overflow_mul-e
overflow_mul-e c =
    omega (arith, (lengths (goal.at.overflow_mul-e c).After-row_count-k).left)

pub overflow_add-e : goal.overflow_add-e
overflow_add-e c =
    omega (arith, (lengths (goal.at.overflow_add-e c).After-row_count-k).left)

pub overflow_mul-f : goal.overflow_mul-f
overflow_mul-f c =
    omega (arith, (lengths (goal.at.overflow_mul-f c).After-row_count-k).right)

pub overflow_add-f : goal.overflow_add-f
overflow_add-f c =
    omega (arith, (lengths (goal.at.overflow_add-f c).After-row_count-k).right)

pub overflow_mul-g : goal.overflow_mul-g
overflow_mul-g c =
    omega (arith, (lengths (goal.at.overflow_mul-g c).After-row_count-k).boundaries)

pub overflow_add-g : goal.overflow_add-g
overflow_add-g c =
    omega (arith, (lengths (goal.at.overflow_add-g c).After-row_count-k).boundaries)

pub slice_bounds-join_rows-end : goal.slice_bounds-join_rows-end
slice_bounds-join_rows-end c =
    omega (arith, (lengths (goal.at.slice_bounds-join_rows-end c).After-row_count-k).left)

pub offset_bounds-left-e : goal.offset_bounds-left-e
offset_bounds-left-e c =
    omega (arith, (lengths (goal.at.offset_bounds-left-e c).After-row_count-k).left)

pub slice_bounds-join_rows-count-2 : goal.slice_bounds-join_rows-count-2
slice_bounds-join_rows-count-2 c =
    omega (arith, (lengths (goal.at.slice_bounds-join_rows-count-2 c).After-row_count-k).left)

pub slice_bounds-join_rows-start-2 : goal.slice_bounds-join_rows-start-2
slice_bounds-join_rows-start-2 c =
    omega (arith, (lengths (goal.at.slice_bounds-join_rows-start-2 c).After-row_count-k).left)

pub slice_bounds-join_rows-end-3 : goal.slice_bounds-join_rows-end-3
slice_bounds-join_rows-end-3 c =
    omega (arith, (lengths (goal.at.slice_bounds-join_rows-end-3 c).After-row_count-k).right)

pub offset_bounds-right-f : goal.offset_bounds-right-f
offset_bounds-right-f c =
    omega (arith, (lengths (goal.at.offset_bounds-right-f c).After-row_count-k).right)

pub slice_bounds-join_rows-count-4 : goal.slice_bounds-join_rows-count-4
slice_bounds-join_rows-count-4 c =
    omega (arith, (lengths (goal.at.slice_bounds-join_rows-count-4 c).After-row_count-k).right)

pub slice_bounds-join_rows-start-4 : goal.slice_bounds-join_rows-start-4
slice_bounds-join_rows-start-4 c =
    omega (arith, (lengths (goal.at.slice_bounds-join_rows-start-4 c).After-row_count-k).right)

pub slice_bounds-join_rows-end-5 : goal.slice_bounds-join_rows-end-5
slice_bounds-join_rows-end-5 c =
    omega (arith, (lengths (goal.at.slice_bounds-join_rows-end-5 c).After-row_count-k).boundaries)

pub offset_bounds-boundaries-g : goal.offset_bounds-boundaries-g
offset_bounds-boundaries-g c =
    omega (arith, (lengths (goal.at.offset_bounds-boundaries-g c).After-row_count-k).boundaries)

pub slice_bounds-join_rows-count-6 : goal.slice_bounds-join_rows-count-6
slice_bounds-join_rows-count-6 c =
    omega (arith, (lengths (goal.at.slice_bounds-join_rows-count-6 c).After-row_count-k).boundaries)

pub slice_bounds-join_rows-start-6 : goal.slice_bounds-join_rows-start-6
slice_bounds-join_rows-start-6 c =
    omega (arith, (lengths (goal.at.slice_bounds-join_rows-start-6 c).After-row_count-k).boundaries)

-- Where the values end, by the row counts.
record Ends (c : After-row_count-k) : Type 0 where
  left : 2 + c.row_count-nl.result * c.left_columns-c.result ≡ 2 + row_count c.args.left.now * c.left_columns-c.result
  right : 2 + c.row_count-nr.result * c.right_columns-w.result ≡ 2 + row_count c.args.right.now * c.right_columns-w.result
  boundaries : 2 + c.row_count-k.result * c.args.rules.terms.by
      ≡ 2 + row_count c.args.boundaries.now * c.args.rules.terms.by

ends : (c : After-row_count-k) → Ends c
ends c = record { left = rw c.row_count-nl.ensures; right = rw c.row_count-nr.ensures; boundaries = rw c.row_count-k.ensures }

pub join_rows-requires : goal.join_rows-requires
join_rows-requires c =
    let a = c.args in
    let k = c.left_columns-c.result in
    let w = c.right_columns-w.result in
    let b = a.rules.terms.by in
    let e = ends (goal.at.join_rows-requires c).After-row_count-k in
    let g = fine (goal.at.join_rows-requires c).In_ok-judge_input in
    let t = tables (goal.at.join_rows-requires c).After-right_columns-w in
    let gl = c.well_formed.0 in
    let gr = c.well_formed.1.0 in
    rw (
      values_part k a.left.now (2 + c.row_count-nl.result * k) e.left,
      marks_part k a.left.now (2 + c.row_count-nl.result * k) e.left,
      values_part w a.right.now (2 + c.row_count-nr.result * w) e.right,
      marks_part w a.right.now (2 + c.row_count-nr.result * w) e.right,
      values_part b a.boundaries.now (2 + c.row_count-k.result * b) e.boundaries,
      marks_part b a.boundaries.now (2 + c.row_count-k.result * b) e.boundaries,
      c.row_count-nl.ensures,
      c.row_count-nr.ensures,
      c.row_count-k.ensures,
    )
    (all_in (with_list a.rules.terms a.rules.codes.now a.rules.rising.now) a.left.now a.right.now a.boundaries.now k w c.left_columns-c.ensures c.right_columns-w.ensures t.left t.right g.boundaries_are
    (allowed_few _ g.allowed c.requires.0 c.requires.1) g.allowed.carried (omega (arith, gl.0, gl.1)) (omega (arith, gr.0, gr.1)))

pub returns : goal.returns
returns c =
    let a = c.args in
    let k = c.left_columns-c.result in
    let w = c.right_columns-w.result in
    let b = a.rules.terms.by in
    let e = ends (goal.at.returns c).After-row_count-k in
    join_done (with_list a.rules.terms a.rules.codes.now a.rules.rising.now) a.left.now a.right.now a.boundaries.now _ _ a.out.now (accepted (goal.at.returns c).In_ok-judge_input) k w c.left_columns-c.ensures c.right_columns-w.ensures _ _
    (rw (
      values_part k a.left.now (2 + c.row_count-nl.result * k) e.left,
      marks_part k a.left.now (2 + c.row_count-nl.result * k) e.left,
      values_part w a.right.now (2 + c.row_count-nr.result * w) e.right,
      marks_part w a.right.now (2 + c.row_count-nr.result * w) e.right,
      values_part b a.boundaries.now (2 + c.row_count-k.result * b) e.boundaries,
      marks_part b a.boundaries.now (2 + c.row_count-k.result * b) e.boundaries,
      c.row_count-nl.ensures,
      c.row_count-nr.ensures,
      c.row_count-k.ensures,
    )
    at c.join_rows.ensures)
