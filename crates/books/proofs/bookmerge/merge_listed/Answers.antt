-- `bookmerge::merge_listed` meets its contract. Assumes nothing.
use Rattle.std.specs.Prelude.{Ok}
use mathlib.Core.Path.{◌≡◌, sym, ◌∙◌}
use mathlib.Core.Bool.{true}
use Prim.Native.Nat.{◌+◌, ◌*◌, ◌<◌}
use native.Mathlib.Omega.{arith}
use lib.ListN.{length}
use Rattle.frames.specs.Frame.{row_count, frame_words, is_table}
use Rattle.frames.proofs.FrontLaws.{table_count, values_part, marks_part}
use Rattle.order.proofs.options.OptionLaws.{allowed_few}
use Rattle.order.specs.options.Options.{with_list}
use Rattle.books.specs.bookjudge.Judged.{books_judged}
use Rattle.books.proofs.bookjudge.JudgeLaws.{BooksFine, books_fine, table_exact, book_in}
use Rattle.books.proofs.bookmerge.CallLaws.{merge_refused, books_merged}
use Rattle.std.proofs.lemmas.Result.{err_from_is_err_and}
use Rattle.books.proofs.bookmerge.merge_listed.Goals.{After-right_columns-w, After-row_count-nf, In_ok-judge_books}
use Rattle.books.proofs.bookmerge.merge_listed.Goals as goal

pub returns-in_err-judge_books : goal.returns-in_err-judge_books
returns-in_err-judge_books c =
    let p = err_from_is_err_and c.from_residual.result c.from_residual.ensures.1 in
    rw (p.1, p.2) (merge_refused (with_list c.args.rules.terms c.args.rules.codes.now c.args.rules.rising.now) c.args.house.now c.args.festival.now c.args.out.now _ (sym c.judge_books.ensures ∙ c.in_err-judge_books.was))

-- Both books were accepted.
accepted : (c : In_ok-judge_books) → let a = c.args in books_judged (with_list a.rules.terms a.rules.codes.now a.rules.rising.now) a.house.now a.festival.now ≡ Ok tt
accepted c = sym c.judge_books.ensures ∙ c.in_ok-judge_books.was

fine : (c : In_ok-judge_books) → let a = c.args in BooksFine (with_list a.rules.terms a.rules.codes.now a.rules.rising.now) a.house.now a.festival.now
fine c = books_fine _ _ _ (accepted c)

pub right_columns-w-requires : goal.right_columns-w-requires
right_columns-w-requires c =
    ((fine (goal.at.right_columns-w-requires c).In_ok-judge_books).allowed.by, (fine (goal.at.right_columns-w-requires c).In_ok-judge_books).allowed.carried)

-- Both are tables of so many columns.
record Tables (c : After-right_columns-w) : Type 0 where
  house : is_table c.right_columns-w.result c.args.house.now ≡ true
  festival : is_table c.right_columns-w.result c.args.festival.now ≡ true

tables : (c : After-right_columns-w) → Tables c
tables c = record { house = rw c.right_columns-w.ensures (fine (goal.at.After-right_columns-w c).In_ok-judge_books).house_is; festival = rw c.right_columns-w.ensures (fine (goal.at.After-right_columns-w c).In_ok-judge_books).festival_is }

pub row_count-nh-requires : goal.row_count-nh-requires
row_count-nh-requires c =
    table_count _ _ (tables (goal.at.row_count-nh-requires c).After-right_columns-w).house

pub row_count-nf-requires : goal.row_count-nf-requires
row_count-nf-requires c =
    table_count _ _ (tables (goal.at.row_count-nf-requires c).After-right_columns-w).festival

-- Their words, by their rows.
record Lengths (c : After-row_count-nf) : Type 0 where
  house : length c.args.house.now ≡ frame_words c.row_count-nh.result c.right_columns-w.result
  festival : length c.args.festival.now ≡ frame_words c.row_count-nf.result c.right_columns-w.result

lengths : (c : After-row_count-nf) → Lengths c
lengths c = record {
  house = rw c.row_count-nh.ensures (table_exact _ _ (tables (goal.at.After-row_count-nf c).After-right_columns-w).house);
  festival = rw c.row_count-nf.ensures (table_exact _ _ (tables (goal.at.After-row_count-nf c).After-right_columns-w).festival);
}

pub overflow_mul-e : goal.overflow_mul-e
overflow_mul-e c =
    omega (arith, (lengths (goal.at.overflow_mul-e c).After-row_count-nf).house)

pub overflow_add-e : goal.overflow_add-e
overflow_add-e c =
    omega (arith, (lengths (goal.at.overflow_add-e c).After-row_count-nf).house)

pub overflow_mul-f : goal.overflow_mul-f
overflow_mul-f c =
    omega (arith, (lengths (goal.at.overflow_mul-f c).After-row_count-nf).festival)

pub overflow_add-f : goal.overflow_add-f
overflow_add-f c =
    omega (arith, (lengths (goal.at.overflow_add-f c).After-row_count-nf).festival)

pub slice_bounds-merge_books-end : goal.slice_bounds-merge_books-end
slice_bounds-merge_books-end c =
    omega (arith, (lengths (goal.at.slice_bounds-merge_books-end c).After-row_count-nf).house)

pub offset_bounds-house-e : goal.offset_bounds-house-e
offset_bounds-house-e c =
    omega (arith, (lengths (goal.at.offset_bounds-house-e c).After-row_count-nf).house)

pub slice_bounds-merge_books-count-2 : goal.slice_bounds-merge_books-count-2
slice_bounds-merge_books-count-2 c =
    omega (arith, (lengths (goal.at.slice_bounds-merge_books-count-2 c).After-row_count-nf).house)

pub slice_bounds-merge_books-start-2 : goal.slice_bounds-merge_books-start-2
slice_bounds-merge_books-start-2 c =
    omega (arith, (lengths (goal.at.slice_bounds-merge_books-start-2 c).After-row_count-nf).house)

pub slice_bounds-merge_books-end-3 : goal.slice_bounds-merge_books-end-3
slice_bounds-merge_books-end-3 c =
    omega (arith, (lengths (goal.at.slice_bounds-merge_books-end-3 c).After-row_count-nf).festival)

pub offset_bounds-festival-f : goal.offset_bounds-festival-f
offset_bounds-festival-f c =
    omega (arith, (lengths (goal.at.offset_bounds-festival-f c).After-row_count-nf).festival)

pub slice_bounds-merge_books-count-4 : goal.slice_bounds-merge_books-count-4
slice_bounds-merge_books-count-4 c =
    omega (arith, (lengths (goal.at.slice_bounds-merge_books-count-4 c).After-row_count-nf).festival)

pub slice_bounds-merge_books-start-4 : goal.slice_bounds-merge_books-start-4
slice_bounds-merge_books-start-4 c =
    omega (arith, (lengths (goal.at.slice_bounds-merge_books-start-4 c).After-row_count-nf).festival)

-- Where the values end, by the row counts.
ends : (c : After-row_count-nf) → let a = c.args in let w = c.right_columns-w.result in
    (2 + c.row_count-nh.result * w ≡ 2 + row_count a.house.now * w) × (2 + c.row_count-nf.result * w ≡ 2 + row_count a.festival.now * w)
ends c = (rw c.row_count-nh.ensures, rw c.row_count-nf.ensures)

pub merge_books-requires : goal.merge_books-requires
merge_books-requires c =
    let a = c.args in
    let w = c.right_columns-w.result in
    let e = ends (goal.at.merge_books-requires c).After-row_count-nf in
    let g = (fine (goal.at.merge_books-requires c).In_ok-judge_books).allowed in
    let f = allowed_few _ g c.requires.0 c.requires.1 in
    let l : a.rules.terms.by < w = omega (arith, c.right_columns-w.ensures) in
    rw (
      values_part w a.house.now (2 + c.row_count-nh.result * w) e.0,
      marks_part w a.house.now (2 + c.row_count-nh.result * w) e.0,
      values_part w a.festival.now (2 + c.row_count-nf.result * w) e.1,
      marks_part w a.festival.now (2 + c.row_count-nf.result * w) e.1,
      c.row_count-nh.ensures,
      c.row_count-nf.ensures,
    )
    (record {
      house = book_in w a.house.now (tables (goal.at.merge_books-requires c).After-right_columns-w).house (with_list a.rules.terms a.rules.codes.now a.rules.rising.now) f l;
      festival = book_in w a.festival.now (tables (goal.at.merge_books-requires c).After-right_columns-w).festival (with_list a.rules.terms a.rules.codes.now a.rules.rising.now) f l;
      narrow = omega (arith, c.right_columns-w.ensures, g.by, g.carried);
    })

pub returns : goal.returns
returns c =
    let a = c.args in
    let w = c.right_columns-w.result in
    let e = ends (goal.at.returns c).After-row_count-nf in
    books_merged (with_list a.rules.terms a.rules.codes.now a.rules.rising.now) a.house.now a.festival.now a.out.now (accepted (goal.at.returns c).In_ok-judge_books) w c.right_columns-w.ensures _ _
    (rw (
      values_part w a.house.now (2 + c.row_count-nh.result * w) e.0,
      marks_part w a.house.now (2 + c.row_count-nh.result * w) e.0,
      values_part w a.festival.now (2 + c.row_count-nf.result * w) e.1,
      marks_part w a.festival.now (2 + c.row_count-nf.result * w) e.1,
      c.row_count-nh.ensures,
      c.row_count-nf.ensures,
    )
    at c.merge_books.ensures)
