-- `noticecall::stand_listed` meets its contract. Assumes nothing.
use Rattle.std.specs.Prelude.{Ok}
use mathlib.Core.Path.{◌≡◌, sym, ◌∙◌}
use mathlib.Core.Bool.{true}
use Prim.Native.Nat.{◌+◌, ◌*◌}
use native.Mathlib.Omega.{arith}
use lib.ListN.{length}
use Rattle.order.specs.options.Options.{with_list}
use Rattle.frames.specs.Frame.{row_count, frame_words, is_table}
use Rattle.frames.proofs.FrontLaws.{table_count, values_part, marks_part}
use Rattle.order.proofs.options.OptionLaws.{allowed_few}
use Rattle.books.specs.bookjudge.Judged.{book_judged}
use Rattle.books.proofs.bookjudge.JudgeLaws.{BookFine, book_fine, table_exact}
use Rattle.books.proofs.noticecall.CallLaws.{stand_refused, listed, book_rows}
use Rattle.std.proofs.lemmas.Result.{err_from_is_err_and}
use Rattle.books.proofs.noticecall.stand_listed.Goals.{After-right_columns-w, After-row_count-n, In_ok-judge_book}
use Rattle.books.proofs.noticecall.stand_listed.Goals as goal

pub returns-in_err-judge_book : goal.returns-in_err-judge_book
returns-in_err-judge_book c =
    let p = err_from_is_err_and c.from_residual.result c.from_residual.ensures.1 in
    rw (p.1, p.2) (stand_refused (with_list c.args.rules.terms c.args.rules.codes.now c.args.rules.rising.now) c.args.column c.args.book.now c.args.out.now _ (sym c.judge_book.ensures ∙ c.in_err-judge_book.was))

-- The book was accepted.
accepted : (c : In_ok-judge_book) → let a = c.args in book_judged (with_list a.rules.terms a.rules.codes.now a.rules.rising.now) a.book.now ≡ Ok tt
accepted c = sym c.judge_book.ensures ∙ c.in_ok-judge_book.was

fine : (c : In_ok-judge_book) → let a = c.args in BookFine (with_list a.rules.terms a.rules.codes.now a.rules.rising.now) a.book.now
fine c = book_fine _ _ (accepted c)

pub right_columns-w-requires : goal.right_columns-w-requires
right_columns-w-requires c =
    ((fine (goal.at.right_columns-w-requires c).In_ok-judge_book).allowed.by, (fine (goal.at.right_columns-w-requires c).In_ok-judge_book).allowed.carried)

-- It is a table of so many columns.
is : (c : After-right_columns-w) → is_table c.right_columns-w.result c.args.book.now ≡ true
is c = rw c.right_columns-w.ensures (fine (goal.at.After-right_columns-w c).In_ok-judge_book).is

pub row_count-n-requires : goal.row_count-n-requires
row_count-n-requires c =
    table_count _ _ (is (goal.at.row_count-n-requires c).After-right_columns-w)

-- Its words, by its rows.
long : (c : After-row_count-n) → length c.args.book.now ≡ frame_words c.row_count-n.result c.right_columns-w.result
long c = rw c.row_count-n.ensures (table_exact _ _ (is (goal.at.After-row_count-n c).After-right_columns-w))

pub overflow_mul-e : goal.overflow_mul-e
overflow_mul-e c =
    omega (arith, long (goal.at.overflow_mul-e c).After-row_count-n)

pub overflow_add-e : goal.overflow_add-e
overflow_add-e c =
    omega (arith, long (goal.at.overflow_add-e c).After-row_count-n)

pub slice_bounds-list_notices-end : goal.slice_bounds-list_notices-end
slice_bounds-list_notices-end c =
    omega (arith, long (goal.at.slice_bounds-list_notices-end c).After-row_count-n)

pub offset_bounds-book-e : goal.offset_bounds-book-e
offset_bounds-book-e c =
    omega (arith, long (goal.at.offset_bounds-book-e c).After-row_count-n)

pub slice_bounds-list_notices-count-2 : goal.slice_bounds-list_notices-count-2
slice_bounds-list_notices-count-2 c =
    omega (arith, long (goal.at.slice_bounds-list_notices-count-2 c).After-row_count-n)

pub slice_bounds-list_notices-start-2 : goal.slice_bounds-list_notices-start-2
slice_bounds-list_notices-start-2 c =
    omega (arith, long (goal.at.slice_bounds-list_notices-start-2 c).After-row_count-n)

-- Where its values end, by the row count.
end : (c : After-row_count-n) → let a = c.args in let w = c.right_columns-w.result in 2 + c.row_count-n.result * w ≡ 2 + row_count a.book.now * w
end c = rw c.row_count-n.ensures

pub list_notices-requires : goal.list_notices-requires
list_notices-requires c =
    let a = c.args in
    let w = c.right_columns-w.result in
    rw (values_part w a.book.now (2 + c.row_count-n.result * w) (end (goal.at.list_notices-requires c).After-row_count-n), marks_part w a.book.now (2 + c.row_count-n.result * w) (end (goal.at.list_notices-requires c).After-row_count-n), c.row_count-n.ensures)
    (book_rows (with_list a.rules.terms a.rules.codes.now a.rules.rising.now) w a.book.now (is (goal.at.list_notices-requires c).After-right_columns-w) (allowed_few _ (fine (goal.at.list_notices-requires c).In_ok-judge_book).allowed c.requires.0 c.requires.1) c.right_columns-w.ensures)

pub returns : goal.returns
returns c =
    let a = c.args in
    let w = c.right_columns-w.result in
    listed (with_list a.rules.terms a.rules.codes.now a.rules.rising.now) a.column a.book.now a.out.now (accepted (goal.at.returns c).In_ok-judge_book) w c.right_columns-w.ensures _ _
    (rw (values_part w a.book.now (2 + c.row_count-n.result * w) (end (goal.at.returns c).After-row_count-n), marks_part w a.book.now (2 + c.row_count-n.result * w) (end (goal.at.returns c).After-row_count-n), c.row_count-n.ensures)
    at c.list_notices.ensures)
