-- The functions over books: what each answers, and the words of its output. Assumes nothing.
use Rattle.frames.specs.declared.refusals.Refusal.{Refusal}
use Rattle.std.specs.Prelude.{◌≡◌, Bool, cond, not, ◌&&◌, ◌||◌, ℕ, ◌+◌, ltb, length, Result, Ok, Err}
use Rattle.frames.specs.Cells.{Rows, Words}
use Rattle.frames.specs.Frame.{frame_words, is_table}
use Rattle.order.specs.options.Options.{right_columns}
use Rattle.order.specs.declared.options.Options.{Options}
use Rattle.order.specs.Order.{sorted}
use Rattle.order.specs.Listed.{lacks_code}
use Rattle.tables.specs.Options.{unless}
use Rattle.tables.specs.Table.{table_rows, After, leave}
use Rattle.frames.specs.declared.refusals.Refusal.TheVariants.{BadFrame, UnknownCode, BadColumns, Unsorted, NoRoom}
use Rattle.books.specs.Merge.{merge}
use Rattle.books.specs.Standing.{notices}

-- SCOPE 19.8: a book is a table of the right rows' columns.
abbrev pub is_book : Options → Words → Bool
is_book o t = is_table (right_columns o) t

abbrev pub rows_in : Options → Words → Rows
rows_in o t = table_rows (right_columns o) t

-- ---- two books, one season
-- SCOPE 19.10: the refusals in their order. 1, 10, 11 by the options; 5 where one of the two is no book; 12 where one has a value that the list of ranks lacks; 14 where
-- one is not sorted; 6 where the output has fewer words than the merged table. Else the number of rows of both.
unfoldable pub merge_answer : Options → Words → Words → Words → Result ℕ Refusal
merge_answer o house festival out =
    unless Err o
    (cond (not (is_book o house && is_book o festival)) (Err BadFrame)
    (cond (lacks_code o (rows_in o house) || lacks_code o (rows_in o festival)) (Err UnknownCode)
    (cond (not (sorted o (rows_in o house) && sorted o (rows_in o festival))) (Err Unsorted)
    (cond (ltb (length out) (frame_words (length (rows_in o house) + length (rows_in o festival)) (right_columns o))) (Err NoRoom)
    (Ok (length (rows_in o house) + length (rows_in o festival)))))))

-- With the words of the output: the merged table at its front, or every word as it was.
unfoldable pub merge_call : Options → Words → Words → Words → After
merge_call o house festival out = leave (right_columns o) (merge o (rows_in o house) (rows_in o festival)) (merge_answer o house festival out) out

-- The contract of the call: its answer, and the words of the output afterwards.
pub record MergeContract (o : Options) (house festival out : Words) (r : Result ℕ Refusal) (out' : Words) : Type 0 where
  pub answer : r ≡ (merge_call o house festival out).answer
  pub words : out' ≡ (merge_call o house festival out).out

-- ---- which notice stands
-- SCOPE 19.16: the refusals in their order. 1, 10, 11 by the options; 5 where the words are no book; 12 where it has a value that the list of ranks lacks; 13 where q is
-- no place among the p carried columns; 14 where the book is not sorted; 6 where the output has fewer words than a row of two cells for each row. Else the number of rows.
unfoldable pub stand_answer : Options → ℕ → Words → Words → Result ℕ Refusal
stand_answer o q book out =
    unless Err o
    (cond (not (is_book o book)) (Err BadFrame)
    (cond (lacks_code o (rows_in o book)) (Err UnknownCode)
    (cond (not (ltb q o.carried)) (Err BadColumns)
    (cond (not (sorted o (rows_in o book))) (Err Unsorted)
    (cond (ltb (length out) (frame_words (length (rows_in o book)) 2)) (Err NoRoom)
    (Ok (length (rows_in o book))))))))

-- With the words of the output: the notices as a table of two columns at its front, or every word as it was.
unfoldable pub stand_call : Options → ℕ → Words → Words → After
stand_call o q book out = leave 2 (notices o q 0 (rows_in o book)) (stand_answer o q book out) out

-- The contract of the call: its answer, and the words of the output afterwards.
pub record StandContract (o : Options) (q : ℕ) (book out : Words) (r : Result ℕ Refusal) (out' : Words) : Type 0 where
  pub answer : r ≡ (stand_call o q book out).answer
  pub words : out' ≡ (stand_call o q book out).out
