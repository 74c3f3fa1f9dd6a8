-- A book by its rows: what the list of its notices asks, answers and writes. Assumes nothing.
use Rattle.frames.specs.declared.refusals.Refusal.{Refusal}
use Rattle.std.specs.Prelude.{◌≡◌, cond, not, ℕ, ltb, length, Result, Ok, Err}
use Rattle.frames.specs.Cells.{Rows, Words}
use Rattle.frames.specs.Frame.{frame_words}
use Rattle.order.specs.options.Options.{right_columns}
use Rattle.order.specs.declared.options.Options.{Options}
use Rattle.order.specs.Order.{sorted}
use Rattle.order.specs.Requires.{RowsIn}
use Rattle.tables.specs.Table.{leave}
use Rattle.frames.specs.declared.refusals.Refusal.TheVariants.{BadColumns, Unsorted, NoRoom}
use Rattle.books.specs.Standing.{notices}

-- n rows are there, of by-columns, the key and the carried columns.
pub record BookIn (o : Options) (w n : ℕ) (vs ms : Words) : Type 0 where
  pub rows : RowsIn o w n vs ms
  pub width : w ≡ right_columns o

-- Refusals 13, 14 and 6.
unfoldable pub list_answer : Options → ℕ → Rows → Words → Result ℕ Refusal
list_answer o q rows out =
    cond (not (ltb q o.carried)) (Err BadColumns)
    (cond (not (sorted o rows)) (Err Unsorted)
    (cond (ltb (length out) (frame_words (length rows) 2)) (Err NoRoom)
    (Ok (length rows))))

-- What the part behind the rule of tables leaves.
pub record ListContract (o : Options) (q : ℕ) (rows : Rows) (out : Words) (r : Result ℕ Refusal) (out' : Words) : Type 0 where
  pub answer : r ≡ list_answer o q rows out
  pub words : out' ≡ (leave 2 (notices o q 0 rows) (list_answer o q rows out) out).out
