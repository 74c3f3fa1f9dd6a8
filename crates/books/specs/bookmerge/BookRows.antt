-- Two books by their rows: what their merge asks, answers and writes. Assumes nothing.
use Rattle.frames.specs.declared.refusals.Refusal.{Refusal}
use Rattle.std.specs.Prelude.{◌≡◌, cond, not, ◌&&◌, ℕ, ◌+◌, ◌≤◌, ltb, length, Result, Ok, Err}
use Rattle.frames.specs.Cells.{Rows, Words}
use Rattle.frames.specs.Frame.{frame_words}
use Rattle.order.specs.declared.options.Options.{Options}
use Rattle.order.specs.Order.{sorted}
use Rattle.tables.specs.Table.{leave}
use Rattle.frames.specs.declared.refusals.Refusal.TheVariants.{Unsorted, NoRoom}
use Rattle.books.specs.Merge.{merge}
use Rattle.books.specs.Requires.{Book}

-- Both books are there, of at most 4 by-columns, the key and 8 carried columns.
pub record BooksIn (o : Options) (w nh : ℕ) (hv hm : Words) (nf : ℕ) (fv fm : Words) : Type 0 where
  pub house : Book o w nh hv hm
  pub festival : Book o w nf fv fm
  pub narrow : w ≤ 13

-- Refusals 14 and 6.
unfoldable pub books_answer : Options → ℕ → Rows → Rows → Words → Result ℕ Refusal
books_answer o w house festival out =
    cond (not (sorted o house && sorted o festival)) (Err Unsorted)
    (cond (ltb (length out) (frame_words (length house + length festival) w)) (Err NoRoom)
    (Ok (length house + length festival)))

-- What the part behind the rule of tables leaves.
pub record BooksContract (o : Options) (w : ℕ) (house festival : Rows) (out : Words) (r : Result ℕ Refusal) (out' : Words) : Type 0 where
  pub answer : r ≡ books_answer o w house festival out
  pub words : out' ≡ (leave w (merge o house festival) (books_answer o w house festival out) out).out
