-- What one book or two are answered before their rows are compared. Assumes nothing.
use Rattle.frames.specs.declared.refusals.Refusal.{Refusal}
use Rattle.std.specs.Prelude.{cond, not, ◌&&◌, ◌||◌, Result, Ok, Err}
use Rattle.frames.specs.Cells.{Words}
use Rattle.order.specs.declared.options.Options.{Options}
use Rattle.order.specs.Listed.{lacks_code}
use Rattle.tables.specs.Options.{unless}
use Rattle.books.specs.Calls.{is_book, rows_in}
use Rattle.frames.specs.declared.refusals.Refusal.TheVariants.{BadFrame, UnknownCode}

-- SCOPE 19.10, 19.16: 1, 10, 11 by the options; 5 where the words are no book; 12 where it has a value that the list of ranks lacks.
unfoldable pub book_judged : Options → Words → Result Unit Refusal
book_judged o book =
    unless Err o
    (cond (not (is_book o book)) (Err BadFrame)
    (cond (lacks_code o (rows_in o book)) (Err UnknownCode)
    (Ok tt)))

-- The same of two: both must be books before the list of ranks is asked.
unfoldable pub books_judged : Options → Words → Words → Result Unit Refusal
books_judged o house festival =
    unless Err o
    (cond (not (is_book o house && is_book o festival)) (Err BadFrame)
    (cond (lacks_code o (rows_in o house) || lacks_code o (rows_in o festival)) (Err UnknownCode)
    (Ok tt)))
