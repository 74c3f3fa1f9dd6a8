-- What a left table and a right one are answered before their rows are compared. Assumes nothing.
use Rattle.frames.specs.declared.refusals.Refusal.{Refusal}
use Rattle.std.specs.Prelude.{cond, not, ◌&&◌, ◌||◌, Result, Ok, Err}
use Rattle.frames.specs.Cells.{Words}
use Rattle.frames.specs.Frame.{is_table, frame_rows}
use Rattle.order.specs.options.Options.{columns, right_columns}
use Rattle.order.specs.declared.options.Options.{Options}
use Rattle.order.specs.Listed.{lacks_code}
use Rattle.tables.specs.Options.{unless}
use Rattle.frames.specs.declared.refusals.Refusal.TheVariants.{BadFrame, UnknownCode}

-- SCOPE 19.26: 1, 10, 11 by the options; 5 where one of the two is no table of its columns; 12 where one has a value that the list of ranks lacks.
unfoldable pub tables_judged : Options → Words → Words → Result Unit Refusal
tables_judged o left right =
    unless Err o
    (cond (not (is_table (columns o) left && is_table (right_columns o) right)) (Err BadFrame)
    (cond (lacks_code o (frame_rows (columns o) left) || lacks_code o (frame_rows (right_columns o) right)) (Err UnknownCode)
    (Ok tt)))
