-- What words are answered before the rows of takings are judged. Assumes nothing.
use Rattle.frames.specs.declared.refusals.Refusal.{Refusal}
use Rattle.std.specs.Prelude.{cond, not, ◌&&◌, ◌||◌, eqb, Result, Ok, Err}
use Rattle.frames.specs.Cells.{Words}
use Rattle.frames.specs.Frame.{is_table, is_frame, row_count, frame_rows}
use Rattle.order.specs.options.Options.{columns}
use Rattle.order.specs.declared.options.Options.{Options}
use Rattle.order.specs.Listed.{lacks_code}
use Rattle.tables.specs.Options.{unless}
use Rattle.takings.specs.Calls.{table_width, rows_in, any_frame, columns_in, known_columns}
use Rattle.frames.specs.declared.refusals.Refusal.TheVariants.{BadFrame, UnknownCode, BadColumns}

-- Two tables: 1, 10, 11 by the options; 5 where one is no table of subtotals; 12 where one has a value that the list of ranks lacks; 13 where nothing is carried.
unfoldable pub tables_judged : Options → Words → Words → Result Unit Refusal
tables_judged o table other =
    unless Err o
    (cond (not (is_table (table_width o) table && is_table (table_width o) other)) (Err BadFrame)
    (cond (lacks_code o (rows_in o table) || lacks_code o (rows_in o other)) (Err UnknownCode)
    (cond (eqb o.carried 0) (Err BadColumns)
    (Ok tt))))

-- A table, a left frame and its answer frame: the same, with 5 where one is none or the frames' heights differ, and 13 where the answer frame's columns are not known.
unfoldable pub sales_judged : Options → Words → Words → Words → Result Unit Refusal
sales_judged o table left answer =
    unless Err o
    (cond (not (is_table (table_width o) table && is_frame (columns o) left && any_frame answer && eqb (row_count left) (row_count answer))) (Err BadFrame)
    (cond (lacks_code o (rows_in o table) || lacks_code o (frame_rows (columns o) left)) (Err UnknownCode)
    (cond (not (known_columns o (columns_in answer))) (Err BadColumns)
    (Ok tt))))
