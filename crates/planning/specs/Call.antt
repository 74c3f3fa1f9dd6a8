-- The plan of two tables, for any words: what is refused, and the figures. Assumes nothing.
use Rattle.frames.specs.declared.refusals.Refusal.{Refusal}
use Rattle.std.specs.Prelude.{cond, not, ◌&&◌, ◌||◌, Result, Ok, Err}
use Rattle.frames.specs.Cells.{Words}
use Rattle.frames.specs.Frame.{row_count, frame_rows, is_table}
use Rattle.order.specs.options.Options.{columns, right_columns}
use Rattle.order.specs.declared.options.Options.{Options}
use Rattle.order.specs.Order.{sorted}
use Rattle.order.specs.Listed.{lacks_code}
use Rattle.tables.specs.Options.{unless}
use Rattle.frames.specs.declared.refusals.Refusal.TheVariants.{BadFrame, UnknownCode, Unsorted, BadHeights}
use Rattle.planning.specs.Heights.{heights_of, bad_heights, in_frames}
use Rattle.planning.specs.Plan.{plan}
use Rattle.planning.specs.declared.Figures.{Figures}

-- SCOPE 19.25: the figures of two tables cut in frames of these heights. No area and no output decides them.
abbrev pub table_figures : Options → Words → Words → Words → Words → Figures
table_figures o left right hl hr =
    plan o (in_frames (heights_of hl) (frame_rows (columns o) left)) (in_frames (heights_of hr) (frame_rows (right_columns o) right))

-- SCOPE 19.26: the refusals in their order. 1, 10 and 11 by the options; 5 where one of the two is no table of its columns; 12 where one has a value that the list of ranks lacks; 14 where
-- one is not sorted; 17 by the heights. Else the figures.
unfoldable pub plan_call : Options → Words → Words → Words → Words → Result Figures Refusal
plan_call o left right hl hr =
    unless Err o
    (cond (not (is_table (columns o) left && is_table (right_columns o) right)) (Err BadFrame)
    (cond (lacks_code o (frame_rows (columns o) left) || lacks_code o (frame_rows (right_columns o) right)) (Err UnknownCode)
    (cond (not (sorted o (frame_rows (columns o) left) && sorted o (frame_rows (right_columns o) right))) (Err Unsorted)
    (cond (bad_heights (row_count left) hl || bad_heights (row_count right) hr) (Err BadHeights)
    (Ok (table_figures o left right hl hr))))))
