-- Where a sorted table is cut for a list of boundaries: what the call answers, and the words of its output. Assumes nothing.
use Rattle.frames.specs.declared.refusals.Refusal.{Refusal}
use Rattle.std.specs.Prelude.{◌≡◌, Bool, cond, not, ◌&&◌, ◌||◌, ℕ, ltb, length, Result, Ok, Err}
use Rattle.frames.specs.Cells.{Rows, Words}
use Rattle.frames.specs.Frame.{frame_words, is_table, is_frame, frame_rows}
use Rattle.order.specs.options.Options.{columns, right_columns}
use Rattle.order.specs.declared.options.Options.{Options}
use Rattle.order.specs.Order.{sorted}
use Rattle.order.specs.Listed.{lacks_code}
use Rattle.order.specs.Requires.{RowsIn}
use Rattle.tables.specs.Options.{unless}
use Rattle.tables.specs.Table.{table_rows, After, leave}
use Rattle.frames.specs.declared.refusals.Refusal.TheVariants.{BadFrame, UnknownCode, Unsorted, BadBoundaries, NoRoom}
use Rattle.cutting.specs.boundaries.Boundaries.{places, bad_boundaries}
use Rattle.cutting.specs.boundaries.Requires.{GroupsIn}

-- SCOPE 19.27: the columns of a table of left rows, or of right ones; its rows; the boundaries, which have as many columns as there are by-columns.
abbrev pub side_columns : Options → Bool → ℕ
side_columns o right = cond right (right_columns o) (columns o)

abbrev pub rows_in : Options → Bool → Words → Rows
rows_in o right table = table_rows (side_columns o right) table

abbrev pub groups_in : Options → Words → Rows
groups_in o boundaries = frame_rows o.by boundaries

-- SCOPE 19.28: the refusals in their order. Before rows are compared: 1, 10, 11 by the options; 5 where the words are no table of that side, or the boundaries no frame;
-- 12 where one of them has a value that the list of ranks lacks.
unfoldable pub words_judged : Options → Bool → Words → Words → Result Unit Refusal
words_judged o right table boundaries =
    unless Err o
    (cond (not (is_table (side_columns o right) table && is_frame o.by boundaries)) (Err BadFrame)
    (cond (lacks_code o (rows_in o right table) || lacks_code o (groups_in o boundaries)) (Err UnknownCode)
    (Ok tt)))

-- Then 14 where the table is not sorted; 18 by the boundaries; 6 where the output has fewer words than a table of their places. Else the number of boundaries.
unfoldable pub rows_judged : Options → Rows → Rows → Words → Result ℕ Refusal
rows_judged o rows groups out =
    cond (not (sorted o rows)) (Err Unsorted)
    (cond (bad_boundaries o groups) (Err BadBoundaries)
    (cond (ltb (length out) (frame_words (length groups) 1)) (Err NoRoom)
    (Ok (length groups))))

-- Of both.
abbrev pub then_judged : Result Unit Refusal → Result ℕ Refusal → Result ℕ Refusal
then_judged (Ok tt) w = w
then_judged (Err r) w = Err r

unfoldable pub cut_answer : Options → Bool → Words → Words → Words → Result ℕ Refusal
cut_answer o right table boundaries out = then_judged (words_judged o right table boundaries) (rows_judged o (rows_in o right table) (groups_in o boundaries) out)

-- With the words of the output: a table of one column at its front, with the place for each boundary; or every word as it was.
unfoldable pub cut_call : Options → Bool → Words → Words → Words → After
cut_call o right table boundaries out = leave 1 (places o (rows_in o right table) (groups_in o boundaries)) (cut_answer o right table boundaries out) out

-- The contract of the call: its answer, and the words of the output afterwards.
pub record CutContract (o : Options) (right : Bool) (table boundaries out : Words) (r : Result ℕ Refusal) (out' : Words) : Type 0 where
  pub answer : r ≡ cut_answer o right table boundaries out
  pub words : out' ≡ (cut_call o right table boundaries out).out

-- The same behind the first part, by rows; and what it asks.
pub record RowsContract (o : Options) (rows groups : Rows) (out : Words) (r : Result ℕ Refusal) (out' : Words) : Type 0 where
  pub answer : r ≡ rows_judged o rows groups out
  pub words : out' ≡ (leave 1 (places o rows groups) (rows_judged o rows groups out) out).out

pub record BothIn (o : Options) (w n : ℕ) (vs ms : Words) (k : ℕ) (gv gm : Words) : Type 0 where
  pub rows : RowsIn o w n vs ms
  pub groups : GroupsIn o k gv gm
