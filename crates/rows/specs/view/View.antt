-- SCOPE 2.7: the frame view, and what its reader returns. Assumes nothing.
use Rattle.std.specs.Prelude.{◌≡◌, ℕ, ◌+◌, ◌*◌, ◌<◌, true, cond, ◌&&◌, [], length, ℤ, pos, nat_lt, slice_index_or}
use Rattle.frames.specs.Cells.{Cell, null, value, cell, Rows, Words}
use Rattle.frames.specs.Frame.{is_frame, row_count, values_in, marks_in, frame_rows}
use Rattle.rows.specs.declared.view.Found.{Found}
use Rattle.rows.specs.declared.view.Found.TheVariants.{Value, Null, Nothing}

-- The counts that a view keeps are those of its words, which are a frame.
pub record Viewed (f : Words) (rows columns : ℕ) : Type 0 where
  pub framed : is_frame columns f ≡ true
  pub counted : rows ≡ row_count f

-- The cell in this row and column is one of the frame's.
pub record Inside (f : Words) (rows columns row column : ℕ) : Type 0 where
  pub viewed : Viewed f rows columns
  pub among_rows : row < rows
  pub among_columns : column < columns

-- A frame's values stand row by row: that of a cell, by its row and column.
unfoldable pub value_at : ℕ → Words → ℕ → ℕ → ℤ
value_at c f row column = slice_index_or (values_in c f) (row * c + column) (pos 0)

-- So do its marks.
unfoldable pub mark_at : ℕ → Words → ℕ → ℕ → ℤ
mark_at c f row column = slice_index_or (marks_in c f) (row * c + column) (pos 0)

-- A cell, as a reader is told it.
abbrev pub told : Cell → Found
told null = Null
told (value v) = Value v

-- The cell of rows in this row and column; nothing past the last row or the row's last cell.
unfoldable pub found_in : Rows → ℕ → ℕ → Found
found_in rs row column = cond (nat_lt row (length rs) && nat_lt column (length (slice_index_or rs row []))) (told (cell column (slice_index_or rs row []))) Nothing

-- The same of any words: nothing where they are no frame of c columns.
unfoldable pub found_at : ℕ → Words → ℕ → ℕ → Found
found_at c f row column = cond (is_frame c f) (found_in (frame_rows c f) row column) Nothing
