-- Where the words of a cell stand, for any counts and any words. Assumes nothing.
use Rattle.std.specs.Prelude.{◌≡◌, true, cond, ◌&&◌, ℕ, ◌+◌, ◌*◌, ◌≤◌, ◌<◌, ltb, leb, pos, length, get_or}
use Rattle.std.specs.Int.Signed.{le_z}
use Rattle.frames.specs.Cells.{Words}
use Rattle.frames.specs.Frame.{frame_words}
use Rattle.readers.specs.declared.CellWords.{CellWords}

-- The second word is there and is not below 0.
pub record HasColumns (f : Words) : Type 0 where
  pub long : 2 ≤ length f
  pub counted : le_z (pos 0) (get_or f 1 (pos 0)) ≡ true

-- The place is one of a frame of so many rows and columns, and there are as many words as such a frame has.
pub record Place (rows columns : ℕ) (f : Words) (row column : ℕ) : Type 0 where
  pub among_rows : row < rows
  pub among_columns : column < columns
  pub long : frame_words rows columns ≤ length f

-- The value stands behind the first two words, row by row; the mark as far behind it as there are values.
abbrev pub place_words : ℕ → ℕ → Words → ℕ → ℕ → CellWords
place_words rows columns f row column =
    record { value = get_or f (2 + (row * columns + column)) (pos 0); mark = get_or f (2 + rows * columns + (row * columns + column)) (pos 0) }

-- A null's words.
abbrev pub null_words : CellWords
null_words = record { value = pos 0; mark = pos 0 }

-- SCOPE 19.21: a place outside the frame reads as null, and so does every place of words that are too short for such a frame.
unfoldable pub shown_at : ℕ → ℕ → Words → ℕ → ℕ → CellWords
shown_at rows columns f row column =
    cond (ltb row rows && (ltb column columns && leb (frame_words rows columns) (length f))) (place_words rows columns f row column) null_words
