-- The two answer readers, for any words. Assumes nothing.
use Rattle.frames.specs.declared.refusals.Refusal.{Refusal}
use Rattle.std.specs.Prelude.{Bool, true, false, not, ◌||◌, [], ◌∷◌, map, ℕ, suc, ltb, eqb, ℤ, pos, nat_abs, get_or, take, Result, Err, Ok}
use Rattle.frames.specs.Cells.{Cell, cell, value_word, mark_word, Rows, Words}
use Rattle.frames.specs.Frame.{row_count, is_frame, frame_rows}
use Rattle.tables.specs.Table.{table_of}
use Rattle.frames.specs.refusals.Tests.{test, first_of}
use Rattle.frames.specs.declared.refusals.Refusal.TheVariants.{BadFrame, TooManyCarried, BadColumns}
use Rattle.readers.specs.declared.View.{View}
use Rattle.readers.specs.declared.CellWords.{CellWords}

-- SCOPE 2.1: the column count that words tell.
abbrev pub column_count : Words → ℕ
column_count f = nat_abs (get_or f 1 (pos 0))

-- SCOPE 19.18: 5 is here the frame rule alone: the words are a frame of as many columns as they tell.
unfoldable pub framed : Words → Bool
framed f = is_frame (column_count f) f

-- ---- the column counts that a reader knows
-- SCOPE 19.17: a plain reader knows frames of 1 + p columns.
unfoldable pub plain_knows : ℕ → ℕ → Bool
plain_knows p c = eqb c (suc p)

-- SCOPE 19.17: a distance reader knows 2 + p as well.
unfoldable pub distance_knows : ℕ → ℕ → Bool
distance_knows p c = eqb c (suc p) || eqb c (suc (suc p))

-- Either reader's, by whether it is the distance reader.
abbrev pub known_by : Bool → (ℕ → ℕ → Bool)
known_by true = distance_knows
known_by false = plain_knows

-- ---- a view: the rules, asked once
-- What a view tells of a frame: its rows and its columns.
abbrev pub view_of : ℕ → ℕ → View
view_of n c = record { rows = n; columns = c }

-- SCOPE 19.18, 19.21: a reader is given the p of the join that wrote the frame. Above 8 it is refused by 10, before a word is looked at; then by 5 the words that are no frame, and by 13 a column count that the reader does not know.
unfoldable pub view_by : (ℕ → ℕ → Bool) → ℕ → Words → Result View Refusal
view_by knows p f =
    first_of (test (ltb 8 p) (Err TooManyCarried) ∷ test (not (framed f)) (Err BadFrame) ∷ test (not (knows p (column_count f))) (Err BadColumns) ∷ [])
    (Ok (view_of (row_count f) (column_count f)))

abbrev pub view_plain : ℕ → Words → Result View Refusal
view_plain p f = view_by plain_knows p f

abbrev pub view_distance : ℕ → Words → Result View Refusal
view_distance p f = view_by distance_knows p f

-- ---- what a reader shows of a place
-- SCOPE 19.19: the cell in this row and column; a place outside the frame reads as null.
abbrev pub cell_in : Rows → ℕ → ℕ → Cell
cell_in rs row column = cell column (get_or rs row [])

-- The value and the mark of a cell.
abbrev pub words_shown : ℤ → ℤ → CellWords
words_shown v m = record { value = v; mark = m }

abbrev pub shown : Cell → Result CellWords Refusal
shown x = Ok (words_shown (value_word x) (mark_word x))

-- By what the view tells: of a frame the cell, else the view's refusal.
abbrev pub read_in : Result View Refusal → Words → ℕ → ℕ → Result CellWords Refusal
read_in (Ok v) f row column = shown (cell_in (frame_rows v.columns f) row column)
read_in (Err r) f row column = Err r

unfoldable pub read_by : (ℕ → ℕ → Bool) → ℕ → Words → ℕ → ℕ → Result CellWords Refusal
read_by knows p f row column = read_in (view_by knows p f) f row column

-- The plain reader.
abbrev pub read_plain : ℕ → Words → ℕ → ℕ → Result CellWords Refusal
read_plain p f row column = read_by plain_knows p f row column

-- The distance reader.
abbrev pub read_distance : ℕ → Words → ℕ → ℕ → Result CellWords Refusal
read_distance p f row column = read_by distance_knows p f row column

-- ---- a frame of c + 1 columns without the last
unfoldable pub without_last : ℕ → Words → Words
without_last c f = table_of c (map (λ r. take c r) (frame_rows (suc c) f))
