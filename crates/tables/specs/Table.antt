-- A table's words from its rows, and what a call over tables leaves. Assumes nothing.
use Rattle.frames.specs.declared.refusals.Refusal.{Refusal}
use Rattle.std.specs.Prelude.{[], ◌∷◌, ◌++◌, map, ℕ, ℤ, pos, length, Result, Ok, Err}
use Rattle.std.proofs.Math.Seq.{paste}
use Rattle.frames.specs.Cells.{Cell, value_word, mark_word, Rows, Words}
use Rattle.frames.specs.Frame.{frame_rows}

-- The rows of a table of c columns: those of a frame, however many.
abbrev pub table_rows : ℕ → Words → Rows
table_rows c f = frame_rows c f

-- The words of rows, one behind the other: their values, or their marks.
unfoldable pub words_of : (Cell → ℤ) → Rows → Words
words_of word [] = []
words_of word (r ∷ rs) = map word r ++ words_of word rs

-- The words of a table of c columns.
unfoldable pub table_of : ℕ → Rows → Words
table_of c rs = pos (length rs) ∷ pos c ∷ words_of value_word rs ++ words_of mark_word rs

-- A table is written at the front of the output; the words behind it are as they were.
unfoldable pub laid : Words → Words → Words
laid ws out = paste out 0 ws (length ws)

-- What a call leaves: its answer, and the words of the output.
pub record After : Type 0 where
  pub answer : Result ℕ Refusal
  pub out : Words

-- A refused call alters no word of the output; else a table of c columns is written at its front.
abbrev pub leave : ℕ → Rows → Result ℕ Refusal → Words → After
leave c rows (Ok n) out = record { answer = Ok n; out = laid (table_of c rows) out }
leave c rows (Err r) out = record { answer = Err r; out = out }
