-- What a host can lean on, told of the call. Assumes nothing.
use Rattle.std.specs.Prelude.{◌≡◌, true, ℕ, ◌≤◌, length, take, drop, Ok, Err}
use Rattle.frames.specs.Cells.{Words}
use Rattle.frames.specs.Frame.{row_count, frame_words, is_table}
use Rattle.order.specs.declared.options.Options.{Options}
use Rattle.tables.specs.Table.{table_rows}
use Rattle.books.specs.Standing.{notices}
use Rattle.books.specs.Calls.{rows_in, stand_call}
use Rattle.frames.specs.declared.refusals.Refusal.{Refusal}
use Rattle.frames.specs.declared.refusals.Refusal.TheVariants.{NoRoom}

-- The first 2 + 4k words of an output are a table of two columns with a notice for each row of the book, and the words behind them are as they were.
pub record Listed (o : Options) (q : ℕ) (book out : Words) (k : ℕ) (out' : Words) : Type 0 where
  pub table : is_table 2 (take (frame_words k 2) out') ≡ true
  pub rows : table_rows 2 (take (frame_words k 2) out') ≡ notices o q 0 (rows_in o book)
  pub rest : drop (frame_words k 2) out' ≡ drop (frame_words k 2) out

-- A refused call alters no word; a call that is not refused lists the notices, as many as the book has rows; and an output with room for so many is never too short.
pub record Promises (o : Options) (q : ℕ) (book out : Words) : Type 0 where
  pub kept : (n : Refusal) → (stand_call o q book out).answer ≡ Err n → (stand_call o q book out).out ≡ out
  pub listed : (k : ℕ) → (stand_call o q book out).answer ≡ Ok k → Listed o q book out k (stand_call o q book out).out
  pub counted : (k : ℕ) → (stand_call o q book out).answer ≡ Ok k → k ≡ row_count book
  pub enough : frame_words (row_count book) 2 ≤ length out → (stand_call o q book out).answer ≡ Err NoRoom → ⊥
