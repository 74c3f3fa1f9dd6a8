-- What a host can lean on, told of the call. Assumes nothing.
use Rattle.std.specs.Prelude.{◌≡◌, true, ℕ, ◌*◌, ◌≤◌, length, take, drop, Ok, Err}
use Rattle.frames.specs.Cells.{Words}
use Rattle.frames.specs.Frame.{is_frame, row_count, frame_words, is_table}
use Rattle.tables.specs.Table.{table_rows}
use Rattle.frames.specs.declared.refusals.Refusal.{Refusal}
use Rattle.frames.specs.declared.refusals.Refusal.TheVariants.{NoRoom}
use Rattle.spans.specs.Calls.{pairs_in, span_call}
use Rattle.spans.specs.declared.Bounds.{Bounds}

-- The first 2 + 4k words of an output are a table of two columns whose rows are the k pairs, and the words behind them are as they were.
pub record Listed (b : Bounds) (points intervals out : Words) (k : ℕ) (out' : Words) : Type 0 where
  pub table : is_table 2 (take (frame_words k 2) out') ≡ true
  pub rows : table_rows 2 (take (frame_words k 2) out') ≡ pairs_in b points intervals
  pub rest : drop (frame_words k 2) out' ≡ drop (frame_words k 2) out

-- A refused call alters no word; a call that is not refused lists the pairs; and an output with room for every point beside every interval is never too short.
pub record Promises (b : Bounds) (points intervals out : Words) : Type 0 where
  pub kept : (n : Refusal) → (span_call b points intervals out).answer ≡ Err n → (span_call b points intervals out).out ≡ out
  pub listed : (k : ℕ) → (span_call b points intervals out).answer ≡ Ok k → Listed b points intervals out k (span_call b points intervals out).out
  pub enough : is_frame 1 points ≡ true → is_frame 2 intervals ≡ true → frame_words (row_count intervals * row_count points) 2 ≤ length out
      → (span_call b points intervals out).answer ≡ Err NoRoom → ⊥
