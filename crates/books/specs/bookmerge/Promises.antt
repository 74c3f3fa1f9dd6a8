-- What a host can lean on, told of the merge. Assumes nothing.
use Rattle.std.specs.Prelude.{◌≡◌, true, ℕ, ◌+◌, ◌≤◌, length, take, drop, Ok, Err}
use Rattle.frames.specs.Cells.{Words}
use Rattle.frames.specs.Frame.{row_count, frame_words}
use Rattle.order.specs.options.Options.{right_columns}
use Rattle.order.specs.declared.options.Options.{Options}
use Rattle.order.specs.Order.{sorted}
use Rattle.books.specs.Merge.{Merged}
use Rattle.books.specs.Calls.{is_book, rows_in, merge_call}
use Rattle.frames.specs.declared.refusals.Refusal.{Refusal}
use Rattle.frames.specs.declared.refusals.Refusal.TheVariants.{NoRoom}

-- The first words of an output are a book of k rows: the merge of both books' rows, sorted; and the words behind them are as they were. So it can be handed on.
pub record MergedBook (o : Options) (house festival out : Words) (k : ℕ) (out' : Words) : Type 0 where
  pub book : is_book o (take (frame_words k (right_columns o)) out') ≡ true
  pub rows : Merged o (rows_in o house) (rows_in o festival) (rows_in o (take (frame_words k (right_columns o)) out'))
  pub in_order : sorted o (rows_in o (take (frame_words k (right_columns o)) out')) ≡ true
  pub rest : drop (frame_words k (right_columns o)) out' ≡ drop (frame_words k (right_columns o)) out

-- A refused call alters no word; a call that is not refused writes the merged book, of as many rows as both have; and an output with room for so many is never too short.
pub record Promises (o : Options) (house festival out : Words) : Type 0 where
  pub kept : (n : Refusal) → (merge_call o house festival out).answer ≡ Err n → (merge_call o house festival out).out ≡ out
  pub merged : (k : ℕ) → (merge_call o house festival out).answer ≡ Ok k → MergedBook o house festival out k (merge_call o house festival out).out
  pub counted : (k : ℕ) → (merge_call o house festival out).answer ≡ Ok k → k ≡ row_count house + row_count festival
  pub enough : frame_words (row_count house + row_count festival) (right_columns o) ≤ length out → (merge_call o house festival out).answer ≡ Err NoRoom → ⊥
