-- What the readers promise: a view reads as the reader does, and the two readers agree. The statements; their proofs are in proofs/. Assumes nothing.
use Rattle.std.specs.Prelude.{◌≡◌, Bool, true, cond, ℕ, suc, ◌<◌, ltb, Result, Err, Ok}
use Rattle.frames.specs.Cells.{Words}
use Rattle.frames.specs.Frame.{is_frame}
use Rattle.frames.specs.declared.refusals.Refusal.{Refusal}
use Rattle.frames.specs.declared.refusals.Refusal.TheVariants.{TooManyCarried, BadColumns}
use Rattle.readers.specs.declared.View.{View}
use Rattle.readers.specs.Reader.{view_of}
use Rattle.readers.specs.declared.CellWords.{CellWords}
use Rattle.readers.specs.Reader.{words_shown}
use Rattle.readers.specs.Reader.{view_by, read_by, read_plain, read_distance, without_last}
use Rattle.readers.specs.Places.{shown_at}

-- Two words as a reader shows them.
abbrev pub pair_of : CellWords → Result CellWords Refusal
pair_of w = Ok (words_shown w.value w.mark)

-- SCOPE 19.21: a view asks the rules once for all places: where it tells n rows and c columns, each place read by these is what the reader shows of it, inside and outside; where it refuses, the reader refuses every place alike.
pub record ViewReads (knows : ℕ → ℕ → Bool) (p : ℕ) (f : Words) : Type 0 where
  pub reads : (n c : ℕ) → view_by knows p f ≡ Ok (view_of n c) → (row column : ℕ) → read_by knows p f row column ≡ pair_of (shown_at n c f row column)
  pub refuses : (r : Refusal) → view_by knows p f ≡ Err r → (row column : ℕ) → read_by knows p f row column ≡ Err r

-- For every reader, p and words.
abbrev pub ViewsRead : Type 0
ViewsRead = (knows : ℕ → ℕ → Bool) (p : ℕ) (f : Words) → ViewReads knows p f

-- SCOPE 19.20: on a frame of 1 + p columns the two readers agree everywhere; on one of 2 + p columns the distance reader shows, for the shared columns, what the plain one shows on the frame without the last, and the plain reader refuses every place of it, by 13 unless p is above 8.
pub record Agree (p : ℕ) (f : Words) (row column : ℕ) : Type 0 where
  pub alike : is_frame (suc p) f ≡ true → read_distance p f row column ≡ read_plain p f row column
  pub shared : is_frame (suc (suc p)) f ≡ true → column < suc p → read_distance p f row column ≡ read_plain p (without_last (suc p) f) row column
  pub refused : is_frame (suc (suc p)) f ≡ true → read_plain p f row column ≡ cond (ltb 8 p) (Err TooManyCarried) (Err BadColumns)

-- For every p, all words and every place.
abbrev pub Agreement : Type 0
Agreement = (p : ℕ) (f : Words) (row column : ℕ) → Agree p f row column
