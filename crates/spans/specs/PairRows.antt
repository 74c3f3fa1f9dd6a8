-- The pairs of points and intervals by their rows, as an answer and the words of the output. Assumes nothing.
use Rattle.frames.specs.declared.refusals.Refusal.{Refusal}
use Rattle.std.specs.Prelude.{◌≡◌, cond, not, ℕ, ltb, length, Result, Ok, Err}
use Rattle.frames.specs.Cells.{Rows, Words, rows_of}
use Rattle.frames.specs.Frame.{frame_words}
use Rattle.tables.specs.Table.{leave}
use Rattle.frames.specs.declared.refusals.Refusal.TheVariants.{BadPoints, NoRoom}
use Rattle.spans.specs.Span.{pairs, ascending_points}
use Rattle.spans.specs.declared.Bounds.{Bounds}

-- Refusals 16 and 6.
unfoldable pub cover_answer : Bounds → Rows → Rows → Words → Result ℕ Refusal
cover_answer b points intervals out =
    cond (not (ascending_points points)) (Err BadPoints)
    (cond (ltb (length out) (frame_words (length (pairs b points intervals)) 2)) (Err NoRoom)
    (Ok (length (pairs b points intervals))))

-- What the part behind the frame rule leaves: n points and m intervals by their values and marks.
pub record CoverContract (b : Bounds) (n : ℕ) (pv pm : Words) (m : ℕ) (iv im out : Words) (r : Result ℕ Refusal) (out' : Words) : Type 0 where
  pub answer : r ≡ cover_answer b (rows_of 1 n pv pm) (rows_of 2 m iv im) out
  pub words : out' ≡ (leave 2 (pairs b (rows_of 1 n pv pm) (rows_of 2 m iv im)) (cover_answer b (rows_of 1 n pv pm) (rows_of 2 m iv im) out) out).out
