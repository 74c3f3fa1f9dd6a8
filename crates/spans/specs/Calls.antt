-- The call over points and intervals: what it answers, and the words of its output. Assumes nothing.
use Rattle.frames.specs.declared.refusals.Refusal.{Refusal}
use Rattle.std.specs.Prelude.{◌≡◌, cond, not, ◌&&◌, ltb, length, Result, Ok, Err, ℕ}
use Rattle.frames.specs.Cells.{Rows, Words}
use Rattle.frames.specs.Frame.{is_frame, frame_rows, frame_words}
use Rattle.tables.specs.Table.{After, leave}
use Rattle.frames.specs.declared.refusals.Refusal.TheVariants.{BadFrame, BadPoints, NoRoom}
use Rattle.spans.specs.Span.{pairs, ascending_points}
use Rattle.spans.specs.declared.Bounds.{Bounds}

-- The pairs of two frames: points of one column, intervals of two.
unfoldable pub pairs_in : Bounds → Words → Words → Rows
pairs_in b points intervals = pairs b (frame_rows 1 points) (frame_rows 2 intervals)

-- The refusals in their order: 5 where one of the two is no frame of its column count; 16 where a point is null or greater than the next; 6 where the output has
-- fewer words than the table of the pairs. Else the number of pairs.
unfoldable pub span_answer : Bounds → Words → Words → Words → Result ℕ Refusal
span_answer b points intervals out =
    cond (not (is_frame 1 points && is_frame 2 intervals)) (Err BadFrame)
    (cond (not (ascending_points (frame_rows 1 points))) (Err BadPoints)
    (cond (ltb (length out) (frame_words (length (pairs_in b points intervals)) 2)) (Err NoRoom)
    (Ok (length (pairs_in b points intervals)))))

-- With the words of the output: the pairs as a table of two columns at its front, or every word as it was.
unfoldable pub span_call : Bounds → Words → Words → Words → After
span_call b points intervals out = leave 2 (pairs_in b points intervals) (span_answer b points intervals out) out

-- The contract of the call: its answer, and the words of the output afterwards.
pub record SpanContract (b : Bounds) (points intervals out : Words) (r : Result ℕ Refusal) (out' : Words) : Type 0 where
  pub answer : r ≡ (span_call b points intervals out).answer
  pub words : out' ≡ (span_call b points intervals out).out
