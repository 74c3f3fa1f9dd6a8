-- A turn by the rows of the frame at the front and the held rows. Assumes nothing.
use Rattle.frames.specs.declared.outcomes.Turn.TheVariants.{Wrote, WantsRight, Idle}
use Rattle.frames.specs.declared.outcomes.Turn.{Turn}
use Rattle.std.specs.Prelude.{◌≡◌, true, cond, ℕ, ◌+◌, ◌≤◌, length, Result, Ok, Err}
use Rattle.frames.specs.Cells.{Rows, Words}
use Rattle.frames.specs.Frame.{is_frame}
use Rattle.order.specs.declared.options.Options.{Options}
use Rattle.order.specs.options.Options.{columns, right_columns, Few}
use Rattle.buffer.specs.area.Area.{capacity}
use Rattle.matching.specs.Answer.{frame_answer, answered}
use Rattle.frames.specs.refusals.Refusals.{marks_failed}
use Rattle.frames.specs.declared.refusals.Refusal.{Refusal}
use Rattle.matchframe.specs.turnrows.Prunes.{first_prune, kept_rows, last_prune}
use Rattle.node.specs.turnparts.Part.{room_answer, order_answer, left_part, failed_part, Counts}
use Rattle.node.specs.declared.turnparts.Part.{Part}
use Rattle.node.specs.declared.turnfront.TurnedPart.{TurnedPart}

-- Both answers in order; the split is that of the prune by the last row.
unfoldable pub rows_answer : Options → Part → Rows → Rows → ℕ → Result Turn Refusal
rows_answer o j rows held room =
    elim (room_answer o j rows held room) [
      | Ok (Wrote s) ↦ order_answer o j rows held (last_prune o rows held)
      | Ok WantsRight ↦ Ok WantsRight
      | Ok Idle ↦ Ok Idle
      | Err n ↦ Err n
    ]

-- Refusals 8 and 9 mark the join failed and change nothing else; the others change nothing.
abbrev pub spoiled_part : Refusal → Part → Part
spoiled_part n j = cond (marks_failed n) (failed_part j) j

-- What a turn leaves: its answer, its part of the join, and the output.
pub record Left : Type 0 where
  pub answer : Result Turn Refusal
  pub part : Part
  pub out : Words

abbrev pub left : Result Turn Refusal → Part → Words → Left
left a j out = record { answer = a; part = j; out = out }

-- All of it.
unfoldable pub rows_turn : Options → Part → Rows → Rows → ℕ → Words → Left
rows_turn o j rows held k out =
    let first = first_prune o rows held in
    let kept = kept_rows o rows held in
    elim (rows_answer o j rows held (length out)) [
      | Ok (Wrote s) ↦ left (Ok (Wrote j.sequence)) (left_part o j rows kept first (last_prune o rows held) k) (answered o (frame_answer o (j.pruned + first) kept rows) out)
      | Ok WantsRight ↦ left (Ok WantsRight) j out
      | Ok Idle ↦ left (Ok Idle) j out
      | Err n ↦ left (Err n) (spoiled_part n j) out
    ]

pub record RowsTurned (o : Options) (j : Part) (rows held : Rows) (k : ℕ) (out : Words) (r : TurnedPart) (out' : Words) : Type 0 where
  pub answer : r.answer ≡ (rows_turn o j rows held k out).answer
  pub part : r.part ≡ (rows_turn o j rows held k out).part
  pub words : out' ≡ (rows_turn o j rows held k out).out

-- The words are a frame, and wait; the held rows are there.
pub record FrameIn (o : Options) (j : Part) (f right : Words) : Type 0 where
  pub few : Few o
  pub carried : o.carried ≤ 8
  pub frame : is_frame (columns o) f ≡ true
  pub held : j.base + j.held ≤ capacity (right_columns o) right
  pub counts : Counts j (length f)
