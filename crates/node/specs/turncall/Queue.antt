-- A turn from its first test on, by the join without its state. Assumes nothing.
use Rattle.frames.specs.declared.outcomes.Turn.TheVariants.{Wrote, WantsRight, Idle}
use Rattle.std.specs.Prelude.{◌≡◌, Bool, cond, ◌+◌, ◌%◌, ◌≤◌, length, take, drop, Option, Some, None, Ok, Err, ℕ}
use Rattle.frames.specs.Cells.{Words}
use Rattle.frames.specs.Frame.{frame_rows}
use Rattle.frames.specs.Front.{front_of}
use Rattle.order.specs.declared.options.Options.{Options}
use Rattle.order.specs.options.Options.{columns, right_columns, Few}
use Rattle.order.specs.Listed.{lacks_code}
use Rattle.buffer.specs.area.Area.{capacity, held_rows}
use Rattle.frames.specs.outcomes.Answers.{most_rows}
use Rattle.frames.specs.declared.outcomes.NodeState.{NodeState}
use Rattle.frames.specs.declared.refusals.Refusal.TheVariants.{BadFrame, UnknownCode}
use Rattle.callrules.specs.Judged.{ready_judged}
use Rattle.node.specs.declared.turnparts.Part.{Part}
use Rattle.node.specs.turnfront.Turns.{Left, left, rows_turn}
use Rattle.node.specs.declared.turnfront.TurnedPart.{TurnedPart}

-- The words that wait.
abbrev pub waiting_in : Part → Words → Words
waiting_in j area = take j.queue_words (drop j.queue_start area)

-- Over the frame at the front: a value that the list of ranks lacks is 12.
unfoldable pub listed_turn : Options → Part → Words → Words → Words → Left
listed_turn o j f right out =
    let rows = frame_rows (columns o) f in
    cond (lacks_code o rows) (left (Err UnknownCode) j out)
    (rows_turn o j rows (held_rows (right_columns o) j.base j.held right) (length f) out)

-- With the front of so many words, or with none: a front that is no frame is 5.
unfoldable pub front_turn : Options → Part → Option ℕ → Words → Words → Words → Left
front_turn o j None area right out = left (Err BadFrame) j out
front_turn o j (Some k) area right out = listed_turn o j (take k (drop j.queue_start area)) right out

-- All of it: 2, 3, in Done 4, Idle, or the front's turn.
unfoldable pub queue_turn : Options → Bool → NodeState → Part → Words → Words → Words → Left
queue_turn o bad state j area right out =
    elim (ready_judged bad j.failed state j.queue_words j.sequence) [
      | Ok (Wrote s) ↦ front_turn o j (front_of (columns o) (waiting_in j area)) area right out
      | Ok WantsRight ↦ left (Ok WantsRight) j out
      | Ok Idle ↦ left (Ok Idle) j out
      | Err n ↦ left (Err n) j out
    ]

pub record ListedTurned (o : Options) (j : Part) (f right out : Words) (r : TurnedPart) (out' : Words) : Type 0 where
  pub answer : r.answer ≡ (listed_turn o j f right out).answer
  pub part : r.part ≡ (listed_turn o j f right out).part
  pub words : out' ≡ (listed_turn o j f right out).out

pub record QueueTurned (o : Options) (bad : Bool) (state : NodeState) (j : Part) (area right out : Words) (r : TurnedPart) (out' : Words) : Type 0 where
  pub answer : r.answer ≡ (queue_turn o bad state j area right out).answer
  pub part : r.part ≡ (queue_turn o bad state j area right out).part
  pub words : out' ≡ (queue_turn o bad state j area right out).out

-- What a join that is not bad has: options by which rows compare, the held rows and the waiting words are there, its counters hold together.
pub record QueueIn (o : Options) (j : Part) (area right : Words) : Type 0 where
  pub few : Few o
  pub carried : o.carried ≤ 8
  pub right_room : j.base + j.held ≤ capacity (right_columns o) right
  pub left_room : j.queue_start + j.queue_words ≤ length area
  pub rows : j.pruned + j.held ≤ most_rows
  pub even : j.sequence % 2 ≡ 0
