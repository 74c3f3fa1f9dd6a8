-- The calls: what each answers, and the join and the words that it leaves. Assumes nothing.
use Rattle.frames.specs.declared.outcomes.Turn.TheVariants.{Wrote, WantsRight, Idle}
use Rattle.frames.specs.declared.outcomes.Turn.{Turn}
use Rattle.std.specs.Prelude.{cond, not, [], ◌∷◌, ◌++◌, ℕ, ◌+◌, ◌-◌, length, drop, take, Result, Ok, Err}
use Rattle.frames.specs.Cells.{Words}
use Rattle.frames.specs.Frame.{row_count, is_frame, frame_rows, front}
use Rattle.order.specs.Listed.{lacks_code}
use Rattle.buffer.specs.area.Area.{capacity, new_base, pushed, moved, written}
use Rattle.searching.specs.Reach.{prune_by}
use Rattle.matching.specs.Answer.{frame_answer, answered}
use Rattle.callrules.specs.ports.Ports.{to_flush, to_done, ports_judged}
use Rattle.matchframe.specs.turnrows.Prunes.{bad_left, bad_right, first_prune, remembered, remembered_left}
use Rattle.node.specs.State.{queue_at, held_at, state_at, ended_right, marked_failed, next_turn, left_width, right_width, bad_join, held_of, waiting}
use Rattle.node.specs.declared.Join.{Join}
use Rattle.frames.specs.declared.outcomes.NodeState.{NodeState}
use Rattle.frames.specs.declared.outcomes.PortState.{PortState}
use Rattle.frames.specs.refusals.Refusals.{marks_failed}
use Rattle.frames.specs.refusals.Tests.{test, first_of}
use Rattle.callrules.specs.Judged.{left_judged, end_judged, right_judged, ready_tests}
use Rattle.node.specs.turnparts.Part.{room_tests, order_tests}
use Rattle.frames.specs.declared.refusals.Refusal.{Refusal}
use Rattle.frames.specs.declared.refusals.Refusal.TheVariants.{BadFrame, UnknownCode}
use Rattle.frames.specs.declared.outcomes.Ports.{Ports}

-- What a call leaves: its answer, the join handed back, and the words of the two areas and of the output (of a call that is lent one).
pub record After (A : Type 0) : Type 0 where
  pub answer : A
  pub join : Join
  pub left : Words
  pub right : Words
  pub out : Words

-- From its parts.
abbrev pub after : {A : Type 0} → A → Join → Words → Words → Words → After A
after a j l r out = record { answer = a; join = j; left = l; right = r; out = out }

-- ---- a left frame
-- SCOPE 16.3: its tests are those of a left frame, by the numbers of the join.
abbrev pub left_answer : Join → Words → Words → Words → Result Unit Refusal
left_answer j left right f = left_judged (bad_join j left right) j.failed j.state j.options j.queue_words left f

-- SCOPE 5.8, 5.9: an accepted left frame.
unfoldable pub queued : Join → Words → Words → Words → After (Result Unit Refusal)
queued j left right f =
    let start = new_base j.queue_start j.queue_words (length f) (length left) in
    after (Ok tt) (queue_at j start (j.queue_words + length f))
    (written f (start + j.queue_words) (moved j.queue_start start j.queue_words left)) right []

-- A left call: refused, it changes nothing.
unfoldable pub left_call : Join → Words → Words → Words → After (Result Unit Refusal)
left_call j left right f =
    elim (left_answer j left right f) [
      | Ok tt ↦ queued j left right f
      | Err n ↦ after (Err n) j left right []
    ]

-- ---- a right frame
-- SCOPE 16.3: its tests are those of a right frame.
abbrev pub right_answer : Join → Words → Words → Words → Result Unit Refusal
right_answer j left right f = right_judged (bad_join j left right) j.failed j.right_ended j.state j.options j.held j.pruned right f

-- SCOPE 5.8, 5.9: an accepted right frame.
unfoldable pub pushed_right : Join → Words → Words → Words → After (Result Unit Refusal)
pushed_right j left right f =
    let base = new_base j.base j.held (row_count f) (capacity (right_width j) right) in
    after (Ok tt) (held_at j base (j.held + row_count f) j.pruned) left (pushed (right_width j) j.base j.held f right) []

-- A right call: refused, it changes nothing.
unfoldable pub right_call : Join → Words → Words → Words → After (Result Unit Refusal)
right_call j left right f =
    elim (right_answer j left right f) [
      | Ok tt ↦ pushed_right j left right f
      | Err n ↦ after (Err n) j left right []
    ]

-- ---- the end of right
-- SCOPE 16.3: its tests are those of an end of right.
abbrev pub end_answer : Join → Words → Words → Result Unit Refusal
end_answer j left right = end_judged (bad_join j left right) j.failed j.right_ended j.state

-- An end-of-right call: refused, it changes nothing.
unfoldable pub end_call : Join → Words → Words → After (Result Unit Refusal)
end_call j left right =
    elim (end_answer j left right) [
      | Ok tt ↦ after (Ok tt) (ended_right j) left right []
      | Err n ↦ after (Err n) j left right []
    ]

-- ---- ports
-- The node's state after a port call.
abbrev pub ports_state : Join → PortState → PortState → NodeState
ports_state j l s = to_done (to_flush j.state l s) j.queue_words

-- Refusals: 2, 3.
abbrev pub ports_answer : Join → Words → Words → PortState → PortState → PortState → Result Ports Refusal
ports_answer j left right l r s = ports_judged (bad_join j left right) j.failed j.state l r s j.queue_words

-- A port call: refused, it changes nothing.
unfoldable pub ports_call : Join → Words → Words → PortState → PortState → PortState → After (Result Ports Refusal)
ports_call j left right l r s =
    elim (ports_answer j left right l r s) [
      | Ok p ↦ after (Ok p) (state_at j (ports_state j l s)) left right []
      | Err n ↦ after (Err n) j left right []
    ]

-- ---- a turn
-- SCOPE 16.3: the tests of a turn in checking order, Idle and Wants right at their places. Past all of them the answer is Wrote, with the sequence from before the turn.
unfoldable pub turn_answer : Join → Words → Words → Words → Result Turn Refusal
turn_answer j left right out =
    let f = front (left_width j) (waiting j left) in
    let rows = frame_rows (left_width j) f in
    let held = held_of j right in
    first_of (
    ready_tests (bad_join j left right) j.failed j.state j.queue_words
    ++ test (not (is_frame (left_width j) f)) (Err BadFrame)
    ∷ test (lacks_code j.options rows) (Err UnknownCode)
    ∷ room_tests j.options j.right_ended j.sequence rows held (length out)
    ++ order_tests (bad_left j.options j.last_left rows) (bad_right j.options j.last_right rows held)
    )
    (Ok (Wrote j.sequence))

-- SCOPE 5.10: the join without its first n held rows.
unfoldable pub dropped : Join → ℕ → Join
dropped j n = held_at j (j.base + n) (j.held - n) (j.pruned + n)

-- SCOPE 5.10: the join without the first n waiting words.
unfoldable pub dequeued : Join → ℕ → Join
dequeued j n = queue_at j (j.queue_start + n) (j.queue_words - n)

-- SCOPE 12.4, 12.5: a turn that writes.
unfoldable pub turned : Join → Words → Words → Words → After (Result Turn Refusal)
turned j left right out =
    let f = front (left_width j) (waiting j left) in
    let rows = frame_rows (left_width j) f in
    let held = held_of j right in
    let first = first_prune j.options rows held in
    let kept = drop first held in
    let last = prune_by j.options (length rows - 1) rows kept in
    after (Ok (Wrote j.sequence))
    (next_turn (dequeued (dropped j (first + last)) (length f)) (remembered_left j.options j.last_left rows) (remembered j.options j.last_right (take last kept)))
    left right (answered j.options (frame_answer j.options (j.pruned + first) kept rows) out)

-- SCOPE 16.2: what a refusal changes in the join.
abbrev pub spoiled : Refusal → Join → Join
spoiled n j = cond (marks_failed n) (marked_failed j) j

-- SCOPE 12.2, 12.3: a turn.
unfoldable pub turn_call : Join → Words → Words → Words → After (Result Turn Refusal)
turn_call j left right out =
    elim (turn_answer j left right out) [
      | Ok (Wrote s) ↦ turned j left right out
      | Ok WantsRight ↦ after (Ok WantsRight) j left right out
      | Ok Idle ↦ after (Ok Idle) j left right out
      | Err n ↦ after (Err n) (spoiled n j) left right out
    ]
