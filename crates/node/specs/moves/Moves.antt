-- A join moved to other areas (SCOPE 5.14 to 5.16): what the call answers, and the join and the words that it leaves. Assumes nothing.
use Rattle.frames.specs.declared.refusals.Refusal.{Refusal}
use Rattle.std.specs.Prelude.{◌≡◌, Bool, false, ◌||◌, [], ◌∷◌, ◌*◌, ltb, length, Result, Ok, Err}
use Rattle.frames.specs.Cells.{Words}
use Rattle.buffer.specs.area.Area.{capacity, written}
use Rattle.node.specs.State.{queue_at, held_at, right_width, bad_join, held_of, waiting, held_values, held_marks}
use Rattle.node.specs.Calls.{After, after}
use Rattle.node.specs.declared.Join.{Join}
use Rattle.node.specs.declared.TookJoin.{TookJoin}
use Rattle.frames.specs.refusals.Tests.{test, first_of}
use Rattle.frames.specs.declared.refusals.Refusal.TheVariants.{BadJoin, NoRoom}

-- SCOPE 16, number 6: the new areas have no room for the words that wait, or for the rows that are held.
abbrev pub no_room_in : Join → Words → Words → Bool
no_room_in j new_left new_right = ltb (length new_left) j.queue_words || ltb (capacity (right_width j) new_right) j.held

-- SCOPE 16.3: its tests in checking order. Whether the join has failed or ended is not asked.
unfoldable pub move_answer : Join → Words → Words → Words → Words → Result Unit Refusal
move_answer j left right new_left new_right =
    first_of (test (bad_join j left right) (Err BadJoin) ∷ test (no_room_in j new_left new_right) (Err NoRoom) ∷ []) (Ok tt)

-- The join with what waits and what is held at the front of its areas.
abbrev pub at_front : Join → Join
at_front j = queue_at (held_at j 0 j.held j.pruned) 0 j.queue_words

-- SCOPE 5.15: the new left area has the words that wait at its front; its other words are as they were.
unfoldable pub left_moved : Join → Words → Words → Words
left_moved j left new_left = written (waiting j left) 0 new_left

-- The new right area has the held values at its front and the held marks from word R × c on, R being its own; its other words are as they were.
unfoldable pub right_moved : Join → Words → Words → Words
right_moved j right new_right = written (held_marks j right) (capacity (right_width j) new_right * right_width j) (written (held_values j right) 0 new_right)

-- A move: refused, it changes nothing. The areas that it leaves are the new ones; the old ones are only read.
unfoldable pub move_call : Join → Words → Words → Words → Words → After (Result Unit Refusal)
move_call j left right new_left new_right =
    elim (move_answer j left right new_left new_right) [
      | Ok tt ↦ after (Ok tt) (at_front j) (left_moved j left new_left) (right_moved j right new_right) []
      | Err n ↦ after (Err n) j new_left new_right []
    ]

-- What the call leaves: the answer, the join handed back, and the new areas' words as they are afterwards.
pub record MoveContract (j : Join) (left right new_left new_right : Words) (r : TookJoin) (left' right' : Words) : Type 0 where
  pub answer : r.answer ≡ (move_call j left right new_left new_right).answer
  pub join : r.join ≡ (move_call j left right new_left new_right).join
  pub left_words : left' ≡ (move_call j left right new_left new_right).left
  pub right_words : right' ≡ (move_call j left right new_left new_right).right

-- SCOPE 5.16: what an accepted move leaves: the same words wait, the same rows are held, in words and as rows; the join is as it was but for queue start and base,
-- which are 0; it fits its new areas (it does not meet refusal 2), and these are as long as they were.
pub record MovedSame (j : Join) (left right new_left new_right : Words) : Type 0 where
  pub join : (move_call j left right new_left new_right).join ≡ at_front j
  pub waits : waiting (at_front j) (move_call j left right new_left new_right).left ≡ waiting j left
  pub values : held_values (at_front j) (move_call j left right new_left new_right).right ≡ held_values j right
  pub marks : held_marks (at_front j) (move_call j left right new_left new_right).right ≡ held_marks j right
  pub rows : held_of (at_front j) (move_call j left right new_left new_right).right ≡ held_of j right
  pub fits : bad_join (at_front j) (move_call j left right new_left new_right).left (move_call j left right new_left new_right).right ≡ false
  pub left_length : length (move_call j left right new_left new_right).left ≡ length new_left
  pub right_length : length (move_call j left right new_left new_right).right ≡ length new_right

-- Of any join, good or bad, any areas and any new areas.
abbrev pub Moved : Type 0
Moved = (j : Join) (left right new_left new_right : Words) → (move_call j left right new_left new_right).answer ≡ Ok tt → MovedSame j left right new_left new_right
