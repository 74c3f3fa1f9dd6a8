-- What a turn works on, the join without its state: what the turn has and needs, what it writes and leaves. Assumes nothing.
use Rattle.frames.specs.declared.outcomes.Turn.TheVariants.{Wrote, WantsRight}
use Rattle.frames.specs.declared.outcomes.Turn.{Turn}
use Rattle.frames.specs.declared.refusals.Refusal.{Refusal}
use Rattle.std.specs.Prelude.{◌≡◌, Bool, not, ◌&&◌, true, List, [], ◌∷◌, ℕ, ◌+◌, ◌-◌, ◌%◌, ◌^◌, ◌≤◌, ◌<◌, ltb, eqb, length, take, Result, Ok, Err}
use Rattle.frames.specs.Cells.{Rows, Words}
use Rattle.frames.specs.Frame.{frame_words, frame_limit}
use Rattle.order.specs.options.Options.{columns, right_columns, answer_columns, is_on}
use Rattle.order.specs.Requires.{RowsIn}
use Rattle.order.specs.declared.options.Options.{Options}
use Rattle.order.specs.declared.Row.{Row}
use Rattle.searching.specs.Reach.{need_more}
use Rattle.matching.specs.Answer.{frame_answer, answered}
use Rattle.frames.specs.outcomes.Answers.{most_rows, last_sequence}
use Rattle.frames.specs.refusals.Tests.{Test, test, first_of}
use Rattle.frames.specs.declared.refusals.Refusal.TheVariants.{NoRoom, UsedUp, LeftOrder, RightOrder}
use Rattle.matchframe.specs.sortedrows.Requires.{BothSorted}
use Rattle.matchframe.specs.turnrows.Prunes.{bad_left, bad_right_at, remembered, remembered_left}
use Rattle.node.specs.declared.turnparts.Part.{Part}

-- ---- answers; Wrote is that of a turn that goes on
-- SCOPE 16.3, a turn from Wants right on: right rows, 6 and 7.
abbrev pub room_tests : Options → Bool → ℕ → Rows → Rows → ℕ → List (Test (Result Turn Refusal))
room_tests o ended sequence rows held room =
    test (not ended && need_more o rows held) (Ok WantsRight)
    ∷ test (ltb room (frame_words (length rows) (answer_columns o))) (Err NoRoom)
    ∷ test (eqb sequence last_sequence) (Err UsedUp)
    ∷ []

-- Left out of order 8, right out of order 9.
abbrev pub order_tests : Bool → Bool → List (Test (Result Turn Refusal))
order_tests left right = test left (Err LeftOrder) ∷ test right (Err RightOrder) ∷ []

unfoldable pub room_answer : Options → Part → Rows → Rows → ℕ → Result Turn Refusal
room_answer o j rows held room = first_of (room_tests o j.right_ended j.sequence rows held room) (Ok (Wrote j.sequence))

unfoldable pub order_answer : Options → Part → Rows → Rows → ℕ → Result Turn Refusal
order_answer o j rows held s =
    first_of (order_tests (bad_left o j.last_left rows) (bad_right_at o j.last_right (length rows) s held)) (Ok (Wrote j.sequence))

-- ---- what a turn leaves
-- The join without d held rows and without a waiting frame of k words, at the next sequence, with the rows that are remembered now.
abbrev pub left_at : Part → ℕ → ℕ → Row → Row → Part
left_at j d k l r = record {
  base = j.base + d;
  held = j.held - d;
  pruned = j.pruned + d;
  queue_start = j.queue_start + k;
  queue_words = j.queue_words - k;
  right_ended = j.right_ended;
  failed = j.failed;
  sequence = j.sequence + 2;
  last_left = l;
  last_right = r;
}

-- The join, failed.
abbrev pub failed_part : Part → Part
failed_part j = record {
  base = j.base;
  held = j.held;
  pruned = j.pruned;
  queue_start = j.queue_start;
  queue_words = j.queue_words;
  right_ended = j.right_ended;
  failed = true;
  sequence = j.sequence;
  last_left = j.last_left;
  last_right = j.last_right;
}

-- The join after a turn that writes: `first` and then `last` held rows are dropped, and a frame of k words leaves.
unfoldable pub left_part : Options → Part → Rows → Rows → ℕ → ℕ → ℕ → Part
left_part o j rows kept first last k =
    left_at j (first + last) k (remembered_left o j.last_left rows) (remembered o j.last_right (take last kept))

-- A turn that writes: its part of the join, and the output.
pub record Written (o : Options) (j : Part) (rows kept : Rows) (first last k : ℕ) (out : Words) (r : Part) (out' : Words) : Type 0 where
  pub part : r ≡ left_part o j rows kept first last k
  pub words : out' ≡ answered o (frame_answer o (j.pruned + first) kept rows) out

-- ---- what is asked
-- The join's counters have room for what a turn adds to them; a frame of k words waits.
pub record Counts (j : Part) (k : ℕ) : Type 0 where
  pub base : j.base + j.held < 2 ^ 64
  pub rows : j.pruned + j.held ≤ most_rows
  pub start : j.queue_start + j.queue_words < 2 ^ 64
  pub words : k ≤ j.queue_words
  pub even : j.sequence % 2 ≡ 0
  pub sequence : j.sequence < 2 ^ 64

-- The frame's n rows are there, each c wide, and the held rows, each w wide.
pub record TurnIn (o : Options) (j : Part) (c w n : ℕ) (lv lm rv rm : Words) : Type 0 where
  pub columns : c ≡ columns o
  pub wide : w ≡ right_columns o
  pub carried : o.carried ≤ 8
  pub short : n ≤ frame_limit
  pub left : RowsIn o c n lv lm
  pub right : RowsIn o w j.held rv rm
  pub counts : Counts j (frame_words n c)

-- The frame's n rows are there, each c wide, and the kept rows, each w wide, and so is the room for the answer; the counters take the new join. With the check on the order was judged, so both are sorted.
pub record WriteIn (o : Options) (j : Part) (c w n : ℕ) (lv lm : Words) (first last : ℕ) (kv km out : Words) : Type 0 where
  pub columns : c ≡ columns o
  pub wide : w ≡ right_columns o
  pub carried : o.carried ≤ 8
  pub left : RowsIn o c n lv lm
  pub kept : RowsIn o w (j.held - first) kv km
  pub within : first + last ≤ j.held
  pub counts : Counts j (frame_words n c)
  pub room : frame_words n (answer_columns o) ≤ length out
  pub sequence : j.sequence + 2 < 2 ^ 64
  pub in_order : is_on o.check ≡ true → BothSorted o c n lv lm w (j.held - first) kv km
