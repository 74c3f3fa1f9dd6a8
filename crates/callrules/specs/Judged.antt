-- What opening, a left or right frame, the end of right and the start of a turn are answered, by the numbers of a join; and what a frame that is taken leaves. Assumes nothing.
use Rattle.frames.specs.declared.outcomes.Turn.TheVariants.{Wrote, Idle}
use Rattle.frames.specs.declared.outcomes.Turn.{Turn}
use Rattle.frames.specs.declared.refusals.Refusal.{Refusal}
use Rattle.std.specs.Prelude.{◌≡◌, Bool, true, not, ◌||◌, List, [], ◌∷◌, ◌++◌, ℕ, ◌+◌, ◌%◌, ◌≤◌, ltb, eqb, length, Result, Ok, Err}
use Rattle.frames.specs.Cells.{Words}
use Rattle.frames.specs.Frame.{row_count, is_frame, frame_rows}
use Rattle.order.specs.options.Options.{bad_options, many_carried, bad_ranked, refused_options, columns, right_columns, Few}
use Rattle.order.specs.declared.options.Options.{Options}
use Rattle.order.specs.Listed.{lacks_code}
use Rattle.buffer.specs.area.Area.{capacity, new_base, pushed, moved, written}
use Rattle.frames.specs.outcomes.Answers.{is_running, is_done, most_rows}
use Rattle.frames.specs.declared.outcomes.NodeState.{NodeState}
use Rattle.frames.specs.refusals.Tests.{Test, test, first_of}
use Rattle.frames.specs.declared.refusals.Refusal.TheVariants.{BadOptions, TooManyCarried, BadRanks, BadJoin, Failed, Closed, BadFrame, UnknownCode, NoRoom, UsedUp}
use Rattle.callrules.specs.declared.FedLeft.{FedLeft}
use Rattle.callrules.specs.declared.FedRight.{FedRight}
use Rattle.callrules.specs.declared.FedEnd.{FedEnd}

-- SCOPE 16, number 2, by the numbers of a join.
unfoldable pub bad_numbers : Options → ℕ → ℕ → ℕ → ℕ → ℕ → ℕ → Words → Words → Bool
bad_numbers o base held pruned start words sequence left right =
    refused_options o || ltb (capacity (right_columns o) right) (base + held) || ltb (length left) (start + words) || ltb most_rows (pruned + held) || eqb (sequence % 2) 1

-- SCOPE 16.3: the answer to opening.
unfoldable pub open_answer : Options → Result Unit Refusal
open_answer o =
    first_of (test (bad_options o) (Err BadOptions) ∷ test (many_carried o) (Err TooManyCarried) ∷ test (bad_ranked o) (Err BadRanks) ∷ []) (Ok tt)

-- SCOPE 16.3: the answer to a left frame, by the numbers of a join.
unfoldable pub left_judged : Bool → Bool → NodeState → Options → ℕ → Words → Words → Result Unit Refusal
left_judged bad failed state o words left f =
    first_of (
    test bad (Err BadJoin)
    ∷ test failed (Err Failed)
    ∷ test (not (is_running state)) (Err Closed)
    ∷ test (not (is_frame (columns o) f)) (Err BadFrame)
    ∷ test (lacks_code o (frame_rows (columns o) f)) (Err UnknownCode)
    ∷ test (ltb (length left) (words + length f)) (Err NoRoom)
    ∷ []
    )
    (Ok tt)

-- SCOPE 16.3: the tests of an end of right, which a right frame has to pass too.
abbrev pub end_tests : Bool → Bool → Bool → NodeState → List (Test (Result Unit Refusal))
end_tests bad failed ended state = test bad (Err BadJoin) ∷ test failed (Err Failed) ∷ test (ended || is_done state) (Err Closed) ∷ []

-- The answer to an end of right.
unfoldable pub end_judged : Bool → Bool → Bool → NodeState → Result Unit Refusal
end_judged bad failed ended state = first_of (end_tests bad failed ended state) (Ok tt)

-- SCOPE 16.3: the answer to a right frame.
unfoldable pub right_judged : Bool → Bool → Bool → NodeState → Options → ℕ → ℕ → Words → Words → Result Unit Refusal
right_judged bad failed ended state o held pruned right f =
    first_of (
    end_tests bad failed ended state
    ++ test (not (is_frame (right_columns o) f)) (Err BadFrame)
    ∷ test (lacks_code o (frame_rows (right_columns o) f)) (Err UnknownCode)
    ∷ test (ltb (capacity (right_columns o) right) (held + row_count f)) (Err NoRoom)
    ∷ test (ltb most_rows (pruned + held + row_count f)) (Err UsedUp)
    ∷ []
    )
    (Ok tt)

-- A turn before it looks at the queue: 2, 3, in Done 4; no waiting frame: Idle.
abbrev pub ready_tests : Bool → Bool → NodeState → ℕ → List (Test (Result Turn Refusal))
ready_tests bad failed state words =
    test bad (Err BadJoin) ∷ test failed (Err Failed) ∷ test (is_done state) (Err Closed) ∷ test (eqb words 0) (Ok Idle) ∷ []

-- The answer of these; Wrote is that of a turn that goes on.
unfoldable pub ready_judged : Bool → Bool → NodeState → ℕ → ℕ → Result Turn Refusal
ready_judged bad failed state words sequence = first_of (ready_tests bad failed state words) (Ok (Wrote sequence))

-- What is there once a frame was accepted, or else as it was.
abbrev pub taken : {A : Type 0} → Result Unit Refusal → A → A → A
taken (Ok tt) x y = x
taken (Err n) x y = y

-- A join that is not bad holds together: its options compare rows, and the waiting words are there.
pub record LeftHolds (o : Options) (start words : ℕ) (left : Words) : Type 0 where
  pub few : Few o
  pub room : start + words ≤ length left

-- A left frame: the answer, where the queue starts, how many words wait, and the left area's words as they are afterwards.
pub record LeftFed (bad failed : Bool) (state : NodeState) (o : Options) (start words : ℕ) (left f : Words) (r : FedLeft) (left' : Words) : Type 0 where
  pub answer : r.answer ≡ left_judged bad failed state o words left f
  pub start_is : r.start ≡ taken (left_judged bad failed state o words left f) (new_base start words (length f) (length left)) start
  pub words_are : r.words ≡ taken (left_judged bad failed state o words left f) (words + length f) words
  pub area : left' ≡ taken (left_judged bad failed state o words left f) (let to = new_base start words (length f) (length left) in written f (to + words) (moved start to words left)) left

-- The end of right: the answer, and whether right has ended.
pub record EndFed (bad failed ended : Bool) (state : NodeState) (r : FedEnd) : Type 0 where
  pub answer : r.answer ≡ end_judged bad failed ended state
  pub ended_is : r.ended ≡ taken (end_judged bad failed ended state) true ended

-- The same on the right: the held rows are there, and are few enough.
pub record RightHolds (o : Options) (base held pruned : ℕ) (right : Words) : Type 0 where
  pub few : Few o
  pub carried : o.carried ≤ 8
  pub room : base + held ≤ capacity (right_columns o) right
  pub rows : pruned + held ≤ most_rows

-- A right frame: the answer, where the held rows start, how many are held, and the right area's words as they are afterwards.
pub record RightFed (bad failed ended : Bool) (state : NodeState) (o : Options) (base held pruned : ℕ) (right f : Words) (r : FedRight) (right' : Words) : Type 0 where
  pub answer : r.answer ≡ right_judged bad failed ended state o held pruned right f
  pub base_is : r.base ≡ taken (right_judged bad failed ended state o held pruned right f) (new_base base held (row_count f) (capacity (right_columns o) right)) base
  pub held_is : r.held ≡ taken (right_judged bad failed ended state o held pruned right f) (held + row_count f) held
  pub area : right' ≡ taken (right_judged bad failed ended state o held pruned right f) (pushed (right_columns o) base held f right) right
