-- The join, and what it says of the areas. Assumes nothing.
use Rattle.std.specs.Prelude.{Bool, true, false, ◌||◌, ℕ, ◌+◌, ◌*◌, ◌%◌, ltb, eqb, length, take, drop}
use Rattle.frames.specs.Cells.{Rows, Words}
use Rattle.order.specs.options.Options.{refused_options, columns, right_columns}
use Rattle.order.specs.Keyed.{no_row}
use Rattle.order.specs.declared.options.Options.{Options}
use Rattle.order.specs.declared.Row.{Row}
use Rattle.buffer.specs.area.Area.{capacity, held_rows}
use Rattle.frames.specs.outcomes.Answers.{most_rows}
use Rattle.frames.specs.declared.outcomes.NodeState.{NodeState}
use Rattle.frames.specs.declared.outcomes.NodeState.TheVariants.{Running}
use Rattle.node.specs.declared.Join.{Join}

-- A join from all that it is.
abbrev pub join_of : Options → ℕ → ℕ → ℕ → ℕ → ℕ → NodeState → Bool → Bool → ℕ → Row → Row → Join
join_of o base held pruned start words state ended failed seq l r = record {
  options = o;
  base = base;
  held = held;
  pruned = pruned;
  queue_start = start;
  queue_words = words;
  state = state;
  right_ended = ended;
  failed = failed;
  sequence = seq;
  last_left = l;
  last_right = r;
}

-- SCOPE 5.2: a fresh join.
abbrev pub fresh : Options → Join
fresh o = join_of o 0 0 0 0 0 Running false false 0 no_row no_row

-- The join with another queue.
abbrev pub queue_at : Join → ℕ → ℕ → Join
queue_at j start words =
    join_of j.options j.base j.held j.pruned start words j.state j.right_ended j.failed j.sequence j.last_left j.last_right

-- The join with other held rows.
abbrev pub held_at : Join → ℕ → ℕ → ℕ → Join
held_at j base held pruned =
    join_of j.options base held pruned j.queue_start j.queue_words j.state j.right_ended j.failed j.sequence j.last_left j.last_right

-- The join in another state.
abbrev pub state_at : Join → NodeState → Join
state_at j s =
    join_of j.options j.base j.held j.pruned j.queue_start j.queue_words s j.right_ended j.failed j.sequence j.last_left j.last_right

-- The join with right ended.
abbrev pub ended_right : Join → Join
ended_right j =
    join_of j.options j.base j.held j.pruned j.queue_start j.queue_words j.state true j.failed j.sequence j.last_left j.last_right

-- The join, failed.
abbrev pub marked_failed : Join → Join
marked_failed j =
    join_of j.options j.base j.held j.pruned j.queue_start j.queue_words j.state j.right_ended true j.sequence j.last_left j.last_right

-- Sequence + 2, with the rows that are remembered now.
abbrev pub next_turn : Join → Row → Row → Join
next_turn j l r =
    join_of j.options j.base j.held j.pruned j.queue_start j.queue_words j.state j.right_ended j.failed (j.sequence + 2) l r

-- SCOPE 2.5: the columns of this join's left frames.
abbrev pub left_width : Join → ℕ
left_width j = columns j.options

-- SCOPE 2.5: the columns of its right frames and held rows.
abbrev pub right_width : Join → ℕ
right_width j = right_columns j.options

-- SCOPE 16, number 2: the held rows do not fit the right area.
abbrev pub over_right : Join → Words → Bool
over_right j right = ltb (capacity (right_width j) right) (j.base + j.held)

-- The waiting words do not fit the left area.
abbrev pub over_left : Join → Words → Bool
over_left j left = ltb (length left) (j.queue_start + j.queue_words)

-- More right rows than there are numbers.
abbrev pub over_rows : Join → Bool
over_rows j = ltb most_rows (j.pruned + j.held)

-- An odd sequence.
abbrev pub odd_sequence : Join → Bool
odd_sequence j = eqb (j.sequence % 2) 1

-- SCOPE 16, number 2.
unfoldable pub bad_join : Join → Words → Words → Bool
bad_join j left right = refused_options j.options || over_right j right || over_left j left || over_rows j || odd_sequence j

-- SCOPE 5.5, 5.6: the held rows; row i has the right number pruned + i.
unfoldable pub held_of : Join → Words → Rows
held_of j right = held_rows (right_width j) j.base j.held right

-- The words of the held rows: their values, and their marks.
unfoldable pub held_values : Join → Words → Words
held_values j right = take (j.held * right_width j) (drop (j.base * right_width j) right)

-- Their marks.
unfoldable pub held_marks : Join → Words → Words
held_marks j right = take (j.held * right_width j) (drop ((capacity (right_width j) right + j.base) * right_width j) right)

-- SCOPE 5.7: the words that wait.
unfoldable pub waiting : Join → Words → Words
waiting j left = take j.queue_words (drop j.queue_start left)
