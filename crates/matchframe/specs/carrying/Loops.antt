-- What the inner functions of carrying require of their arguments, and what they write. Assumes nothing.
use Rattle.std.specs.Prelude.{◌≡◌, false, cond, List, [], ◌∷◌, ◌++◌, ℕ, zero, suc, ◌+◌, ◌-◌, ◌*◌, ◌^◌, ◌≤◌, ◌<◌, pos, nat_abs, length, get_or, replicate, Option, Some, None}
use Rattle.frames.specs.Cells.{Cell, null, value, is_zero, Rows, Words}
use Rattle.order.specs.options.Options.{columns, right_columns, answer_columns}
use Rattle.order.specs.declared.options.Options.{Options}
use Rattle.order.specs.Order.{distance}
use Rattle.order.specs.Requires.{cell_at, CellIn}
use Rattle.matching.specs.Answer.{distance_cell}
use Rattle.matchframe.specs.carrying.Spread.{choice_at}

-- p cells, whose words stand from place q of values and marks on.
unfoldable pub cells_at : ℕ → ℕ → Words → Words → List Cell
cells_at q zero vs ms = []
cells_at q (suc p) vs ms = cell_at q vs ms ∷ cells_at (suc q) p vs ms

-- The distance of the left key v from the key of a right row, whose words start at place q; or no cell, if the join does not add it.
abbrev pub last_at : Options → Cell → ℕ → Words → Words → List Cell
last_at o v q vs ms = cond o.with_distance (distance_cell (distance (cell_at (q + o.by) vs ms) v) ∷ []) []

-- SCOPE 12.5: the row of an answer for a left row with the key v, by the words of the right rows, which are w wide and of which the first has this number.
unfoldable pub row_with : Options → ℕ → ℕ → Words → Words → Cell → Option ℕ → List Cell
row_with o number w vs ms v (Some k) = value (pos k) ∷ cells_at ((k - number) * w + columns o) o.carried vs ms ++ last_at o v ((k - number) * w) vs ms
row_with o number w vs ms v None = replicate (answer_columns o) null

-- The rows of k choices from place i of an answer of m cells on; row j has the left key `key j`.
unfoldable pub rows_with : Options → ℕ → ℕ → Words → Words → (ℕ → Cell) → ℕ → Words → ℕ → ℕ → Rows
rows_with o number w vs ms key m out i zero = []
rows_with o number w vs ms key m out i (suc k) = row_with o number w vs ms (key i) (choice_at m out i) ∷ rows_with o number w vs ms key m out (suc i) k

-- Cells k .. k + p of an answer of m cells are there, and the output has room for all.
pub record CellsRoom (m k p : ℕ) (out : Words) : Type 0 where
  pub within : k + p ≤ m
  pub room : 2 + 2 * m ≤ length out

-- The words of p cells are there, from place q on.
pub record CellsIn (q p : ℕ) (vs ms : Words) : Type 0 where
  pub values : q + p ≤ length vs
  pub marks : q + p ≤ length ms

-- The choice at place i of an answer of m cells is there; unless it is none, its number is not negative.
pub record ChoiceIn (m i : ℕ) (out : Words) : Type 0 where
  pub there : i < m
  pub room : 2 + 2 * m ≤ length out
  pub whole : is_zero (get_or out (2 + m + i) (pos 0)) ≡ false → get_or out (2 + i) (pos 0) ≡ pos (nat_abs (get_or out (2 + i) (pos 0)))

-- A choice is none; or it is the number of a right row that is there, with what it carries, and the number fits a word.
abbrev pub RightIn : Options → ℕ → Words → Words → ℕ → Option ℕ → Type 0
RightIn o w vs ms number (Some k) = (number ≤ k) × (k < 2 ^ 63) × CellsIn ((k - number) * w) (right_columns o) vs ms
RightIn o w vs ms number None = Unit {0}

-- Row i of an answer of m cells is there, and so are the left row's key and what is written of its choice.
pub record RowSpread (o : Options) (i wl : ℕ) (lv lm : Words) (w : ℕ) (vs ms : Words) (number m : ℕ) (out : Words) : Type 0 where
  pub left : CellIn (i * wl + o.by) lv lm
  pub few : o.by ≤ 4
  pub carried : o.carried ≤ 8
  pub there : i * answer_columns o + answer_columns o ≤ m
  pub choice : ChoiceIn m i out
  pub chosen : RightIn o w vs ms number (choice_at m out i)
