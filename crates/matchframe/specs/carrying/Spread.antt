-- An answer whose rows stand as numbers alone, spread over all its columns. Assumes nothing.
use Rattle.std.specs.Prelude.{◌≡◌, false, cond, List, [], ◌∷◌, ℕ, zero, suc, ◌+◌, ◌-◌, ◌*◌, ◌^◌, ◌≤◌, ◌<◌, pos, nat_abs, length, get_or, Option, Some, None}
use Rattle.frames.specs.Cells.{Rows, Words, is_zero}
use Rattle.order.specs.options.Options.{right_columns, answer_columns}
use Rattle.order.specs.declared.options.Options.{Options}
use Rattle.order.specs.Requires.{RowsIn}
use Rattle.tables.specs.Lay.{flat, lay_cells}
use Rattle.matching.specs.Answer.{answer_rows}

-- The choice whose number and mark stand at place i of an answer of m cells.
abbrev pub choice_at : ℕ → Words → ℕ → Option ℕ
choice_at m out i = cond (is_zero (get_or out (2 + m + i) (pos 0))) None (Some (nat_abs (get_or out (2 + i) (pos 0))))

-- n choices from place i on.
unfoldable pub choices_from : ℕ → Words → ℕ → ℕ → List (Option ℕ)
choices_from m out i zero = []
choices_from m out i (suc n) = choice_at m out i ∷ choices_from m out (suc i) n

-- The answer of the left rows by the choices that stand at its first places, over right rows of which the first has this number: all cells laid.
unfoldable pub spread : Options → ℕ → Rows → Rows → ℕ → Words → Words
spread o number rights lefts m out = lay_cells m 0 (flat (answer_rows o number rights lefts (choices_from m out 0 (length lefts)))) out

-- A choice that stands at place i is none, or the number of a right row that is there.
pub record Numbered (number nr m : ℕ) (out : Words) (i : ℕ) : Type 0 where
  pub whole : is_zero (get_or out (2 + m + i) (pos 0)) ≡ false → get_or out (2 + i) (pos 0) ≡ pos (nat_abs (get_or out (2 + i) (pos 0)))
  pub from : is_zero (get_or out (2 + m + i) (pos 0)) ≡ false → number ≤ nat_abs (get_or out (2 + i) (pos 0))
  pub below : is_zero (get_or out (2 + m + i) (pos 0)) ≡ false → nat_abs (get_or out (2 + i) (pos 0)) < number + nr

-- n choices stand there; the left rows are there, the right rows with what they carry, and the room for all cells of n rows.
pub record SpreadIn (o : Options) (n wl : ℕ) (lv lm : Words) (wr nr : ℕ) (rv rm : Words) (number m : ℕ) (out : Words) : Type 0 where
  pub left : RowsIn o wl n lv lm
  pub right : RowsIn o wr nr rv rm
  pub carried : o.carried ≤ 8
  pub wide : right_columns o ≤ wr
  pub numbers : number + nr ≤ 2 ^ 63 - 1
  pub within : n * answer_columns o ≤ m
  pub room : 2 + 2 * m ≤ length out
  pub chosen : (i : ℕ) → i < n → Numbered number nr m out i
