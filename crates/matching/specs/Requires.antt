-- What the public functions of matching require of their arguments. Assumes nothing.
use Rattle.std.specs.Prelude.{ℕ, ◌+◌, ◌-◌, ◌*◌, ◌^◌, ◌≤◌, length}
use Rattle.frames.specs.Cells.{Words}
use Rattle.order.specs.options.Options.{right_columns, answer_columns}
use Rattle.order.specs.Requires.{RowAt, RowsIn}
use Rattle.order.specs.declared.options.Options.{Options}

-- The left row at p, and right rows from..to, whose numbers an answer has room for.
pub record RowRoom (o : Options) (p : ℕ) (lv lm : Words) (w from to : ℕ) (rv rm : Words) (number : ℕ) : Type 0 where
  pub left : RowAt o p lv lm
  pub right : RowsIn o w to rv rm
  pub upward : from ≤ to
  pub numbers : number + to ≤ 2 ^ 63 - 1

-- A frame's rows and the held rows are there, their numbers fit, and an answer of m cells has room for a number of each row.
pub record FrameRoom (o : Options) (wl nl : ℕ) (lv lm : Words) (wr nr : ℕ) (rv rm : Words) (number m : ℕ) (out : Words) : Type 0 where
  pub left : RowsIn o wl nl lv lm
  pub right : RowsIn o wr nr rv rm
  pub numbers : number + nr ≤ 2 ^ 63 - 1
  pub within : nl ≤ m
  pub room : 2 + 2 * m ≤ length out

-- The same for all columns of an answer: the held rows have what is carried.
pub record AnswerRoom (o : Options) (wl nl : ℕ) (lv lm : Words) (wr nr : ℕ) (rv rm : Words) (number m : ℕ) (out : Words) : Type 0 where
  pub left : RowsIn o wl nl lv lm
  pub right : RowsIn o wr nr rv rm
  pub carried : o.carried ≤ 8
  pub wide : right_columns o ≤ wr
  pub numbers : number + nr ≤ 2 ^ 63 - 1
  pub within : nl * answer_columns o ≤ m
  pub room : 2 + 2 * m ≤ length out
