-- What the functions over tables ask of the words that they are handed; the rows that a table has left. Assumes nothing.
use Rattle.std.specs.Prelude.{◌≡◌, true, ℕ, ◌+◌, ◌-◌, ◌*◌, ◌≤◌, length, drop}
use Rattle.frames.specs.Cells.{Rows, Words, rows_of}
use Rattle.frames.specs.Frame.{pairs_fine}

-- The rows from row i on, of n rows that are each w wide.
abbrev pub rest : ℕ → ℕ → ℕ → Words → Words → Rows
rest w i n vs ms = rows_of w (n - i) (drop (i * w) vs) (drop (i * w) ms)

-- The row's w words are there, each mark fits its value, and the cells k to k + w of m have room.
pub record CopyRoom (m k p w : ℕ) (vs ms out : Words) : Type 0 where
  pub values : p + w ≤ length vs
  pub marks : p + w ≤ length ms
  pub paired : length vs ≤ length ms
  pub fine : pairs_fine vs ms ≡ true
  pub there : k + w ≤ m
  pub room : 2 + 2 * m ≤ length out
