-- The cells of a table, written one by one. Assumes nothing.
use Rattle.std.specs.Prelude.{List, [], ◌∷◌, ◌++◌, ℕ, suc, ◌+◌, ◌*◌, ◌^◌, ◌≤◌, ◌<◌, length, set}
use Rattle.frames.specs.Cells.{Cell, value_word, mark_word, Rows, Words}

-- The cells of rows, row by row.
unfoldable pub flat : Rows → List Cell
flat [] = []
flat (r ∷ rs) = r ++ flat rs

-- Cells written as those from cell k on of a table of m cells: values behind the two head words, marks behind the values.
unfoldable pub lay_cells : ℕ → ℕ → List Cell → Words → Words
lay_cells m k [] out = out
lay_cells m k (x ∷ xs) out = lay_cells m (suc k) xs (set (set out (2 + k) (value_word x)) (2 + m + k) (mark_word x))

-- Cell k of m is there, and the output has room for all.
pub record CellRoom (m k : ℕ) (out : Words) : Type 0 where
  pub there : k < m
  pub room : 2 + 2 * m ≤ length out

-- The two counts fit a word, and the output has room for them.
pub record HeadRoom (n c : ℕ) (out : Words) : Type 0 where
  pub rows : n < 2 ^ 63
  pub columns : c < 2 ^ 63
  pub room : 2 ≤ length out
