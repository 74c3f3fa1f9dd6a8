-- Rows one behind the other that have the same cells: what is asked of the words, and how far they reach. Assumes nothing.
use Rattle.std.specs.Prelude.{◌≡◌, ℕ, ◌+◌, ◌*◌, ◌≤◌, ◌<◌, length}
use Rattle.frames.specs.Cells.{Cell, Words}
use Rattle.order.specs.Requires.{cell_at}

-- The first k cells of the row at place p are there.
pub record CellsIn (k p : ℕ) (vs ms : Words) : Type 0 where
  pub values : p + k ≤ length vs
  pub marks : p + k ≤ length ms

-- n rows are there, each w wide, the first k columns among theirs, and row i is one of them or their end.
pub record RowsTo (k w n : ℕ) (vs ms : Words) (i : ℕ) : Type 0 where
  pub wide : k ≤ w
  pub within : i ≤ n
  pub values : n * w ≤ length vs
  pub marks : n * w ≤ length ms

-- The rows from e to r, of n, have the first cell c.
pub record Have (w e n : ℕ) (vs ms : Words) (c : Cell) (r : ℕ) : Type 0 where
  pub start : e ≤ r
  pub within : r ≤ n
  pub have : (k : ℕ) → e ≤ k → k < r → cell_at (k * w) vs ms ≡ c

-- Each of the rows behind i and before r, of n, has the first `by` cells of the row before it.
pub record SameTo (by w n : ℕ) (vs ms : Words) (i r : ℕ) : Type 0 where
  pub start : i < r
  pub within : r ≤ n
  pub same : (k : ℕ) → i ≤ k → k + 1 < r → (j : ℕ) → j < by → cell_at (k * w + j) vs ms ≡ cell_at (k * w + w + j) vs ms
