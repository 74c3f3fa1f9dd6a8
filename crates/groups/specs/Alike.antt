-- Rows whose by-cells are equal. Assumes nothing.
use Rattle.std.specs.Prelude.{◌≡◌, ℕ, ◌+◌, ◌<◌}
use Rattle.frames.specs.Cells.{Words}
use Rattle.order.specs.Requires.{cell_at}

-- The first k cells of the rows at p and q are equal.
abbrev pub SameCells : ℕ → ℕ → ℕ → Words → Words → Type 0
SameCells k p q vs ms = (j : ℕ) → j < k → cell_at (p + j) vs ms ≡ cell_at (q + j) vs ms
