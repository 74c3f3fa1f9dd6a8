-- What the functions of salewrite require of their arguments. Assumes nothing.
use Rattle.std.specs.Prelude.{ℕ, ◌+◌, ◌≤◌, length}
use Rattle.frames.specs.Cells.{Words}

-- n words from `at` on are there.
pub record WordsRoom (at n : ℕ) (body : Words) : Type 0 where
  pub within : at + n ≤ length body

-- The words from `from` to `to` are there, and w more.
pub record ShiftRoom (from to w : ℕ) (body : Words) : Type 0 where
  pub range : from ≤ to
  pub room : to + w ≤ length body

-- The by-values at q are there, and a row of them, a total and a count has room at `at`.
pub record SaleRoom (at q by : ℕ) (values body : Words) : Type 0 where
  pub there : q + by ≤ length values
  pub room : at + by + 2 ≤ length body
