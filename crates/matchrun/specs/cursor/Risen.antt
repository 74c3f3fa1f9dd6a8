-- Keys that were looked at and do not fall. Assumes nothing.
use Rattle.std.specs.Prelude.{◌≡◌, false, ℕ, ◌+◌, ◌*◌, ◌≤◌, ◌<◌}
use Rattle.frames.specs.Cells.{Words, is_null}
use Rattle.order.specs.options.Options.{key_rule}
use Rattle.order.specs.Order.{cmp_cell, is_greater}
use Rattle.order.specs.Requires.{cell_at}

-- Of rows that are each w wide, with the key in column `by`: from row `from` up to row r no key is greater than the next, and row r has one.
pub record Risen (w by from : ℕ) (vs ms : Words) (r : ℕ) : Type 0 where
  pub start : from ≤ r
  pub keyed : is_null (cell_at (r * w + by) vs ms) ≡ false
  pub rose : (k : ℕ) → from ≤ k → k < r → is_greater (cmp_cell key_rule (cell_at (k * w + by) vs ms) (cell_at ((k + 1) * w + by) vs ms)) ≡ false
