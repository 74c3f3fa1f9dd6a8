-- Keys of neighbouring rows that do not fall. Assumes nothing.
use Rattle.std.specs.Prelude.{◌≡◌, Bool, false, ℕ, ◌+◌, ◌*◌, ◌≤◌, ◌<◌}
use Rattle.frames.specs.Cells.{Words}
use Rattle.order.specs.options.Options.{key_rule}
use Rattle.order.specs.Order.{cmp_cell, is_greater}
use Rattle.order.specs.Requires.{cell_at}

-- SCOPE 4.4: the key at place p is greater than the one at place q.
abbrev pub key_falls : ℕ → ℕ → Words → Words → Bool
key_falls p q vs ms = is_greater (cmp_cell key_rule (cell_at p vs ms) (cell_at q vs ms))

-- Of the rows from i to r, each w wide, no key, which is in column `by`, is greater than the next.
pub record Rises (by w : ℕ) (vs ms : Words) (i r : ℕ) : Type 0 where
  pub rises : (k : ℕ) → i ≤ k → k + 1 < r → key_falls (k * w + by) (k * w + w + by) vs ms ≡ false
