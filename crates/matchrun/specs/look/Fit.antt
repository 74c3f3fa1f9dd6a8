-- What a look over a right run finds: the last row that fits a left key, or the first one. Assumes nothing.
use Rattle.std.specs.Prelude.{◌≡◌, Bool, true, false, ℕ, ◌+◌, ◌-◌, ◌*◌, ◌≤◌, ◌<◌, ℤ, pos, get_or}
use Rattle.std.specs.Int.Signed.{lt_z}
use Rattle.frames.specs.Cells.{Cell, Words}
use Rattle.order.specs.declared.options.Strategy.TheVariants.{Backward, Forward}
use Rattle.matching.specs.Moves.{fits_key}

-- From row r on, up to row `end`, every value is above v.
pub record Above (w by at end : ℕ) (vs : Words) (v : ℤ) (r : ℕ) : Type 0 where
  pub start : at ≤ r
  pub within : r ≤ end
  pub above : (k : ℕ) → r ≤ k → k < end → lt_z v (get_or vs (k * w + by) (pos 0)) ≡ true

-- Row r − 1 is the last of at..end that fits v for Backward, or none does and r is `at`.
pub record LastFit (eq : Bool) (key : ℕ → Cell) (at end : ℕ) (v : Cell) (r : ℕ) : Type 0 where
  pub start : at ≤ r
  pub within : r ≤ end
  pub behind : (k : ℕ) → r ≤ k → k < end → fits_key Backward eq v (key k) ≡ false
  pub fit : at < r → fits_key Backward eq v (key (r - 1)) ≡ true

-- Row r is the first of at..end that fits v for Forward, or none does and r is `end`.
pub record FirstFit (eq : Bool) (key : ℕ → Cell) (at end : ℕ) (v : Cell) (r : ℕ) : Type 0 where
  pub start : at ≤ r
  pub within : r ≤ end
  pub before : (k : ℕ) → at ≤ k → k < r → fits_key Forward eq v (key k) ≡ false
  pub fit : r < end → fits_key Forward eq v (key r) ≡ true
