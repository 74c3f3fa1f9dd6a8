-- Where the right cursor comes to for Nearest over keys that do not fall. Assumes nothing.
use Rattle.std.specs.Prelude.{◌≡◌, Bool, true, cond, ℕ, ◌+◌, ◌-◌, ◌*◌, ◌≤◌, ◌<◌, ℤ}
use Rattle.frames.specs.Cells.{value, Words}
use Rattle.order.specs.declared.options.Strategy.TheVariants.{Nearest}
use Rattle.matching.specs.Match.{nearer}
use Rattle.matching.specs.Moves.{Rising, Behind, Stopped}
use Rattle.matchrun.specs.advance.Below.{keyed}
use Rattle.matchrun.specs.declared.advance.Position.{Position}

-- For v the cursor moves on from the key a to the next one, b.
abbrev pub closes : ℤ → ℤ → ℤ → Bool
closes v a b = nearer (value v) (value b) (value a)

-- How many of two moves are made, the second only after the first.
abbrev pub steps_on : Bool → Bool → ℕ
steps_on a b = cond a (cond b 2 1) 0

-- The cursor moved on for Nearest from row `at` to row r, one of the rows up to `end`, and rests there for v. To the moves that were made before, one is added for each row from `at` to r.
pub record Approached (w by at end : ℕ) (vs : Words) (v : ℤ) (moved : ℕ) (r : Position) : Type 0 where
  pub upward : at ≤ r.row
  pub there : r.row < end
  pub place : r.place ≡ r.row * w + by
  pub behind : (start : ℕ) → start ≤ at → Rising (keyed w by vs) start end → Behind Nearest true (keyed w by vs) start (value v) at → Behind Nearest true (keyed w by vs) start (value v) r.row
  pub stopped : Stopped Nearest true (keyed w by vs) end (value v) r.row
  pub counted : r.moves ≡ moved + (r.row - at)
