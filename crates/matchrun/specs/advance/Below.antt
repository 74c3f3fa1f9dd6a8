-- Which keys are below a left key, and where the right cursor comes to over keys that do not fall. Assumes nothing.
use Rattle.std.specs.Prelude.{◌≡◌, Bool, true, false, cond, ℕ, ◌+◌, ◌-◌, ◌*◌, ◌≤◌, ◌<◌, ℤ, pos, length, get_or}
use Rattle.std.specs.Int.Signed.{lt_z}
use Rattle.frames.specs.Cells.{Cell, value, Words}
use Rattle.order.specs.options.Options.{key_rule}
use Rattle.order.specs.Order.{cmp_cell}
use Rattle.order.specs.declared.options.Strategy.TheVariants.{Backward}
use Rattle.matching.specs.Match.{on_side}
use Rattle.matchrun.specs.declared.advance.Position.{Position}

-- The key of row k by its value alone, of rows that are each w wide.
abbrev pub value_at : ℕ → ℕ → Words → ℕ → ℤ
value_at w by vs k = get_or vs (k * w + by) (pos 0)

-- The keys of rows, none of which is null.
abbrev pub keyed : ℕ → ℕ → Words → ℕ → Cell
keyed w by vs k = value (value_at w by vs k)

-- SCOPE 10.2: the key a is below v, or at it where that counts too.
abbrev pub below : Bool → ℤ → ℤ → Bool
below inclusive v a = on_side Backward inclusive (cmp_cell key_rule (value a) (value v))

-- The word v is not the greatest one: there is a next.
abbrev pub HasNext : ℤ → Type 0
HasNext v = lt_z (pos 9223372036854775806) v ≡ false

-- How many of three tests there are up to the last that holds.
abbrev pub last_true : Bool → Bool → Bool → ℕ
last_true a b c = cond c 3 (cond b 2 (cond a 1 0))

-- Rows up to `end` are there, each w wide; row `at` is one of them or their end, and its key is at place p.
pub record AtPlace (w end : ℕ) (vs : Words) (at p : ℕ) : Type 0 where
  pub within : at ≤ end
  pub values : end * w ≤ length vs
  pub start : at * w ≤ p
  pub wide : p < at * w + w

-- Row r is the first of at..end whose key does not pass the test, or all do and r is `end`. To the moves that were made before, one is added for each row from `at` to r.
pub record Skipped (w by at end : ℕ) (vs : Words) (test : ℤ → Bool) (moved : ℕ) (r : Position) : Type 0 where
  pub upward : at ≤ r.row
  pub within : r.row ≤ end
  pub place : r.place ≡ r.row * w + by
  pub before : (k : ℕ) → at ≤ k → k < r.row → test (value_at w by vs k) ≡ true
  pub stop : r.row < end → test (value_at w by vs r.row) ≡ false
  pub counted : r.moves ≡ moved + (r.row - at)
