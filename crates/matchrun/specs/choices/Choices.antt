-- A row that is chosen unless it is too far, and rows for which nothing is laid into an answer. Assumes nothing.
use Rattle.std.specs.Prelude.{◌≡◌, cond, ◌&&◌, List, map, ℕ, ◌+◌, ◌*◌, ◌≤◌, ◌<◌, ltb, ℤ, pos, nat_abs, ◌-ℤ◌, length, Option, Some, None}
use Rattle.std.specs.Int.Signed.{le_z}
use Rattle.frames.specs.Cells.{Cell, Words, row_from}
use Rattle.matching.specs.Stretches.{between, lay}

-- SCOPE 10.4: the row numbered n, whose key is a, unless it is too far from v.
abbrev pub unless_far : ℤ → ℤ → ℤ → ℕ → Option ℕ
unless_far tolerance v a n = cond (le_z (pos 0) tolerance && ltb (nat_abs tolerance) (nat_abs (a -ℤ v))) None (Some n)

-- Rows from..to have a place in an answer of m cells.
pub record NothingRoom (m from to : ℕ) (out : Words) : Type 0 where
  pub upward : from ≤ to
  pub within : to ≤ m
  pub room : 2 + 2 * m ≤ length out

-- Nothing is laid for rows from..to: for all rows and every way to choose that gives none of them a match.
abbrev pub NothingLaid : ℕ → ℕ → ℕ → Words → Words → Type 0
NothingLaid m from to out out' = (f : List Cell → Option ℕ) (w : ℕ) (vs ms : Words) → ((k : ℕ) → from ≤ k → k < to → f (row_from w (k * w) vs ms) ≡ None)
    → out' ≡ lay m from (map f (between w from to vs ms)) out
