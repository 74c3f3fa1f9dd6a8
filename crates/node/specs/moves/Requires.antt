-- What the functions that copy ask of the words that they are handed, and what a copy of held rows leaves: small records. Assumes nothing.
use Rattle.std.specs.Prelude.{ℕ, ◌+◌, ◌*◌, ◌≤◌, length, take, drop}
use Rattle.frames.specs.Cells.{Words}
use Rattle.buffer.specs.area.Area.{capacity, written}
use Rattle.buffer.specs.area.Requires.{Columns}

-- n words are there from `start` on, and have room in the other area.
pub record LeftIn (start n : ℕ) (left to : Words) : Type 0 where
  pub within : start + n ≤ length left
  pub room : n ≤ length to

-- Values have room before the place `half`, and marks behind it.
pub record BothFit (half : ℕ) (values marks to : Words) : Type 0 where
  pub before : length values ≤ half
  pub behind : half + length marks ≤ length to

-- The held rows are there, and have room in the other area.
pub record RightIn (c base held : ℕ) (right to : Words) : Type 0 where
  pub columns : Columns c
  pub within : base + held ≤ capacity c right
  pub room : held ≤ capacity c to

-- An area with the held rows of another: their values at its front, their marks at the front of its second half.
unfoldable pub right_copied : ℕ → ℕ → ℕ → Words → Words → Words
right_copied c base held right to =
    written (take (held * c) (drop ((capacity c right + base) * c) right)) (capacity c to * c) (written (take (held * c) (drop (base * c) right)) 0 to)
