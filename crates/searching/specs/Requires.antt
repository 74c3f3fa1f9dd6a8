-- What the functions over held rows require of their arguments, and what an append and a push leave: small records; and a stretch as a range. Assumes nothing.
use Rattle.std.specs.Prelude.{ℕ, ◌*◌, ◌≤◌, ◌<◌, length}
use Rattle.frames.specs.Cells.{Words}
use Rattle.searching.specs.Reach.{Range}
use Rattle.searching.specs.declared.Stretch.{Stretch}

-- A stretch by value is the range of its start and its end.
abbrev pub range_of : Stretch → Range
range_of r = record { start = r.start; end = r.end }

-- The rows below `upper` are there, each w wide, with column j among their columns.
pub record ColumnIn (j w upper : ℕ) (vs ms : Words) : Type 0 where
  pub wide : j < w
  pub values : upper * w ≤ length vs
  pub marks : upper * w ≤ length ms

-- Row i is one of n, where there are any.
pub record PlaceIn (i n : ℕ) : Type 0 where
  pub row : 0 < n → i < n
