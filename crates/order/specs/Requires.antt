-- What the functions over rows require of their arguments: small records, one for each kind of reader. Assumes nothing.
use Rattle.std.specs.Prelude.{◌≡◌, true, ℕ, ◌+◌, ◌*◌, ◌≤◌, ◌<◌, pos, length, get_or}
use Rattle.frames.specs.Cells.{Cell, cell_of, rows_of, Words}
use Rattle.order.specs.options.Options.{Few}
use Rattle.order.specs.declared.options.Options.{Options}
use Rattle.order.specs.Order.{sorted}

-- The cell whose words stand at place k of values and marks.
abbrev pub cell_at : ℕ → Words → Words → Cell
cell_at k vs ms = cell_of (get_or vs k (pos 0)) (get_or ms k (pos 0))

-- The mark of the cell at place k is there.
pub record MarkIn (k : ℕ) (ms : Words) : Type 0 where
  pub marks : k < length ms

-- The value and the mark of the cell at place k are there.
pub record CellIn (k : ℕ) (vs ms : Words) : Type 0 where
  pub values : k < length vs
  pub marks : k < length ms

-- The marks of the by-values and the key of the row at place p are there.
pub record MarksAt (o : Options) (p : ℕ) (ms : Words) : Type 0 where
  pub marks : p + o.by < length ms

-- By-values and key of the row at place p are there, and the options are such that rows compare.
pub record RowAt (o : Options) (p : ℕ) (vs ms : Words) : Type 0 where
  pub few : Few o
  pub values : p + o.by < length vs
  pub marks : p + o.by < length ms

-- n rows are there, each w wide, with the key among its columns.
pub record RowsIn (o : Options) (w n : ℕ) (vs ms : Words) : Type 0 where
  pub few : Few o
  pub wide : o.by < w
  pub values : n * w ≤ length vs
  pub marks : n * w ≤ length ms

-- The same of their marks alone.
pub record KeysIn (o : Options) (w n : ℕ) (ms : Words) : Type 0 where
  pub few : Few o
  pub wide : o.by < w
  pub marks : n * w ≤ length ms

-- n sorted rows are there, each w wide.
pub record TableIn (o : Options) (w n : ℕ) (vs ms : Words) : Type 0 where
  pub rows : RowsIn o w n vs ms
  pub in_order : sorted o (rows_of w n vs ms) ≡ true

-- A row of at most five words, at place p.
pub record SmallRow (w p : ℕ) (vs ms : Words) : Type 0 where
  pub narrow : w ≤ 5
  pub values : p + w ≤ length vs
  pub marks : p + w ≤ length ms
