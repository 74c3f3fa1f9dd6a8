-- The group of a row of subtotals without marks, and what comparing it asks. Assumes nothing.
use Rattle.std.specs.Prelude.{List, map, ℕ, ◌+◌, ◌<◌, length, take, drop}
use Rattle.frames.specs.Cells.{Cell, value, Words}
use Rattle.order.specs.options.Options.{Few}
use Rattle.order.specs.declared.options.Options.{Options}

-- The b values from place p on, none of them null.
abbrev pub plain : ℕ → ℕ → Words → List Cell
plain b p body = map value (take b (drop p body))

-- The first words of a row at p and of a left row at q are there.
pub record FirstAt (p : ℕ) (body : Words) (q : ℕ) (vs ms : Words) : Type 0 where
  pub row : p < length body
  pub values : q < length vs
  pub marks : q < length ms

-- A row is at p, a left row at q, and their groups compare.
pub record SaleAt (o : Options) (p : ℕ) (body : Words) (q : ℕ) (vs ms : Words) : Type 0 where
  pub compare : Few o
  pub row : p + o.by < length body
  pub values : q + o.by < length vs
  pub marks : q + o.by < length ms
