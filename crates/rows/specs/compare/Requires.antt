-- What a comparison of groups asks of the words that it is handed. Assumes nothing.
use Rattle.std.specs.Prelude.{ℕ, ◌+◌, ◌≤◌, length}
use Rattle.frames.specs.Cells.{Words}
use Rattle.order.specs.options.Options.{Few}
use Rattle.order.specs.declared.options.Options.{Options}

-- The by-values at place p are there, whatever stands behind them, and the options are such that rows compare.
pub record GroupAt (o : Options) (p : ℕ) (vs ms : Words) : Type 0 where
  pub few : Few o
  pub values : p + o.by ≤ length vs
  pub marks : p + o.by ≤ length ms
