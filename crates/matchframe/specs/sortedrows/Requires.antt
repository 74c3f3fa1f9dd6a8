-- What is asked of two tables beside the room for their answer. Assumes nothing.
use Rattle.std.specs.Prelude.{◌≡◌, true, ℕ}
use Rattle.frames.specs.Cells.{rows_of, Words}
use Rattle.order.specs.declared.options.Options.{Options}
use Rattle.order.specs.Order.{sorted}

-- n left rows, each c wide, are sorted, and so are m right rows, each w wide.
pub record BothSorted (o : Options) (c n : ℕ) (lv lm : Words) (w m : ℕ) (rv rm : Words) : Type 0 where
  pub left : sorted o (rows_of c n lv lm) ≡ true
  pub right : sorted o (rows_of w m rv rm) ≡ true
