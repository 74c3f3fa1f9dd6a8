-- What the functions of cutrows require of their arguments. Assumes nothing.
use Rattle.std.specs.Prelude.{◌≡◌, ℕ, ◌*◌, ◌^◌, ◌≤◌, ◌<◌}
use Rattle.frames.specs.Cells.{Words}
use Rattle.order.specs.options.Options.{columns, right_columns}
use Rattle.order.specs.declared.options.Options.{Options}
use Rattle.order.specs.Requires.{RowsIn}
use Rattle.cutting.specs.boundaries.Requires.{GroupsIn}

-- n left rows, each c wide, m right rows, each w wide, and k boundaries are there, as wide as the options say; their cells can be counted twice.
pub record AllIn (o : Options) (c n : ℕ) (lv lm : Words) (w m : ℕ) (rv rm : Words) (k : ℕ) (gv gm : Words) : Type 0 where
  pub left : RowsIn o c n lv lm
  pub right : RowsIn o w m rv rm
  pub groups : GroupsIn o k gv gm
  pub left_wide : c ≡ columns o
  pub right_wide : w ≡ right_columns o
  pub carried : o.carried ≤ 8
  pub few_cells : n * c < 2 ^ 63
  pub few_rows : m < 2 ^ 63
