-- What the functions of cutroom require of their arguments. Assumes nothing.
use Rattle.std.specs.Prelude.{◌≡◌, ℕ, ◌*◌, ◌^◌, ◌≤◌, ◌<◌, length, drop}
use Rattle.frames.specs.Cells.{Words, rows_of}
use Rattle.order.specs.options.Options.{columns, right_columns}
use Rattle.order.specs.declared.options.Options.{Options}
use Rattle.order.specs.Requires.{TableIn}
use Rattle.cutting.specs.boundaries.Requires.{GroupsIn}
use Rattle.cutting.specs.cutpairs.Cut.{Pair}

-- n left rows, each c wide, and m right rows, each w wide.
abbrev pub pair_in : ℕ → ℕ → Words → Words → ℕ → ℕ → Words → Words → Pair
pair_in c n lv lm w m rv rm = record { left = rows_of c n lv lm; right = rows_of w m rv rm }

-- The same from row a on and from row b on.
abbrev pub parts_in : ℕ → ℕ → ℕ → Words → Words → ℕ → ℕ → ℕ → Words → Words → Pair
parts_in a c n lv lm b w m rv rm = pair_in c n (drop (a * c) lv) (drop (a * c) lm) w m (drop (b * w) rv) (drop (b * w) rm)

-- Both are sorted and as wide as the options say; the left rows' cells can be counted twice.
pub record PartsIn (o : Options) (a c n : ℕ) (lv lm : Words) (b w m : ℕ) (rv rm : Words) : Type 0 where
  pub left : TableIn o c n (drop (a * c) lv) (drop (a * c) lm)
  pub right : TableIn o w m (drop (b * w) rv) (drop (b * w) rm)
  pub left_wide : c ≡ columns o
  pub right_wide : w ≡ right_columns o
  pub carried : o.carried ≤ 8
  pub few_cells : n * c < 2 ^ 63
  pub left_from : (a * c ≤ length lv) × (a * c ≤ length lm)
  pub right_from : (b * w ≤ length rv) × (b * w ≤ length rm)

-- Two sorted tables, as wide as the options say, and k boundaries.
pub record CutsIn (o : Options) (c n : ℕ) (lv lm : Words) (w m : ℕ) (rv rm : Words) (k : ℕ) (gv gm : Words) : Type 0 where
  pub left : TableIn o c n lv lm
  pub right : TableIn o w m rv rm
  pub left_wide : c ≡ columns o
  pub right_wide : w ≡ right_columns o
  pub carried : o.carried ≤ 8
  pub few_cells : n * c < 2 ^ 63
  pub boundaries : GroupsIn o k gv gm
