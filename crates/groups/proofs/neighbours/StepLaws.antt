-- Rows that the first by-column tells apart. Assumes nothing.
use mathlib.Core.Path.{◌≡◌}
use mathlib.Core.List.{List}
use Prim.Native.Nat.{ℕ, zero, suc, ◌<◌}
use native.Mathlib.Omega.{arith}
use Rattle.frames.specs.Cells.{Cell, cell}
use Rattle.order.specs.options.Options.{by_rule}
use Rattle.order.specs.declared.options.Options.{Options}
use Rattle.order.specs.Order.{cmp_cell, cmp_first, cmp_row}
use Rattle.std.specs.declared.cmp.Ordering.TheVariants.{Less}
use Rattle.order.proofs.OrderLaws.{row_by_group}

-- What the first by-column says, if it is not Equal, all of them say.
first_says : (o : Options) (r s : List Cell) (j : ℕ) → cmp_cell (by_rule o 0) (cell 0 r) (cell 0 s) ≡ Less → cmp_first o (suc j) r s ≡ Less
unfolding cmp_first
first_says o r s zero e = e
first_says o r s (suc j) e = rw (first_says o r s j e)

-- A row whose first by-cell is less is less.
pub less_first : (o : Options) (r s : List Cell) → 0 < o.by → cmp_cell (by_rule o 0) (cell 0 r) (cell 0 s) ≡ Less → cmp_row o r s ≡ Less
less_first o r s h e = row_by_group o r s (by o.by h)
  where
    by : (k : ℕ) → 0 < k → cmp_first o k r s ≡ Less
    by zero l = absurd (omega arith)
    by (suc k) l = first_says o r s k e
