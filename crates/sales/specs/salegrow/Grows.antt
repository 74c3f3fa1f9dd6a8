-- What writing a table with a frame's sales asks of the words that it is handed. Assumes nothing.
use Rattle.std.specs.Prelude.{◌≡◌, true, false, List, ℕ, suc, ◌+◌, ◌*◌, ◌≤◌, length, drop}
use Rattle.frames.specs.Cells.{Words}
use Rattle.frames.specs.Frame.{pairs_fine}
use Rattle.order.specs.options.Options.{Few}
use Rattle.order.specs.declared.options.Options.{Options}
use Rattle.takings.specs.Subtotals.{Subtotal, add_all, sales_in, most_sales}
use Rattle.takings.specs.Sales.{beyond_amounts}
use Rattle.sales.specs.salekind.Kinds.{FrameIn}
use Rattle.sales.specs.salecount.Counts.{TableIs}
use Rattle.sales.specs.saleadd.Adds.{EachBounded, amounts_in}

-- The words are the table ts, all sums stay within the bounds, and the result has room, with its marks.
pub record Grows (o : Options) (n rows d : ℕ) (ts : List Subtotal) (table lv lm av am body : Words) : Type 0 where
  pub table_is : TableIs o n ts table
  pub exact : length table ≡ n * suc (suc o.by)
  pub bounded : EachBounded ts
  pub few : sales_in ts + length (amounts_in o rows d lv lm av am) ≤ most_sales
  pub amounts : beyond_amounts (amounts_in o rows d lv lm av am) ≡ false
  pub room : length (add_all o ts (amounts_in o rows d lv lm av am)) * suc (suc o.by) + length (add_all o ts (amounts_in o rows d lv lm av am)) * suc (suc o.by) ≤ length body

-- There is such a table, and the frames are there.
pub record GrowIn (o : Options) (n rows d : ℕ) (table lv lm av am body : Words) : Type 0 where
  pub ts : List Subtotal
  pub grows : Grows o n rows d ts table lv lm av am body
  pub compare : Few o
  pub frames : FrameIn o.by rows d lm av am
  pub left_values : rows * suc o.by ≤ length lv
  pub left_paired : length lv ≤ length lm
  pub left_fine : pairs_fine lv lm ≡ true

pub record WriteIn (o : Options) (n rows d : ℕ) (table lv lm av am out : Words) : Type 0 where
  pub two : 2 ≤ length out
  pub grow : GrowIn o n rows d table lv lm av am (drop 2 out)
