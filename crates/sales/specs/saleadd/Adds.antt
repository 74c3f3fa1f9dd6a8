-- What adding a frame's sales asks of the words that it is handed. Assumes nothing.
use Rattle.std.specs.Prelude.{◌≡◌, true, false, List, [], ◌∷◌, ℕ, suc, ◌+◌, ◌*◌, ◌≤◌, nat_abs, length}
use Rattle.frames.specs.Cells.{Words, rows_of}
use Rattle.frames.specs.Frame.{pairs_fine}
use Rattle.order.specs.options.Options.{Few}
use Rattle.order.specs.declared.options.Options.{Options}
use Rattle.takings.specs.Subtotals.{Subtotal, add_all, sales_in, most_sales, most_amount}
use Rattle.takings.specs.Sales.{sales_of, amounts_of, beyond_amounts}
use Rattle.sales.specs.saleinsert.Held.{Held}
use Rattle.sales.specs.salekind.Kinds.{FrameIn}

-- Each total is at most its count times the greatest amount.
abbrev pub EachBounded : List Subtotal → Type 0
EachBounded [] = Unit {0}
EachBounded (t ∷ ts) = (nat_abs t.total ≤ t.count * most_amount) × EachBounded ts

-- The sales of the frame that have an amount.
abbrev pub amounts_in : Options → ℕ → ℕ → Words → Words → Words → Words → List Subtotal
amounts_in o rows d lv lm av am = amounts_of (sales_of o (rows_of (suc o.by) rows lv lm) (rows_of d rows av am))

-- The words `table` are the table ts, all sums stay within the bounds, and twice the rows of the result have room.
pub record Starts (o : Options) (n rows d : ℕ) (ts : List Subtotal) (table lv lm av am body : Words) : Type 0 where
  pub held : Held o n ts table table
  pub bounded : EachBounded ts
  pub few : sales_in ts + length (amounts_in o rows d lv lm av am) ≤ most_sales
  pub amounts : beyond_amounts (amounts_in o rows d lv lm av am) ≡ false
  pub room : length (add_all o ts (amounts_in o rows d lv lm av am)) * suc (suc o.by) + length (add_all o ts (amounts_in o rows d lv lm av am)) * suc (suc o.by) ≤ length body

-- There is such a table, and the frames are there.
pub record AddsIn (o : Options) (n rows d : ℕ) (table lv lm av am body : Words) : Type 0 where
  pub ts : List Subtotal
  pub starts : Starts o n rows d ts table lv lm av am body
  pub compare : Few o
  pub frames : FrameIn o.by rows d lm av am
  pub left_values : rows * suc o.by ≤ length lv
  pub left_paired : length lv ≤ length lm
  pub left_fine : pairs_fine lv lm ≡ true
