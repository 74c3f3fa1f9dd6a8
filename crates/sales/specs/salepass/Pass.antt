-- Rows that are written in group order from a table's rows and from sales: how far they have come, and what a sale makes of them. Assumes nothing.
use Rattle.std.specs.Prelude.{◌≡◌, true, false, List, ◌++◌, ℕ, suc, ◌+◌, ◌-◌, ◌*◌, ◌≤◌, ◌<◌, ℤ, pos, nat_abs, length, drop, get_or}
use Rattle.frames.specs.Cells.{Cell, Words, row_from}
use Rattle.frames.specs.Frame.{pairs_fine}
use Rattle.order.specs.options.Options.{Few}
use Rattle.order.specs.declared.options.Options.{Options}
use Rattle.order.specs.Order.{null_group}
use Rattle.std.specs.declared.cmp.Ordering.TheVariants.{Less}
use Rattle.takings.specs.Subtotals.{Subtotal, insert, ascending, most_amount}
use Rattle.sales.specs.saleplace.Place.{cmp_at}
use Rattle.sales.specs.saleinsert.Held.{Held, Addable, unit_of}

-- The rows from `from` to `to` of a table are there, and they have room behind m rows.
pub record RowsRoom (m from to w : ℕ) (table body : Words) : Type 0 where
  pub range : from ≤ to
  pub there : to * w ≤ length table
  pub room : (m + (to - from)) * w ≤ length body

-- The words begin with the rows of ts; the rows from `taken` on of the table T are still to come, and come behind them in group order. W is all of them.
pub record Written (o : Options) (n m taken : ℕ) (T W : List Subtotal) (table b₀ body : Words) : Type 0 where
  pub ts : List Subtotal
  pub held : Held o m ts b₀ body
  pub source : Held o n T table table
  pub within : taken ≤ n
  pub order : ascending o W ≡ true
  pub whole : ts ++ drop taken T ≡ W

-- Sales can be added to each of n rows.
abbrev pub EachAddable : ℕ → ℕ → Words → Type 0
EachAddable b n body = (i : ℕ) → i < n → Addable (get_or body (i * suc (suc b) + b) (pos 0)) (get_or body (i * suc (suc b) + b + 1) (pos 0))

-- m rows are written, the table's rows from `taken` on and one more have room; a left row with its marks is at q; sums stay within a word.
pub record SaleIn (o : Options) (n m taken : ℕ) (table : Words) (q : ℕ) (vs ms : Words) (amount : ℤ) (body : Words) : Type 0 where
  pub compare : Few o
  pub table_rows : n * suc (suc o.by) ≤ length table
  pub within : taken ≤ n
  pub room : (m + (n - taken)) * suc (suc o.by) + suc (suc o.by) ≤ length body
  pub values : q + o.by < length vs
  pub marks : q + o.by < length ms
  pub small : nat_abs amount ≤ most_amount
  pub addable : EachAddable o.by m body
  pub table_addable : EachAddable o.by n table

-- Whatever was written, the sale is added to it, if its left row has no null; m' and taken' say how far the rows have come then.
pub record Added (o : Options) (n m taken : ℕ) (table : Words) (q : ℕ) (vs ms : Words) (amount : ℤ) (body : Words) (m' taken' : ℕ) (body' : Words) : Type 0 where
  pub adds : (T W : List Subtotal) (b₀ : Words) → length vs ≤ length ms → pairs_fine vs ms ≡ true → null_group o (row_from (suc o.by) q vs ms) ≡ false
      → Written o n m taken T W table b₀ body → Written o n m' taken' T (insert o (unit_of o (row_from (suc o.by) q vs ms) amount) W) table b₀ body'

-- The sale's group is behind that of each row that is written.
abbrev pub Behind : Options → ℕ → Words → List Cell → Type 0
Behind o m body x = 0 < m → cmp_at o (suc (suc o.by)) body x (m - 1) ≡ Less
