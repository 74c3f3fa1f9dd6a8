-- Refusal 15 of a table, its number and a frame's sales. Assumes nothing.
use Rattle.std.specs.Prelude.{◌≡◌, Bool, false, ◌||◌, List, ℕ, ◌+◌, ◌≤◌, ltb, ℤ, nat_abs, length}
use Rattle.frames.specs.Cells.{Rows}
use Rattle.order.specs.declared.options.Options.{Options}
use Rattle.takings.specs.Subtotals.{subtotals_of, beyond_rows, beyond_number, sales_in, most_sales}
use Rattle.takings.specs.Sales.{Sale, amounts_of, nulls_of, beyond_amounts}

-- A row, the number or an amount beyond the bounds; or the sums that they give together.
unfoldable pub beyond_sales : Options → Rows → ℤ → List Sale → Bool
beyond_sales o A k sales =
    (beyond_rows o A || beyond_number k || beyond_amounts (amounts_of sales))
    || (ltb most_sales (sales_in (subtotals_of o A) + length (amounts_of sales)) || ltb most_sales (nat_abs k + nulls_of sales))

-- What the weighing says: whether they are beyond, and if not, how many sales have an amount and how many have none.
pub record Weighed (o : Options) (A : Rows) (k : ℤ) (sales : List Sale) (s n : ℕ) (beyond : Bool) : Type 0 where
  pub beyond_is : beyond ≡ beyond_sales o A k sales
  pub sales_is : beyond ≡ false → s ≡ length (amounts_of sales)
  pub nulls_is : beyond ≡ false → n ≡ nulls_of sales
  pub few_sales : s ≤ 4096
  pub few_nulls : n ≤ 4096
