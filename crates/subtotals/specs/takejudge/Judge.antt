-- What the judges of accounts ask, and 15 of two accounts. Assumes nothing.
use Rattle.std.specs.Prelude.{◌≡◌, Bool, true, not, ◌&&◌, ◌||◌, ℕ, suc, ◌+◌, ◌*◌, ltb, ℤ, nat_abs, length}
use Rattle.frames.specs.Cells.{Rows, Words}
use Rattle.frames.specs.Frame.{pairs_fine}
use Rattle.order.specs.declared.options.Options.{Options}
use Rattle.rows.specs.nulls.Nulls.{any_null}
use Rattle.takings.specs.Subtotals.{ascending, subtotals_of, beyond_rows, beyond_number, sales_in, most_sales}

-- The words of a table of subtotals: n rows of by-values, total and sale count, each mark fitting its value.
pub record Sheet (b w n : ℕ) (vs ms : Words) : Type 0 where
  pub width : w ≡ suc (suc b)
  pub values : length vs ≡ n * w
  pub marks : length ms ≡ n * w
  pub fine : pairs_fine vs ms ≡ true

-- What 14 asks of a table's rows: no null, and groups strictly ascending.
unfoldable pub fine_rows : Options → ℕ → Rows → Bool
fine_rows o w rs = not (any_null w rs) && ascending o (subtotals_of o rs)

-- Refusal 15 of two tables with their numbers, and of what they give together.
unfoldable pub beyond_accounts : Options → Rows → ℤ → Rows → ℤ → Bool
beyond_accounts o table k other l =
    (beyond_rows o table || beyond_rows o other || beyond_number k || beyond_number l)
    || (ltb most_sales (sales_in (subtotals_of o table) + sales_in (subtotals_of o other)) || ltb most_sales (nat_abs k + nat_abs l))
