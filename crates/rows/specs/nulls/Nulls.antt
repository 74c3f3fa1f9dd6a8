-- Nulls among rows, and among marks. Assumes nothing.
use Rattle.std.specs.Prelude.{ℕ, Bool, false, ◌||◌, [], ◌∷◌}
use Rattle.frames.specs.Cells.{is_zero, Rows, Words}
use Rattle.order.specs.Order.{null_in}

-- A null among the first n cells of any row.
unfoldable pub any_null : ℕ → Rows → Bool
any_null n [] = false
any_null n (r ∷ rs) = null_in n r || any_null n rs

-- A mark that says null.
unfoldable pub any_zero : Words → Bool
any_zero [] = false
any_zero (m ∷ ms) = is_zero m || any_zero ms
