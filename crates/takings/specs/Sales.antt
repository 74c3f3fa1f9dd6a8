-- The matched sales of a left frame and its answer frame. Assumes nothing.
use Rattle.std.specs.Prelude.{Bool, false, cond, not, ◌&&◌, ◌||◌, List, [], ◌∷◌, ℕ, suc, ltb, nat_abs, take}
use Rattle.frames.specs.Cells.{Cell, null, value, cell, is_null, Rows}
use Rattle.order.specs.Order.{null_group}
use Rattle.order.specs.declared.options.Options.{Options}
use Rattle.takings.specs.Subtotals.{Subtotal, most_amount}

-- A matched sale: its group and its amount, or null.
pub record Sale : Type 0 where
  pub group : List Cell
  pub amount : Cell

-- A left row x is matched if its answer row a has a right number and x's group is not null.
abbrev pub matched : Options → List Cell → List Cell → Bool
matched o x a = not (is_null (cell 0 a)) && not (null_group o x)

-- The amount is the first carried column, which stands behind the right number.
abbrev pub sale_of : Options → List Cell → List Cell → Sale
sale_of o x a = record { group = take o.by x; amount = cell 1 a }

unfoldable pub sales_of : Options → Rows → Rows → List Sale
sales_of o [] answers = []
sales_of o (x ∷ xs) [] = []
sales_of o (x ∷ xs) (a ∷ answers) = cond (matched o x a) (sale_of o x a ∷ sales_of o xs answers) (sales_of o xs answers)

-- A matched sale with an amount is a subtotal of one sale; one without an amount adds nothing here.
abbrev pub with_amount : List Cell → Cell → List Subtotal → List Subtotal
with_amount g null us = us
with_amount g (value v) us = record { group = g; total = v; count = 1 } ∷ us

unfoldable pub amounts_of : List Sale → List Subtotal
amounts_of [] = []
amounts_of (s ∷ ss) = with_amount s.group s.amount (amounts_of ss)

-- And counted in one number beside the table.
unfoldable pub nulls_of : List Sale → ℕ
nulls_of [] = 0
nulls_of (s ∷ ss) = cond (is_null s.amount) (suc (nulls_of ss)) (nulls_of ss)

-- A matched sale's amount beyond the bounds.
unfoldable pub beyond_amounts : List Subtotal → Bool
beyond_amounts [] = false
beyond_amounts (u ∷ us) = ltb most_amount (nat_abs u.total) || beyond_amounts us
