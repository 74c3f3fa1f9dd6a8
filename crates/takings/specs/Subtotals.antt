-- Subtotals: a group's total and sale count; a table of them in group order. Assumes nothing.
use Rattle.std.specs.Prelude.{◌≡◌, Bool, true, false, cond, ◌&&◌, ◌||◌, List, [], ◌∷◌, ◌++◌, ℕ, suc, ◌+◌, ◌*◌, ◌^◌, ltb, ℤ, pos, nat_abs, ◌+ℤ◌, take}
use Rattle.std.specs.Int.Signed.{lt_z}
use Rattle.frames.specs.Cells.{Cell, null, value, cell, Rows}
use Rattle.order.specs.Order.{cmp_group, is_less, is_equal}
use Rattle.order.specs.declared.options.Options.{Options}
use Rattle.std.specs.declared.cmp.Ordering.{Ordering}
use Rattle.std.specs.declared.cmp.Ordering.TheVariants.{Less, Equal, Greater}

-- The by-values of a group, its total and its sale count. A sale with an amount is a subtotal of count 1.
pub record Subtotal : Type 0 where
  pub group : List Cell
  pub total : ℤ
  pub count : ℕ

-- How the groups of two subtotals stand to each other.
abbrev pub cmp_sub : Options → Subtotal → Subtotal → Ordering
cmp_sub o t u = cmp_group o t.group u.group

-- Two subtotals of one group, together.
abbrev pub plus : Subtotal → Subtotal → Subtotal
plus t u = record { group = t.group; total = t.total +ℤ u.total; count = t.count + u.count }

-- A subtotal added to a table in group order: to its group's row, or as a row of its own.
unfoldable pub insert : Options → Subtotal → List Subtotal → List Subtotal
insert o u [] = u ∷ []
insert o u (t ∷ ts) =
    elim (cmp_sub o u t) [
      | Less ↦ u ∷ t ∷ ts
      | Equal ↦ plus t u ∷ ts
      | Greater ↦ t ∷ insert o u ts
    ]

-- Subtotals added to a table, one after the other.
unfoldable pub add_all : Options → List Subtotal → List Subtotal → List Subtotal
add_all o ts [] = ts
add_all o ts (u ∷ us) = add_all o (insert o u ts) us

-- ---- the sums and counts themselves
-- The total and the sale count of the group g among subtotals, in any order.
unfoldable pub total_for : Options → List Cell → List Subtotal → ℤ
total_for o g [] = pos 0
total_for o g (u ∷ us) = cond (is_equal (cmp_group o u.group g)) (u.total +ℤ total_for o g us) (total_for o g us)

unfoldable pub count_for : Options → List Cell → List Subtotal → ℕ
count_for o g [] = 0
count_for o g (u ∷ us) = cond (is_equal (cmp_group o u.group g)) (u.count + count_for o g us) (count_for o g us)

-- Groups strictly ascending in the declared order.
unfoldable pub ascending : Options → List Subtotal → Bool
ascending o [] = true
ascending o (t ∷ []) = true
ascending o (t ∷ u ∷ ts) = is_less (cmp_sub o t u) && ascending o (u ∷ ts)

-- Each has a sale.
unfoldable pub each_sold : List Subtotal → Bool
each_sold [] = true
each_sold (t ∷ ts) = ltb 0 t.count && each_sold ts

-- The table ts, in group order, says of every group what the sales us themselves say: one row for each group that has a sale.
pub record Tells (o : Options) (ts us : List Subtotal) : Type 0 where
  pub in_order : ascending o ts ≡ true
  pub sold : each_sold ts ≡ true
  pub counts : (g : List Cell) → count_for o g ts ≡ count_for o g us
  pub totals : (g : List Cell) → total_for o g ts ≡ total_for o g us

-- ---- as rows: b by-values, total and sale count
abbrev pub row_of : Subtotal → List Cell
row_of t = t.group ++ value t.total ∷ value (pos t.count) ∷ []

-- A cell's number; of a null, which 14 refuses, 0.
abbrev pub number_in : Cell → ℤ
number_in null = pos 0
number_in (value v) = v

abbrev pub subtotal_of : Options → List Cell → Subtotal
subtotal_of o r = record { group = take o.by r; total = number_in (cell o.by r); count = nat_abs (number_in (cell (suc o.by) r)) }

unfoldable pub subtotals_of : Options → Rows → List Subtotal
subtotals_of o [] = []
subtotals_of o (r ∷ rs) = subtotal_of o r ∷ subtotals_of o rs

-- ---- the bounds
-- The limits: an amount is at most 10^9 in size, and a table counts at most 2^31 sales.
abbrev pub most_amount : ℕ
most_amount = 1000000000

abbrev pub most_sales : ℕ
most_sales = 2 ^ 31

-- A row that no sales add up to: it counts none, or its sum is beyond what so many amounts can give.
unfoldable pub beyond_row : Options → List Cell → Bool
beyond_row o r = lt_z (number_in (cell (suc o.by) r)) (pos 1) || ltb (nat_abs (number_in (cell (suc o.by) r)) * most_amount) (nat_abs (number_in (cell o.by r)))

unfoldable pub beyond_rows : Options → Rows → Bool
beyond_rows o [] = false
beyond_rows o (r ∷ rs) = beyond_row o r || beyond_rows o rs

-- The sum of the sale counts.
unfoldable pub sales_in : List Subtotal → ℕ
sales_in [] = 0
sales_in (t ∷ ts) = t.count + sales_in ts

-- A number of matched sales without an amount runs from 0 to 2^31.
abbrev pub beyond_number : ℤ → Bool
beyond_number k = lt_z k (pos 0) || ltb most_sales (nat_abs k)
