-- What a turn asks of rows: their order, its prunes, the row that is remembered. Assumes nothing.
use Rattle.std.specs.Prelude.{Bool, false, cond, not, ◌&&◌, ◌||◌, ℕ, ◌-◌, eqb, length, drop}
use Rattle.frames.specs.Cells.{Rows}
use Rattle.order.specs.options.Options.{is_on, columns}
use Rattle.order.specs.Order.{sorted}
use Rattle.order.specs.Keyed.{first_left, last_left_at, row_at, recall, remember_at, remember_last, out_of_order}
use Rattle.order.specs.declared.options.Options.{Options}
use Rattle.order.specs.declared.Row.{Row}
use Rattle.searching.specs.Reach.{prune_by, bad_split}
use Rattle.buffer.specs.splitcheck.Split.{out_of_order_at}

-- SCOPE 8.2, 8.3, 8.9: left rows are out of order, with the check on.
unfoldable pub bad_left : Options → Row → Rows → Bool
bad_left o m rows = is_on o.check && (out_of_order o (recall (columns o) m) (row_at rows (first_left o rows)) || not (sorted o rows))

-- SCOPE 8.4, 8.5: right rows are out of order, with the check on; the split is that of the prune by the last row.
unfoldable pub bad_right : Options → Row → Rows → Rows → Bool
bad_right o m rows held = is_on o.check && (not (sorted o held) || bad_split o m (length rows - 1) rows held)

-- SCOPE 12.4: how many rows the first prune drops.
unfoldable pub first_prune : Options → Rows → Rows → ℕ
first_prune o rows held = cond (is_on o.check) 0 (prune_by o 0 rows held)

-- SCOPE 11.5: what is remembered once these right rows went by.
unfoldable pub remembered : Options → Row → Rows → Row
remembered o m rows = cond (is_on o.check) (remember_last o m rows) m

-- SCOPE 8.6, 8.9: what is remembered once these left rows went by.
unfoldable pub remembered_left : Options → Row → Rows → Row
remembered_left o m rows = cond (is_on o.check) (remember_at o m rows (last_left_at o rows)) m

-- The held rows that the first prune leaves.
unfoldable pub kept_rows : Options → Rows → Rows → Rows
kept_rows o rows held = drop (first_prune o rows held) held

-- How many of these the prune by the last row drops.
unfoldable pub last_prune : Options → Rows → Rows → ℕ
last_prune o rows held = prune_by o (length rows - 1) rows (kept_rows o rows held)

-- Right order for a split that is known: s, of a prune by a frame of n rows.
unfoldable pub bad_right_at : Options → Row → ℕ → ℕ → Rows → Bool
bad_right_at o m n s held = is_on o.check && (not (sorted o held) || cond (eqb n 0 || eqb (length held) 0) false (out_of_order_at o m s held))
