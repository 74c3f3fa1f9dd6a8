-- The two calls: a frame's sales added to a table, and two tables of subtotals joined. Assumes nothing.
use Rattle.frames.specs.declared.refusals.Refusal.{Refusal}
use Rattle.std.specs.Prelude.{Bool, cond, not, ◌&&◌, ◌||◌, List, map, ℕ, suc, ◌+◌, ltb, eqb, ℤ, pos, nat_abs, length, get_or, Result, Err, Ok}
use Rattle.frames.specs.Cells.{Rows, Words}
use Rattle.frames.specs.Frame.{row_count, frame_words, is_frame, frame_rows, is_table}
use Rattle.order.specs.options.Options.{columns}
use Rattle.order.specs.declared.options.Options.{Options}
use Rattle.order.specs.Listed.{lacks_code}
use Rattle.tables.specs.Options.{unless}
use Rattle.tables.specs.Table.{table_rows, table_of, laid}
use Rattle.frames.specs.declared.refusals.Refusal.TheVariants.{BadFrame, UnknownCode, BadColumns, Unsorted, Beyond, NoRoom}
use Rattle.rows.specs.nulls.Nulls.{any_null}
use Rattle.takings.specs.Subtotals.{Subtotal, add_all, ascending, row_of, subtotals_of, most_sales, beyond_rows, sales_in, beyond_number}
use Rattle.takings.specs.Sales.{Sale, sales_of, amounts_of, nulls_of, beyond_amounts}
use Rattle.takings.specs.declared.Taken.{Taken}

-- What a call leaves: its answer, and the words of the output.
pub record After : Type 0 where
  pub answer : Result Taken Refusal
  pub out : Words

-- What is told of a table that was written: its rows, and the number of matched sales without an amount.
abbrev pub taken_of : ℕ → ℤ → Taken
taken_of n k = record { rows = n; number = k }

-- A table of subtotals has b by-values, total and sale count.
abbrev pub table_width : Options → ℕ
table_width o = suc (suc o.by)

-- Its words.
abbrev pub table_words : Options → List Subtotal → Words
table_words o ts = table_of (table_width o) (map row_of ts)

-- The columns that a frame says it has; it is a frame of so many.
abbrev pub columns_in : Words → ℕ
columns_in f = nat_abs (get_or f 1 (pos 0))

abbrev pub any_frame : Words → Bool
any_frame f = is_frame (columns_in f) f

-- Refusal 13: an answer frame's columns are neither 1 + p nor, with a distance, one more; or nothing is carried.
abbrev pub known_columns : Options → ℕ → Bool
known_columns o c = not (eqb o.carried 0) && (eqb c (suc o.carried) || eqb c (suc (suc o.carried)))

-- The rows and the subtotals of a table.
abbrev pub rows_in : Options → Words → Rows
rows_in o t = table_rows (table_width o) t

abbrev pub subtotals_in : Options → Words → List Subtotal
subtotals_in o t = subtotals_of o (rows_in o t)

-- Refusal 14: a subtotal table has a null, or a group that does not come after the one before.
unfoldable pub fine_subtotals : Options → Words → Bool
fine_subtotals o t = not (any_null (table_width o) (rows_in o t)) && ascending o (subtotals_in o t)

-- The matched sales of a left frame and its answer frame.
unfoldable pub sales_by : Options → Words → Words → List Sale
sales_by o left answer = sales_of o (frame_rows (columns o) left) (frame_rows (columns_in answer) answer)

-- A result of these subtotals and this number: sale counts beyond 2^31 15, too short an output 6.
unfoldable pub result : Options → List Subtotal → ℕ → Words → Result Taken Refusal
result o ts k out =
    cond (ltb most_sales (sales_in ts) || ltb most_sales k) (Err Beyond)
    (cond (ltb (length out) (frame_words (length ts) (table_width o))) (Err NoRoom)
    (Ok (taken_of (length ts) (pos k))))

abbrev pub leave : Options → List Subtotal → Result Taken Refusal → Words → After
leave o ts (Ok t) out = record { answer = Ok t; out = laid (table_words o ts) out }
leave o ts (Err r) out = record { answer = Err r; out = out }

-- ---- a frame's sales, added to a table and its number
-- Refusals: 1, 10, 11; 5 (a table or frame that is none, unequal heights), 12, 13, 14, 15, 6.
unfoldable pub add_answer : Options → Words → ℤ → Words → Words → Words → Result Taken Refusal
add_answer o table k left answer out =
    let sales = sales_by o left answer in
    unless Err o
    (cond (not (is_table (table_width o) table && is_frame (columns o) left && any_frame answer && eqb (row_count left) (row_count answer))) (Err BadFrame)
    (cond (lacks_code o (rows_in o table) || lacks_code o (frame_rows (columns o) left)) (Err UnknownCode)
    (cond (not (known_columns o (columns_in answer))) (Err BadColumns)
    (cond (not (fine_subtotals o table)) (Err Unsorted)
    (cond (beyond_rows o (rows_in o table) || beyond_number k || beyond_amounts (amounts_of sales)) (Err Beyond)
    (result o (add_all o (subtotals_in o table) (amounts_of sales)) (nat_abs k + nulls_of sales) out))))))

unfoldable pub add_call : Options → Words → ℤ → Words → Words → Words → After
add_call o table k left answer out =
    leave o (add_all o (subtotals_in o table) (amounts_of (sales_by o left answer))) (add_answer o table k left answer out) out

-- ---- two tables of subtotals with their numbers, joined
unfoldable pub join_answer : Options → Words → ℤ → Words → ℤ → Words → Result Taken Refusal
join_answer o table k other l out =
    unless Err o
    (cond (not (is_table (table_width o) table && is_table (table_width o) other)) (Err BadFrame)
    (cond (lacks_code o (rows_in o table) || lacks_code o (rows_in o other)) (Err UnknownCode)
    (cond (eqb o.carried 0) (Err BadColumns)
    (cond (not (fine_subtotals o table && fine_subtotals o other)) (Err Unsorted)
    (cond (beyond_rows o (rows_in o table) || beyond_rows o (rows_in o other) || beyond_number k || beyond_number l) (Err Beyond)
    (result o (add_all o (subtotals_in o table) (subtotals_in o other)) (nat_abs k + nat_abs l) out))))))

unfoldable pub join_call : Options → Words → ℤ → Words → ℤ → Words → After
join_call o table k other l out =
    leave o (add_all o (subtotals_in o table) (subtotals_in o other)) (join_answer o table k other l out) out
