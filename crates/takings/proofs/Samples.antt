-- Takings of small frames, by computation. Assumes nothing.
use Rattle.frames.specs.declared.refusals.Refusal.{Refusal}
use Rattle.std.specs.Prelude.{Result, Err, Some, Ok}
use mathlib.Core.Path.{◌≡◌, refl}
use mathlib.Core.Bool.{true, false}
use mathlib.Core.List.{[], ◌∷◌, map}
use Prim.Native.Nat.{ℕ}
use lib.IntN.{pos, negsuc}
use lib.ListN.{replicate}
use Rattle.frames.specs.Cells.{null, value, Words, rows_of, cells_of}
use Rattle.frames.specs.Frame.{is_frame, frame_rows, pairs_fine, is_table}
use Rattle.order.specs.ranks.Ranks.{bad_ranks, rises, rises_behind, placed, below, listed}
use Rattle.order.specs.options.Options.{bad_options}
use Rattle.order.specs.declared.options.Options.{Options}
use Rattle.order.specs.Order.{cmp_first, null_in}
use Rattle.order.specs.Listed.{unlisted_in}
use Rattle.order.proofs.Samples.{options, carrying, ranking, ranks_by, row, frame_of}
use Rattle.tables.specs.Table.{words_of, table_of, laid}
use Rattle.frames.specs.declared.refusals.Refusal.TheVariants.{BadFrame, UnknownCode, BadColumns, Unsorted, Beyond, NoRoom}
use Rattle.rows.specs.nulls.Nulls.{any_null}
use Rattle.takings.specs.Subtotals.{insert, add_all, ascending, subtotals_of, beyond_row, beyond_rows, sales_in}
use Rattle.takings.specs.Sales.{sales_of, amounts_of, nulls_of, beyond_amounts}
use Rattle.takings.specs.Calls.{fine_subtotals, sales_by, result, add_answer, add_call, join_answer, join_call}
use Rattle.takings.specs.Orders.{Account, fresh, adding, joining, given}
use Rattle.takings.specs.declared.Taken.{Taken}
use Rattle.takings.specs.Calls.{taken_of}

-- One by-column with a list that has the groups 1, 2 and 7, in this order; p carried columns.
abbrev with : ℕ → Options
with p = carrying p (ranking (ranks_by 0 (map pos (1 ∷ 2 ∷ 7 ∷ []))) (options 1 0 true (negsuc 0) false [] []))

-- Sales of performances 2, 1, 2, null and 1 in one frame and of 2 in another; the answers have a right number, price and a second column. The sale of the
-- null group counts as unmatched, the last of the first frame has no amount, the third of it has no match.
abbrev left1 : Words
left1 = frame_of 2 (row (2 ∷ 5 ∷ []) ∷ row (1 ∷ 5 ∷ []) ∷ row (2 ∷ 6 ∷ []) ∷ (null ∷ value (pos 7) ∷ []) ∷ row (1 ∷ 8 ∷ []) ∷ [])

abbrev answer1 : Words
answer1 = frame_of 3 (row (0 ∷ 1800 ∷ 4 ∷ []) ∷ row (1 ∷ 1200 ∷ 4 ∷ []) ∷ (null ∷ null ∷ null ∷ []) ∷ row (2 ∷ 55 ∷ 4 ∷ []) ∷ (value (pos 3) ∷ null ∷ value (pos 4) ∷ []) ∷ [])

abbrev left2 : Words
left2 = frame_of 2 (row (2 ∷ 9 ∷ []) ∷ [])

-- With the distance, which is no amount: 2 + p columns.
abbrev answer2 : Words
answer2 = frame_of 4 ((value (pos 7) ∷ value (negsuc 99) ∷ value (pos 4) ∷ value (pos 3) ∷ []) ∷ [])

abbrev out : Words
out = replicate 15 (pos 9)

-- 1: total 1,200 of 1 sale; 2: total 1,700 of 2 sales; one sale without an amount.
abbrev all : Account
all = record { table = pos 2 ∷ pos 3 ∷ pos 1 ∷ pos 1200 ∷ pos 1 ∷ pos 2 ∷ pos 1700 ∷ pos 2 ∷ pos 1 ∷ pos 1 ∷ pos 1 ∷ pos 1 ∷ pos 1 ∷ pos 1 ∷ []; number = pos 1 }

pub frame_by_frame : given (with 2) (adding (adding fresh left1 answer1 out) left2 answer2 out) ≡ Some all
unfolding given add_call add_answer sales_by fine_subtotals result bad_options is_table is_frame pairs_fine frame_rows rows_of cells_of bad_ranks rises rises_behind placed below listed unlisted_in any_null null_in ascending subtotals_of beyond_rows beyond_row beyond_amounts sales_in sales_of amounts_of nulls_of add_all insert cmp_first words_of table_of laid
frame_by_frame = refl

pub other_way : given (with 2) (adding (adding fresh left2 answer2 out) left1 answer1 out) ≡ Some all
unfolding given add_call add_answer sales_by fine_subtotals result bad_options is_table is_frame pairs_fine frame_rows rows_of cells_of bad_ranks rises rises_behind placed below listed unlisted_in any_null null_in ascending subtotals_of beyond_rows beyond_row beyond_amounts sales_in sales_of amounts_of nulls_of add_all insert cmp_first words_of table_of laid
other_way = refl

pub joined : given (with 2) (joining (adding fresh left2 answer2 out) (adding fresh left1 answer1 out) out) ≡ Some all
unfolding given add_call add_answer join_call join_answer sales_by fine_subtotals result bad_options is_table is_frame pairs_fine frame_rows rows_of cells_of bad_ranks rises rises_behind placed below listed unlisted_in any_null null_in ascending subtotals_of beyond_rows beyond_row beyond_amounts sales_in sales_of amounts_of nulls_of add_all insert cmp_first words_of table_of laid
joined = refl

-- The refusals of an addition, in checking order: unequal heights 5; a code that the list lacks 12; p = 0 13, an answer of p columns 13; a subtotal table
-- with a null 14, with a group twice 14; an amount beyond 15, a count of 0 15, a total beyond its count 15, a number below 0 15; an output too short 6.
abbrev empty : Words
empty = frame_of 3 []

abbrev sold : ℕ → Words
sold n = frame_of 3 (row (1 ∷ n ∷ []) ∷ [])

abbrev add : ℕ → Words → Words → Words → Result Taken Refusal
add p table left answer = add_answer (with p) table (pos 0) left answer []

abbrev sale : Words
sale = frame_of 2 (row (1 ∷ 5 ∷ []) ∷ [])

abbrev price : ℕ → Words
price n = frame_of 2 (row (0 ∷ n ∷ []) ∷ [])

pub refusals :
    add 1 empty left1 (price 5) ∷ add 0 empty (frame_of 2 (row (8 ∷ 5 ∷ []) ∷ [])) (price 5) ∷ add 0 empty sale (price 5) ∷ add 2 (frame_of 3 ((value (pos 1) ∷ null ∷ value (pos 1) ∷ []) ∷ [])) sale (price 5)
    ∷ add 1 (frame_of 3 ((value (pos 1) ∷ null ∷ value (pos 1) ∷ []) ∷ [])) sale (price 2000000000)
    ∷ add 1 (frame_of 3 (row (1 ∷ 5 ∷ 1 ∷ []) ∷ row (1 ∷ 5 ∷ 1 ∷ []) ∷ [])) sale (price 5)
    ∷ add 1 empty sale (price 1000000001) ∷ add 1 (frame_of 3 (row (1 ∷ 0 ∷ 0 ∷ []) ∷ [])) sale (price 5) ∷ add 1 (frame_of 3 (row (1 ∷ 1000000001 ∷ 1 ∷ []) ∷ [])) sale (price 5)
    ∷ add_answer (with 1) empty (negsuc 0) sale (price 5) [] ∷ add 1 (frame_of 3 (row (1 ∷ 1000000000 ∷ 1 ∷ []) ∷ [])) sale (price 1000000000) ∷ []
    ≡ Err BadFrame ∷ Err UnknownCode ∷ Err BadColumns ∷ Err BadColumns ∷ Err Unsorted ∷ Err Unsorted ∷ Err Beyond ∷ Err Beyond ∷ Err Beyond
    ∷ Err Beyond ∷ Err NoRoom ∷ []
unfolding add_answer sales_by fine_subtotals result bad_options is_table is_frame pairs_fine frame_rows rows_of cells_of bad_ranks rises rises_behind placed below listed unlisted_in any_null null_in ascending subtotals_of beyond_rows beyond_row beyond_amounts sales_in sales_of amounts_of nulls_of add_all insert cmp_first
refusals = refl

-- The result's sum of sale counts: 2^31 sales pass, one more is 15; so is the number of sales without an amount.
abbrev many : ℕ → Words
many n = frame_of 3 (row (1 ∷ 0 ∷ n ∷ []) ∷ [])

pub most :
    join_answer (with 1) (many 2147483647) (pos 2147483647) (many 1) (pos 1) (replicate 8 (pos 0)) ∷ join_answer (with 1) (many 2147483647) (pos 0) (many 2) (pos 0) (replicate 8 (pos 0))
    ∷ join_answer (with 1) (many 1) (pos 2147483647) (many 1) (pos 2) (replicate 8 (pos 0)) ∷ join_answer (with 0) (many 1) (pos 0) (many 1) (pos 0) (replicate 8 (pos 0)) ∷ []
    ≡ Ok (taken_of 1 (pos 2147483648)) ∷ Err Beyond ∷ Err Beyond ∷ Err BadColumns ∷ []
unfolding join_answer fine_subtotals result bad_options is_table pairs_fine frame_rows rows_of cells_of bad_ranks rises rises_behind placed below listed unlisted_in any_null null_in ascending subtotals_of beyond_rows beyond_row sales_in add_all insert cmp_first
most = refl
