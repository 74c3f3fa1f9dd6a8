-- Small books, by computation. Assumes nothing.
use Rattle.frames.specs.declared.refusals.Refusal.{Refusal}
use Rattle.std.specs.Prelude.{Some, Result, Ok, Err}
use mathlib.Core.Path.{◌≡◌, refl}
use mathlib.Core.Bool.{true, false}
use mathlib.Core.List.{List, [], ◌∷◌, map}
use Prim.Native.Nat.{ℕ}
use lib.IntN.{pos, negsuc}
use Rattle.frames.specs.Cells.{Cell, null, value, Rows, Words, rows_of, cells_of}
use Rattle.frames.specs.Frame.{frame_rows, pairs_fine, is_table}
use Rattle.order.specs.ranks.Ranks.{bad_ranks, rises, rises_behind, below, placed, listed as in_list}
use Rattle.order.specs.options.Options.{bad_options}
use Rattle.order.specs.Order.{cmp_row, cmp_first, null_in, sorted}
use Rattle.order.specs.declared.options.Options.{Options}
use Rattle.order.specs.Listed.{unlisted_in}
use Rattle.order.proofs.Samples.{options, carrying, ranking, ranks_by, row, frame_of}
use Rattle.matching.specs.Match.{whole_table, match_table, choose, tolerate, fits, takes_over}
use Rattle.tables.specs.Table.{words_of, table_of, laid}
use Rattle.frames.specs.declared.refusals.Refusal.TheVariants.{TooManyCarried, BadFrame, UnknownCode, BadColumns, Unsorted, NoRoom}
use Rattle.books.specs.Merge.{merge}
use Rattle.books.specs.Standing.{notices, notice_of, stands, corrected, last_of, standing, places, translated}
use Rattle.books.specs.Calls.{merge_answer, merge_call, stand_answer}

-- Groups of one by-column, Backward.
abbrev one : ℕ → Options
one strategy = options 1 strategy true (negsuc 0) false [] []

-- The same with p carried columns and a list that has the groups 1, 2, 3 and 7, in this order.
abbrev with : ℕ → Options
with p = carrying p (ranking (ranks_by 0 (map pos (1 ∷ 2 ∷ 3 ∷ 7 ∷ []))) (one 0))

-- ---- two books: performance, minute, price. The house's 20 comes before the festival's 20 of the same group; equal rows of one book stay in their order.
abbrev house : Rows
house = row (1 ∷ 10 ∷ 100 ∷ []) ∷ row (1 ∷ 20 ∷ 101 ∷ []) ∷ row (1 ∷ 20 ∷ 102 ∷ []) ∷ row (3 ∷ 5 ∷ 103 ∷ []) ∷ []

abbrev festival : Rows
festival = (null ∷ value (pos 1) ∷ value (pos 200) ∷ []) ∷ row (1 ∷ 20 ∷ 201 ∷ []) ∷ row (1 ∷ 20 ∷ 202 ∷ []) ∷ row (2 ∷ 1 ∷ 203 ∷ []) ∷ []

pub merges :
    merge (one 0) house festival
    ≡ (null ∷ value (pos 1) ∷ value (pos 200) ∷ []) ∷ row (1 ∷ 10 ∷ 100 ∷ []) ∷ row (1 ∷ 20 ∷ 101 ∷ []) ∷ row (1 ∷ 20 ∷ 102 ∷ []) ∷ row (1 ∷ 20 ∷ 201 ∷ [])
    ∷ row (1 ∷ 20 ∷ 202 ∷ []) ∷ row (2 ∷ 1 ∷ 203 ∷ []) ∷ row (3 ∷ 5 ∷ 103 ∷ []) ∷ []
unfolding merge cmp_row cmp_first
merges = refl

-- The words: the festival's row is less, and the output has two words more, which stay.
pub merge_words :
    merge_call (with 0) (pos 1 ∷ pos 2 ∷ pos 1 ∷ pos 9 ∷ pos 1 ∷ pos 1 ∷ []) (pos 1 ∷ pos 2 ∷ pos 1 ∷ pos 0 ∷ pos 1 ∷ pos 0 ∷ [])
    (pos 7 ∷ pos 7 ∷ pos 7 ∷ pos 7 ∷ pos 7 ∷ pos 7 ∷ pos 7 ∷ pos 7 ∷ pos 7 ∷ pos 7 ∷ pos 7 ∷ pos 8 ∷ [])
    ≡ record {
      answer = Ok 2;
      out = pos 2 ∷ pos 2 ∷ pos 1 ∷ pos 0 ∷ pos 1 ∷ pos 9 ∷ pos 1 ∷ pos 0 ∷ pos 1 ∷ pos 1 ∷ pos 7 ∷ pos 8 ∷ [];
    }
unfolding merge_call merge_answer bad_options is_table pairs_fine frame_rows rows_of cells_of bad_ranks rises rises_behind placed below in_list unlisted_in sorted merge cmp_row cmp_first words_of table_of laid
merge_words = refl

-- The refusals of a merge, in checking order: 10, 5 (another c), 12 before 14, 14 before 6, 6.
abbrev none_out : Words
none_out = []

abbrev answers : List (Result ℕ Refusal)
answers =
    merge_answer (with 9) [] [] none_out
    ∷ merge_answer (with 0) (frame_of 2 (row (1 ∷ 9 ∷ []) ∷ [])) (frame_of 3 (row (9 ∷ 9 ∷ 9 ∷ []) ∷ [])) none_out
    ∷ merge_answer (with 0) (frame_of 2 (row (8 ∷ 9 ∷ []) ∷ row (1 ∷ 9 ∷ []) ∷ [])) (frame_of 2 []) none_out
    ∷ merge_answer (with 0) (frame_of 2 []) (frame_of 2 (row (7 ∷ 9 ∷ []) ∷ row (1 ∷ 9 ∷ []) ∷ [])) none_out
    ∷ merge_answer (with 0) (frame_of 2 []) (frame_of 2 (row (1 ∷ 9 ∷ []) ∷ [])) (pos 0 ∷ pos 0 ∷ pos 0 ∷ pos 0 ∷ pos 0 ∷ [])
    ∷ []

pub merge_refusals : answers ≡ Err TooManyCarried ∷ Err BadFrame ∷ Err UnknownCode ∷ Err Unsorted ∷ Err NoRoom ∷ []
unfolding merge_answer bad_options is_table pairs_fine frame_rows rows_of cells_of bad_ranks rises rises_behind placed below in_list unlisted_in sorted merge cmp_row cmp_first
merge_refusals = refl

-- ---- which notice stands: performance, minute, withdrawn. A correction; a correction that withdraws; a withdrawal that was corrected; null group and key.
abbrev book : Rows
book =
    (null ∷ value (pos 1) ∷ value (pos 0) ∷ []) ∷ (value (pos 1) ∷ null ∷ value (pos 0) ∷ []) ∷ row (1 ∷ 10 ∷ 0 ∷ []) ∷ row (1 ∷ 10 ∷ 2 ∷ [])
    ∷ row (1 ∷ 20 ∷ 0 ∷ []) ∷ row (1 ∷ 20 ∷ 1 ∷ []) ∷ row (2 ∷ 20 ∷ 1 ∷ []) ∷ (value (pos 2) ∷ value (pos 20) ∷ null ∷ []) ∷ []

abbrev no : List Cell
no = value (pos 0) ∷ null ∷ []

abbrev yes' : List Cell
yes' = value (pos 1) ∷ null ∷ []

abbrev names : ℕ → List Cell
names n = value (pos 0) ∷ value (pos n) ∷ []

pub listed : notices (one 0) 0 0 book ≡ no ∷ no ∷ names 3 ∷ yes' ∷ names 5 ∷ names 5 ∷ names 7 ∷ yes' ∷ []
unfolding notices notice_of stands corrected last_of cmp_row cmp_first null_in
listed = refl

pub stood : places (one 0) 0 0 book ≡ 3 ∷ 7 ∷ []
unfolding places stands corrected cmp_row cmp_first null_in
stood = refl

-- With no withdrawals Backward picks the correction; Forward picks the notice that was corrected, and over the standing table the correction.
abbrev plain : Rows
plain = row (1 ∷ 10 ∷ 0 ∷ []) ∷ row (1 ∷ 20 ∷ 0 ∷ []) ∷ row (1 ∷ 20 ∷ 0 ∷ []) ∷ []

pub picks :
    whole_table (one 0) plain (row (1 ∷ 25 ∷ [])) ∷ translated (places (one 0) 0 0 plain) (whole_table (one 0) (standing (one 0) 0 plain) (row (1 ∷ 25 ∷ [])))
    ∷ whole_table (one 1) plain (row (1 ∷ 15 ∷ [])) ∷ translated (places (one 1) 0 0 plain) (whole_table (one 1) (standing (one 1) 0 plain) (row (1 ∷ 15 ∷ []))) ∷ []
    ≡ Some 2 ∷ Some 2 ∷ Some 1 ∷ Some 2 ∷ []
unfolding whole_table match_table choose tolerate fits takes_over places standing stands corrected cmp_row cmp_first null_in
picks = refl

-- Of three notices of one performance and minute the first two name the third; a null beside them names none.
pub last_named :
    notices (one 0) 0 0 (row (1 ∷ 10 ∷ 0 ∷ []) ∷ row (1 ∷ 10 ∷ 1 ∷ []) ∷ row (1 ∷ 10 ∷ 0 ∷ []) ∷ (value (pos 2) ∷ null ∷ value (pos 0) ∷ []) ∷ []) ≡ names 2 ∷ names 2 ∷ yes' ∷ no ∷ []
unfolding notices notice_of stands corrected last_of cmp_row cmp_first null_in
last_named = refl

-- The refusals: 13 where p is 0 or q is no place among the p columns, before 14, before 6.
pub stand_refusals :
    stand_answer (with 0) 0 (frame_of 2 []) none_out ∷ stand_answer (with 1) 1 (frame_of 3 (row (2 ∷ 1 ∷ 0 ∷ []) ∷ row (1 ∷ 1 ∷ 0 ∷ []) ∷ [])) none_out
    ∷ stand_answer (with 1) 0 (frame_of 3 (row (2 ∷ 1 ∷ 0 ∷ []) ∷ row (1 ∷ 1 ∷ 0 ∷ []) ∷ [])) none_out ∷ stand_answer (with 1) 0 (frame_of 3 (row (1 ∷ 1 ∷ 0 ∷ []) ∷ [])) none_out ∷ []
    ≡ Err BadColumns ∷ Err BadColumns ∷ Err Unsorted ∷ Err NoRoom ∷ []
unfolding stand_answer bad_options is_table pairs_fine frame_rows rows_of cells_of bad_ranks rises rises_behind placed below in_list unlisted_in sorted cmp_row cmp_first
stand_refusals = refl
