-- Plans by computation: the figures of frames, and what the call answers. Assumes nothing.
use Rattle.frames.specs.declared.refusals.Refusal.{Refusal}
use Rattle.std.specs.Prelude.{Result, Ok, Err}
use mathlib.Core.Path.{◌≡◌, refl}
use mathlib.Core.Bool.{true, false}
use mathlib.Core.List.{List, [], ◌∷◌, map}
use Prim.Native.Nat.{ℕ}
use lib.IntN.{pos, negsuc}
use Rattle.frames.specs.Cells.{null, value, Rows, Words, rows_of, cells_of}
use Rattle.frames.specs.Frame.{is_table, pairs_fine, frame_rows}
use Rattle.order.specs.ranks.Ranks.{bad_ranks, rises, rises_behind, below, placed, listed}
use Rattle.order.specs.options.Options.{bad_options}
use Rattle.order.specs.declared.options.Options.{Options}
use Rattle.order.specs.Order.{sorted, cmp_row, cmp_first}
use Rattle.order.specs.Listed.{unlisted_in}
use Rattle.order.proofs.Samples.{options, plain, carrying, ranks_by, ranking, row, keys, frame_of}
use Rattle.searching.specs.Search.{search, search_for, find}
use Rattle.searching.specs.Reach.{need_more, row_needs_more, key_needs_more, narrow, narrow_by, split_at, prune_by}
use Rattle.matchframe.specs.turnrows.Prunes.{first_prune, kept_rows, last_prune}
use Rattle.frames.specs.declared.refusals.Refusal.TheVariants.{BadOptions, TooManyCarried, BadRanks, BadFrame, UnknownCode, Unsorted, BadHeights}
use Rattle.planning.specs.declared.Figures.{Figures}
use Rattle.planning.specs.Heights.{total, any_bad, heights_of, bad_heights, in_frames}
use Rattle.planning.specs.Plan.{plan_from, plan}
use Rattle.planning.specs.Call.{plan_call}

abbrev pub told : ℕ → ℕ → ℕ → Figures
told a b d = record { rows = a; turns = b; rights = d }

-- Left 5, 15 and then 20, 25; right 10, 20 and then 20, 30 and then 40: Backward takes all but the last. Without right frames, and without left ones.
pub planned : plan (plain 0 true) (keys (5 ∷ 15 ∷ []) ∷ keys (20 ∷ 25 ∷ []) ∷ []) (keys (10 ∷ 20 ∷ []) ∷ keys (20 ∷ 30 ∷ []) ∷ keys (40 ∷ []) ∷ [])
    ∷ plan (plain 0 true) (keys (5 ∷ 15 ∷ []) ∷ keys (20 ∷ 25 ∷ []) ∷ []) []
    ∷ plan (plain 0 true) [] (keys (10 ∷ 20 ∷ []) ∷ []) ∷ []
    ≡ told 4 4 2 ∷ told 0 2 0 ∷ told 0 0 0 ∷ []
unfolding plan plan_from need_more row_needs_more key_needs_more narrow narrow_by split_at prune_by find search search_for first_prune last_prune kept_rows
planned = refl

-- Rows that a turn dropped make room: four of the five rows are held at most.
pub planned_apart : plan (plain 0 true) (keys (25 ∷ []) ∷ keys (45 ∷ []) ∷ []) (keys (10 ∷ 20 ∷ []) ∷ keys (30 ∷ 40 ∷ []) ∷ keys (50 ∷ []) ∷ []) ≡ told 4 5 3
unfolding plan plan_from need_more row_needs_more key_needs_more narrow narrow_by split_at prune_by find search search_for first_prune last_prune kept_rows
planned_apart = refl

-- Nine carried columns: 10, behind 1 and before 5.
pub too_many : plan_call (carrying 9 (plain 0 true)) [] [] [] [] ∷ plan_call (carrying 9 (options 5 0 true (negsuc 0) false [] [])) [] [] [] [] ∷ plan_call (carrying 8 (plain 0 true)) [] [] [] [] ∷ []
    ≡ Err TooManyCarried ∷ Err BadOptions ∷ Err BadFrame ∷ []
unfolding plan_call is_table bad_options bad_ranks
too_many = refl

-- By rank the stalls, 7, come first, then the circle, 3, then the gods, 5.
abbrev pub banded : List ℕ → Options
banded codes = ranking (ranks_by 0 (map pos codes)) (options 1 0 true (negsuc 0) false [] [])

abbrev pub bands : Options
bands = banded (7 ∷ 3 ∷ 5 ∷ [])

-- The same rows as tables, cut in the same heights: planned by this list; unsorted, 14, without a list and by another one.
unfoldable pub sold : Rows
sold = map row ((7 ∷ 15 ∷ []) ∷ (3 ∷ 4 ∷ []) ∷ (5 ∷ 9 ∷ []) ∷ [])

unfoldable pub posted : Rows
posted = map row ((7 ∷ 10 ∷ []) ∷ (7 ∷ 12 ∷ []) ∷ (3 ∷ 1 ∷ []) ∷ (5 ∷ 2 ∷ []) ∷ (5 ∷ 20 ∷ []) ∷ [])

abbrev pub answers : Options → Rows → Rows → Result Figures Refusal
answers o left right = plan_call o (frame_of 2 left) (frame_of 2 right) (map pos (2 ∷ 1 ∷ [])) (map pos (2 ∷ 2 ∷ 1 ∷ []))

pub by_rank : answers bands sold posted ∷ answers (options 1 0 true (negsuc 0) false [] []) sold posted ∷ answers (banded (3 ∷ 5 ∷ 7 ∷ [])) sold posted ∷ [] ≡ Ok (told 4 5 3) ∷ Err Unsorted ∷ Err Unsorted ∷ []
unfolding sold posted plan_call bad_options bad_ranks is_table pairs_fine frame_rows rows_of cells_of sorted cmp_row cmp_first bad_heights any_bad heights_of total in_frames plan plan_from need_more row_needs_more key_needs_more narrow narrow_by split_at prune_by find search search_for first_prune last_prune kept_rows rises rises_behind placed below listed unlisted_in
by_rank = refl

-- A list that is empty, that has a code twice, and one for a column that is no by-column: 11, behind 1 and 10 and before 5.
pub bad_lists : plan_call (banded []) [] [] [] [] ∷ plan_call (banded (7 ∷ 3 ∷ 7 ∷ [])) [] [] [] [] ∷ plan_call (ranking (ranks_by 0 (pos 7 ∷ [])) (plain 0 true)) [] [] [] []
    ∷ plan_call (carrying 9 (banded [])) [] [] [] [] ∷ plan_call (ranking (ranks_by 0 []) (options 5 0 true (negsuc 0) false [] [])) [] [] [] [] ∷ plan_call bands [] [] [] [] ∷ []
    ≡ Err BadRanks ∷ Err BadRanks ∷ Err BadRanks ∷ Err TooManyCarried ∷ Err BadOptions ∷ Err BadFrame ∷ []
unfolding plan_call is_table bad_options bad_ranks rises rises_behind placed below
bad_lists = refl

-- A code that the list lacks, on the left alone and on the right alone: 12, behind 5 and before 14. A null is none.
pub unknown_codes : answers bands (row (4 ∷ 1 ∷ []) ∷ sold) posted ∷ answers bands sold (row (4 ∷ 1 ∷ []) ∷ posted) ∷ answers bands (row (4 ∷ []) ∷ sold) posted
    ∷ answers bands ((null ∷ value (pos 1) ∷ []) ∷ map row ((7 ∷ 15 ∷ []) ∷ (3 ∷ 4 ∷ []) ∷ [])) posted ∷ []
    ≡ Err UnknownCode ∷ Err UnknownCode ∷ Err BadFrame ∷ Ok (told 4 4 2) ∷ []
unfolding sold posted plan_call bad_options bad_ranks is_table pairs_fine frame_rows rows_of cells_of sorted cmp_row cmp_first bad_heights any_bad heights_of total in_frames plan plan_from need_more row_needs_more key_needs_more narrow narrow_by split_at prune_by find search search_for first_prune last_prune kept_rows rises rises_behind placed below listed unlisted_in
unknown_codes = refl

-- Heights below 0, above 4,096, or of another sum, on the left alone and on the right alone: 17.
abbrev pub cut_in : Words → Words → Result Figures Refusal
cut_in hl hr = plan_call (plain 0 true) (frame_of 1 (keys (5 ∷ 15 ∷ []))) (frame_of 1 (keys (10 ∷ []))) hl hr

pub heights : cut_in (pos 2 ∷ []) (pos 1 ∷ []) ∷ cut_in (pos 3 ∷ negsuc 0 ∷ []) (pos 1 ∷ []) ∷ cut_in (pos 1 ∷ []) (pos 1 ∷ []) ∷ cut_in (pos 2 ∷ []) (pos 4097 ∷ []) ∷ cut_in (pos 2 ∷ []) []
    ∷ cut_in (pos 0 ∷ pos 2 ∷ pos 0 ∷ []) (pos 1 ∷ []) ∷ []
    ≡ Ok (told 1 2 1) ∷ Err BadHeights ∷ Err BadHeights ∷ Err BadHeights ∷ Err BadHeights ∷ Ok (told 1 4 1) ∷ []
unfolding plan_call bad_options bad_ranks is_table pairs_fine frame_rows rows_of cells_of sorted cmp_row cmp_first bad_heights any_bad heights_of total in_frames plan plan_from need_more row_needs_more key_needs_more narrow narrow_by split_at prune_by find search search_for first_prune last_prune kept_rows
heights = refl
