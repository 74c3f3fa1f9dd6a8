-- The refusals of a join of cut tables, and what it writes, by computation. Assumes nothing.
use Rattle.frames.specs.declared.refusals.Refusal.{Refusal}
use Rattle.std.specs.Prelude.{Result, Ok, Err}
use mathlib.Core.Path.{◌≡◌, refl}
use mathlib.Core.Bool.{true, false}
use mathlib.Core.List.{List, [], ◌∷◌, map}
use Prim.Native.Nat.{ℕ, zero, suc}
use lib.IntN.{pos, negsuc}
use lib.ListN.{replicate}
use Rattle.frames.specs.Cells.{null, Rows, Words, rows_of, cells_of}
use Rattle.frames.specs.Frame.{is_table, is_frame, pairs_fine, frame_rows}
use Rattle.order.specs.options.Options.{bad_options}
use Rattle.order.specs.Order.{sorted, cmp_row, cmp_first, null_in}
use Rattle.order.specs.Listed.{unlisted_in}
use Rattle.order.proofs.Samples.{options, carrying, ranks_by, ranking, row, frame_of}
use Rattle.order.specs.ranks.Ranks.{bad_ranks, rises, rises_behind, below, placed, listed}
use Rattle.order.specs.declared.options.Options.{Options}
use Rattle.frames.specs.refusals.Refusals.{number}
use Rattle.searching.specs.Search.{search, search_for, find}
use Rattle.searching.specs.Reach.{need_more, row_needs_more, key_needs_more, narrow, narrow_by, split_at, prune_by}
use Rattle.matchframe.specs.turnrows.Prunes.{first_prune, kept_rows, last_prune}
use Rattle.planning.specs.Plan.{plan_from, plan}
use Rattle.planning.specs.Heights.{full_heights, in_frames}
use Rattle.matching.specs.Match.{choose, fits, takes_over, tolerate, match_table, whole_table}
use Rattle.matching.specs.Answer.{cells_from, answer_row, answer_rows}
use Rattle.tables.specs.Table.{words_of, table_of, laid}
use Rattle.rows.specs.nulls.Nulls.{any_null}
use Rattle.cutting.specs.boundaries.Boundaries.{cut_at, ascending, bad_boundaries}
use Rattle.cutting.specs.cutpairs.Cut.{cut_by, joined}
use Rattle.cutting.specs.cutpairs.Driver.{words_for, too_short, any_short, input_judged, pairs_judged, join_answer, join_call}

abbrev pub o : Options
o = options 1 0 true (negsuc 0) false [] []

unfoldable pub lefts : Words
lefts = frame_of 2 (map row ((1 ∷ 15 ∷ []) ∷ (2 ∷ 4 ∷ []) ∷ (4 ∷ 9 ∷ []) ∷ (4 ∷ 30 ∷ []) ∷ []))

unfoldable pub rights : Words
rights = frame_of 2 (map row ((1 ∷ 10 ∷ []) ∷ (2 ∷ 3 ∷ []) ∷ (4 ∷ 1 ∷ []) ∷ (4 ∷ 20 ∷ []) ∷ []))

-- Boundaries of one column.
abbrev pub at : List ℕ → Words
at gs = frame_of 1 (map (λ g. row (g ∷ [])) gs)

-- The number of a refusal, or 0.
abbrev pub refused_by : Result ℕ Refusal → ℕ
refused_by (Ok n) = 0
refused_by (Err r) = number r

-- The number that a join of cut tables is refused by, or 0. Whoever unfolds this unfolds all definitions.
unfoldable pub number_of : Options → Words → Words → Words → ℕ → ℕ → ℕ → ℕ
unfolding join_answer input_judged pairs_judged cut_by cut_at any_short too_short words_for full_heights in_frames plan plan_from need_more row_needs_more key_needs_more narrow narrow_by split_at prune_by find search search_for first_prune last_prune kept_rows is_table is_frame pairs_fine frame_rows rows_of cells_of bad_options bad_ranks sorted cmp_row cmp_first null_in bad_boundaries ascending any_null rises rises_behind placed below listed unlisted_in
number_of x left right b l r n = refused_by (join_answer x left right b l r n)

-- The answer, over areas of so many words and an output of n.
unfoldable pub told : Words → ℕ → ℕ → ℕ → ℕ
unfolding lefts rights
told b l r n = number_of o lefts rights b l r n

-- Cut at 2 and 3 the longest pair has two rows on either side: 10 words, and R = 2. One word fewer, one row fewer, one word of output fewer: 6. Uncut, more is needed.
pub rooms : told (at (2 ∷ 3 ∷ [])) 10 8 10 ∷ told (at (2 ∷ 3 ∷ [])) 9 8 10 ∷ told (at (2 ∷ 3 ∷ [])) 10 7 10 ∷ told (at (2 ∷ 3 ∷ [])) 10 8 9 ∷ told (at []) 10 8 10 ∷ told (at []) 18 16 10 ∷ []
    ≡ 0 ∷ 6 ∷ 6 ∷ 6 ∷ 6 ∷ 0 ∷ []
unfolding told number_of
rooms = refl

-- Three sales of performance 1, which has no notice: cut at 2 their pair has no right rows, and needs 14 words for its frame all the same.
unfoldable pub told_lonely : ℕ → ℕ
told_lonely l = number_of o (frame_of 2 (map row ((1 ∷ 5 ∷ []) ∷ (1 ∷ 6 ∷ []) ∷ (1 ∷ 7 ∷ []) ∷ []))) (frame_of 2 (map row ((2 ∷ 3 ∷ []) ∷ []))) (at (2 ∷ [])) l 0 8

pub lonely : told_lonely 13 ∷ told_lonely 14 ∷ [] ≡ 6 ∷ 0 ∷ []
unfolding told_lonely number_of
lonely = refl

-- Not ascending, twice, null: 18, before 6. No frame of b columns: 5.
pub refusals : told (at (3 ∷ 2 ∷ [])) 0 0 0 ∷ told (at (2 ∷ 2 ∷ [])) 10 8 10 ∷ told (frame_of 1 ((null ∷ []) ∷ [])) 10 8 10 ∷ told (frame_of 2 (map row ((2 ∷ 1 ∷ []) ∷ []))) 10 8 10 ∷ []
    ≡ 18 ∷ 18 ∷ 18 ∷ 5 ∷ []
unfolding told number_of
refusals = refl

-- Sixteen boundaries pass, seventeen are 18. Where b is 0, none passes, one is 18.
abbrev pub up_to : ℕ → ℕ → List ℕ
up_to zero i = []
up_to (suc n) i = i ∷ up_to n (suc i)

abbrev pub plainly : Options
plainly = options 0 0 true (negsuc 0) false [] []

pub counts : told (at (up_to 16 1)) 10 8 10 ∷ told (at (up_to 17 1)) 10 8 10
    ∷ (number_of plainly (pos 0 ∷ pos 1 ∷ []) (pos 0 ∷ pos 1 ∷ []) (pos 0 ∷ pos 0 ∷ []) 0 0 2) ∷ (number_of plainly (pos 0 ∷ pos 1 ∷ []) (pos 0 ∷ pos 1 ∷ []) (pos 1 ∷ pos 0 ∷ []) 0 0 2) ∷ []
    ≡ 0 ∷ 18 ∷ 0 ∷ 18 ∷ []
unfolding told number_of
counts = refl

-- With a price behind each right key: R = 2 wants 12 words, an answer of four rows and two columns 18. A left table as wide as the right one: 5. Nine carried columns: 10, behind 1.
unfoldable pub priced : Words
priced = frame_of 3 (map row ((1 ∷ 10 ∷ 7 ∷ []) ∷ (2 ∷ 3 ∷ 8 ∷ []) ∷ (4 ∷ 1 ∷ 9 ∷ []) ∷ (4 ∷ 20 ∷ 6 ∷ []) ∷ []))

unfoldable pub told_priced : Options → Words → ℕ → ℕ → ℕ
unfolding priced
told_priced x left r n = number_of x left priced (at (2 ∷ 3 ∷ [])) 10 r n

pub carried : told_priced (carrying 1 o) lefts 12 18 ∷ told_priced (carrying 1 o) lefts 11 18 ∷ told_priced (carrying 1 o) lefts 12 17 ∷ told_priced (carrying 1 o) priced 12 18
    ∷ told_priced (carrying 9 o) [] 0 0 ∷ told_priced (carrying 9 (options 5 0 true (negsuc 0) false [] [])) [] 0 0 ∷ []
    ≡ 0 ∷ 6 ∷ 6 ∷ 5 ∷ 10 ∷ 1 ∷ []
unfolding told_priced lefts number_of
carried = refl

-- By rank the stalls, 7, come first, then the circle, 3, then the gods, 5.
abbrev pub banded : List ℕ → Options
banded codes = ranking (ranks_by 0 (map pos codes)) o

abbrev pub bands : Options
bands = banded (7 ∷ 3 ∷ 5 ∷ [])

unfoldable pub sold : Rows
sold = map row ((7 ∷ 15 ∷ []) ∷ (3 ∷ 4 ∷ []) ∷ (5 ∷ 9 ∷ []) ∷ (5 ∷ 30 ∷ []) ∷ [])

unfoldable pub posted : Rows
posted = map row ((7 ∷ 10 ∷ []) ∷ (3 ∷ 1 ∷ []) ∷ (3 ∷ 2 ∷ []) ∷ (5 ∷ 1 ∷ []) ∷ (5 ∷ 20 ∷ []) ∷ [])

unfoldable pub told_banded : Options → Rows → Rows → Words → ℕ
told_banded x left right b = number_of x (frame_of 2 left) (frame_of 2 right) b 10 8 10

-- Boundaries ascend by rank: 7, 3 and 5 do, 3, 5 and 7 do not. Without a list, and by another one, the tables are unsorted.
pub ranked : told_banded bands sold posted (at (7 ∷ 3 ∷ 5 ∷ [])) ∷ told_banded bands sold posted (at (3 ∷ 5 ∷ 7 ∷ [])) ∷ told_banded o sold posted (at (3 ∷ 5 ∷ []))
    ∷ told_banded (banded (3 ∷ 5 ∷ 7 ∷ [])) sold posted (at (3 ∷ 5 ∷ [])) ∷ []
    ≡ 0 ∷ 18 ∷ 14 ∷ 14 ∷ []
unfolding sold posted told_banded number_of
ranked = refl

pub ranked_output : (join_call bands (frame_of 2 sold) (frame_of 2 posted) (at (3 ∷ 5 ∷ [])) 10 8 (replicate 11 (negsuc 8))).out
    ≡ pos 4 ∷ pos 1 ∷ pos 0 ∷ pos 2 ∷ pos 3 ∷ pos 4 ∷ pos 1 ∷ pos 1 ∷ pos 1 ∷ pos 1 ∷ negsuc 8 ∷ []
unfolding sold posted join_call joined whole_table match_table tolerate choose fits takes_over answer_rows answer_row cells_from laid table_of words_of number_of
ranked_output = refl

-- An empty list, a code twice: 11, behind 10 and before 5.
pub bad_lists : (number_of (banded []) [] [] [] 0 0 0) ∷ (number_of (banded (7 ∷ 3 ∷ 7 ∷ [])) [] [] [] 0 0 0) ∷ (number_of (carrying 9 (banded [])) [] [] [] 0 0 0) ∷ (number_of bands [] [] [] 0 0 0) ∷ []
    ≡ 11 ∷ 11 ∷ 10 ∷ 5 ∷ []
unfolding number_of
bad_lists = refl

-- A code that the list lacks, on the left alone and on the right alone, each before 14, and in a boundary alone, before 18: 12, behind 5. A null boundary has no code: 18.
pub unknown_codes : told_banded bands (row (4 ∷ 1 ∷ []) ∷ sold) posted (at (3 ∷ 5 ∷ [])) ∷ told_banded bands sold (row (4 ∷ 1 ∷ []) ∷ posted) (at (3 ∷ 5 ∷ [])) ∷ told_banded bands sold posted (at (4 ∷ 5 ∷ []))
    ∷ told_banded bands (row (4 ∷ 1 ∷ []) ∷ sold) posted (frame_of 2 (map row ((3 ∷ 5 ∷ []) ∷ []))) ∷ told_banded bands sold posted (frame_of 1 ((null ∷ []) ∷ [])) ∷ []
    ≡ 12 ∷ 12 ∷ 12 ∷ 5 ∷ 18 ∷ []
unfolding sold posted told_banded number_of
unknown_codes = refl
