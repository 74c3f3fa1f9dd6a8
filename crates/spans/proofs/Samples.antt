-- Passes over small spans, by computation. Assumes nothing.
use Rattle.std.specs.Prelude.{Ok, Err}
use mathlib.Core.Path.{◌≡◌, refl}
use mathlib.Core.Bool.{Bool, true, false}
use mathlib.Core.List.{[], ◌∷◌}
use lib.IntN.{pos}
use Rattle.frames.specs.Cells.{null, value, Rows, rows_of, cells_of}
use Rattle.frames.specs.Frame.{is_frame, frame_rows, pairs_fine, is_table}
use Rattle.order.proofs.Samples.{row, keys, frame_of}
use Rattle.searching.specs.Search.{find, search, search_for}
use Rattle.tables.specs.Table.{words_of, table_of, laid}
use Rattle.frames.specs.declared.refusals.Refusal.TheVariants.{BadFrame, BadPoints, NoRoom}
use Rattle.spans.specs.Span.{covered, pair_row, pairs_from, pairs, ascending_points}
use Rattle.spans.specs.declared.Bounds.{Bounds}
use Rattle.spans.specs.Port.{ported_from, up_from}
use Rattle.spans.specs.Calls.{pairs_in, span_answer, span_call}

abbrev bounds : Bool → Bool → Bounds
bounds l u = record { lower_in = l; upper_in = u }

abbrev points : Rows
points = keys (10 ∷ 20 ∷ 20 ∷ 30 ∷ [])

-- A span from 10 to 20; one without an end, which is dropped and counted; one from 20 to 10, which is empty; one from 20 to 30.
abbrev spans : Rows
spans = row (10 ∷ 20 ∷ []) ∷ (value (pos 10) ∷ null ∷ []) ∷ row (20 ∷ 10 ∷ []) ∷ row (20 ∷ 30 ∷ []) ∷ []

-- Both bounds inclusive; the lower exclusive; the upper exclusive; both exclusive.
pub both_in : pairs (bounds true true) points spans ≡ pair_row 0 0 ∷ pair_row 0 1 ∷ pair_row 0 2 ∷ pair_row 3 1 ∷ pair_row 3 2 ∷ pair_row 3 3 ∷ []
unfolding pairs_from covered
both_in = refl

pub lower_out : pairs (bounds false true) points spans ≡ pair_row 0 1 ∷ pair_row 0 2 ∷ pair_row 3 3 ∷ []
unfolding pairs_from covered
lower_out = refl

pub upper_out : pairs (bounds true false) points spans ≡ pair_row 0 0 ∷ pair_row 3 1 ∷ pair_row 3 2 ∷ []
unfolding pairs_from covered
upper_out = refl

pub both_out : pairs (bounds false false) points spans ≡ []
unfolding pairs_from covered
both_out = refl

-- The port's searches give the same.
pub ported : ported_from (bounds true true) points 0 spans ≡ pair_row 0 0 ∷ pair_row 0 1 ∷ pair_row 0 2 ∷ pair_row 3 1 ∷ pair_row 3 2 ∷ pair_row 3 3 ∷ []
unfolding ported_from up_from find search search_for
ported = refl

-- The words: a table of two columns, and what is behind it stays.
pub words :
    span_call (bounds true false) (frame_of 1 (keys (10 ∷ 20 ∷ []))) (frame_of 2 ((null ∷ value (pos 20) ∷ []) ∷ row (10 ∷ 20 ∷ []) ∷ [])) (pos 9 ∷ pos 9 ∷ pos 9 ∷ pos 9 ∷ pos 9 ∷ pos 9 ∷ pos 9 ∷ [])
    ≡ record { answer = Ok 1; out = pos 1 ∷ pos 2 ∷ pos 1 ∷ pos 0 ∷ pos 1 ∷ pos 1 ∷ pos 9 ∷ [] }
unfolding span_call span_answer pairs_in is_frame is_table pairs_fine frame_rows rows_of cells_of ascending_points pairs_from covered words_of table_of laid
words = refl

-- The refusals: intervals of another c 5; a null among the points 16, points out of order 16; no room 6; no pair needs two words.
pub refusals :
    span_answer (bounds true true) (frame_of 1 (keys (20 ∷ 10 ∷ []))) (frame_of 1 []) [] ∷ span_answer (bounds true true) (frame_of 1 ((value (pos 10) ∷ []) ∷ (null ∷ []) ∷ [])) (frame_of 2 []) []
    ∷ span_answer (bounds true true) (frame_of 1 (keys (20 ∷ 10 ∷ []))) (frame_of 2 []) [] ∷ span_answer (bounds true true) (frame_of 1 (keys (10 ∷ []))) (frame_of 2 (row (10 ∷ 10 ∷ []) ∷ [])) (pos 0 ∷ pos 0 ∷ [])
    ∷ span_answer (bounds true false) (frame_of 1 (keys (10 ∷ []))) (frame_of 2 (row (10 ∷ 10 ∷ []) ∷ [])) (pos 0 ∷ pos 0 ∷ []) ∷ []
    ≡ Err BadFrame ∷ Err BadPoints ∷ Err BadPoints ∷ Err NoRoom ∷ Ok 0 ∷ []
unfolding span_answer pairs_in is_frame is_table pairs_fine frame_rows rows_of cells_of ascending_points pairs_from covered
refusals = refl
