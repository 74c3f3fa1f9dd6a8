-- One list of calls in which a price is carried along, by computation: its rows are sorted as declared, and what was written is the whole table's; then what a
-- carried column changes besides: how many rows an area holds, what is remembered, what a join may say. Assumes nothing.
use mathlib.Core.Path.{◌≡◌, refl}
use mathlib.Core.Bool.{true}
use mathlib.Core.List.{List, [], ◌∷◌, ◌++◌, map}
use Prim.Native.Nat.{ℕ}
use lib.IntN.{pos, negsuc}
use Rattle.frames.specs.Cells.{null, value, Rows, Words}
use Rattle.order.specs.Order.{sorted, cmp_row, cmp_first, null_in}
use Rattle.order.proofs.Samples.{options, plain, carrying, row, keys, frame_of}
use Rattle.order.specs.declared.options.Options.{Options}
use Rattle.matching.specs.Match.{choose, takes_over, fits, tolerate, match_table, whole_table}
use Rattle.matching.specs.Answer.{cells_from, answer_row}
use Rattle.lists.specs.Lists.{Call, left, right, end, turn, start, events, final, left_frames, right_frames, rows_in, outputs, Entry, entries_of, written_in, matches_in}
use Rattle.lists.specs.WholeTables.{due_over, lefts, rights, turned_rows, matches}
use Rattle.lists.proofs.Script.{ok, refused, wrote, wants, left_area, right_area, space, says, speak_all}

-- Backward, one carried column.
abbrev pub o : Options
o = carrying 1 (plain 0 true)

-- Right 10 and 20, and later 30: key and price, the second price null.
abbrev pub right₁ : Rows
right₁ = row (10 ∷ 100 ∷ []) ∷ (value (pos 20) ∷ null ∷ []) ∷ []

abbrev pub right₂ : Rows
right₂ = row (30 ∷ 300 ∷ []) ∷ []

-- Left frames have no price. The first turn has a word of output too few, the third lacks right rows.
unfoldable pub calls : List Call
calls =
    right (frame_of 2 right₁)
    ∷ left (frame_of 1 (keys (5 ∷ 15 ∷ [])))
    ∷ turn (space 9)
    ∷ turn (space 10)
    ∷ left (frame_of 1 (keys (25 ∷ [])))
    ∷ turn (space 6)
    ∷ right (frame_of 2 right₂)
    ∷ turn (space 6)
    ∷ left (frame_of 1 (keys (31 ∷ [])))
    ∷ end
    ∷ turn (space 6)
    ∷ []

-- Whole numbers as words; a row that was written.
abbrev pub ws : List ℕ → Words
ws ns = map pos ns

abbrev pub entry : List ℕ → List ℕ → Entry
entry vs ms = record { values = ws vs; marks = ws ms }

-- None, a price, a null price beside its number, and a price of a row that came later.
abbrev pub written : List Entry
written = entry (0 ∷ 0 ∷ []) (0 ∷ 0 ∷ []) ∷ entry (0 ∷ 100 ∷ []) (1 ∷ 1 ∷ []) ∷ entry (1 ∷ 0 ∷ []) (1 ∷ 0 ∷ []) ∷ entry (2 ∷ 300 ∷ []) (1 ∷ 1 ∷ []) ∷ []

pub answers : says o (left_area 20) (right_area 12) calls
    ≡ ok ∷ ok ∷ refused 6
    ∷ wrote 0 (ws (2 ∷ 2 ∷ 0 ∷ 0 ∷ 0 ∷ 100 ∷ 0 ∷ 0 ∷ 1 ∷ 1 ∷ []))
    ∷ ok ∷ wants ∷ ok
    ∷ wrote 2 (ws (1 ∷ 2 ∷ 1 ∷ 0 ∷ 1 ∷ 0 ∷ []))
    ∷ ok ∷ ok
    ∷ wrote 4 (ws (1 ∷ 2 ∷ 2 ∷ 300 ∷ 1 ∷ 1 ∷ []))
    ∷ []
unfolding calls says
answers = refl

-- What the whole-table theorem reads off this list: the accepted rows of each side, which are sorted, the rows turned, and the matches written; rows were pruned.
pub told : (lefts o (left_area 20) (right_area 12) calls ≡ keys (5 ∷ 15 ∷ 25 ∷ 31 ∷ []))
    × (rights o (left_area 20) (right_area 12) calls ≡ right₁ ++ right₂)
    × (turned_rows o (left_area 20) (right_area 12) calls ≡ keys (5 ∷ 15 ∷ 25 ∷ 31 ∷ []))
    × ((final (start o (left_area 20) (right_area 12)) calls).join.pruned ≡ 2)
    × (matches o (left_area 20) (right_area 12) calls ≡ written)
unfolding calls speak_all events final left_frames right_frames rows_in outputs matches_in written_in entries_of
told = (refl, refl, refl, refl, refl)

pub both_sorted : (sorted o (keys (5 ∷ 15 ∷ 25 ∷ 31 ∷ [])) ≡ true) × (sorted o (right₁ ++ right₂) ≡ true)
unfolding sorted cmp_row cmp_first
both_sorted = (refl, refl)

-- The whole-table rule, for the same rows.
pub whole : map (due_over o (right₁ ++ right₂)) (keys (5 ∷ 15 ∷ 25 ∷ 31 ∷ [])) ≡ written
unfolding answer_row cells_from whole_table match_table choose takes_over fits tolerate cmp_first null_in
whole = refl

-- SCOPE 5.4: R counts rows as wide as right frames. 11 words hold two rows of two columns, and no third; a frame as wide as a left one is refused by 5, and so is a wide left one.
pub by_right_width :
    says o (left_area 20) (right_area 11) (right (frame_of 2 right₁) ∷ right (frame_of 2 []) ∷ right (frame_of 2 right₂) ∷ right (frame_of 1 (keys (40 ∷ []))) ∷ left (frame_of 2 right₂) ∷ [])
    ≡ ok ∷ ok ∷ refused 6 ∷ refused 5 ∷ refused 5 ∷ []
unfolding says
by_right_width = refl

-- SCOPE 8.6: of a right row that is dropped, by-values and key are remembered and nothing behind them. With the check on, carried columns in any order are no fault.
abbrev pub checked : Options
checked = carrying 2 (options 1 0 true (negsuc 0) true [] [])

pub remembers :
    (final (start checked (left_area 20) (right_area 40))
    (right (frame_of 4 (row (1 ∷ 10 ∷ 9 ∷ 8 ∷ []) ∷ row (2 ∷ 5 ∷ 1 ∷ 1 ∷ []) ∷ [])) ∷ end ∷ left (frame_of 2 (row (2 ∷ 5 ∷ []) ∷ [])) ∷ turn (space 8) ∷ [])).join.last_right
    ≡ record { some = true; values = ws (1 ∷ 10 ∷ 0 ∷ 0 ∷ 0 ∷ []); marks = ws (1 ∷ 1 ∷ 0 ∷ 0 ∷ 0 ∷ []) }
unfolding final speak_all
remembers = refl

-- SCOPE 3.9: a join that holds a p above 8 is refused by 2.
pub too_many : says (carrying 9 (plain 0 true)) [] [] (turn [] ∷ end ∷ []) ≡ refused 2 ∷ refused 2 ∷ []
unfolding says
too_many = refl
