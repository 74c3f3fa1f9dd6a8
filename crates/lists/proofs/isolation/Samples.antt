-- Two lists of calls with the same house and other companies beside it, by computation: its right numbers differ, its matches do not. Assumes nothing.
use mathlib.Core.Path.{◌≡◌, refl}
use mathlib.Core.Bool.{true, false}
use mathlib.Core.List.{List, [], ◌∷◌, map}
use Prim.Native.Nat.{ℕ}
use lib.IntN.{pos, negsuc}
use Rattle.frames.specs.Cells.{Cell, null, value, Rows}
use Rattle.order.specs.Order.{cmp_first}
use Rattle.order.proofs.Samples.{options, row, frame_of}
use Rattle.order.specs.declared.options.Options.{Options}
use Rattle.lists.specs.Lists.{Call, left, right, end, turn, events, final, left_frames, right_frames, rows_in, outputs, Entry, entries_of, written_in, matches_in}
use Rattle.lists.specs.WholeTables.{matches}
use Rattle.lists.proofs.Script.{left_area, right_area, space, speak_all}
use Rattle.lists.specs.isolation.Isolation.{of_group, written_for, none, place, foreign, own_at, own, own_matches}

-- Backward, one by-column.
abbrev pub o : Options
o = options 1 0 true (negsuc 0) false [] []

unfoldable pub rows : List (List ℕ) → Rows
rows rs = map row rs

-- The house is company 2: notices at 5 and 9, sales at 4, 7 and 9.
abbrev pub house : List Cell
house = row (2 ∷ [])

-- Beside it company 1, in one frame; and company 3, a null group and another cutting into frames, with a turn that wants right.
unfoldable pub first : List Call
unfolding rows
first =
    right (frame_of 2 (rows ((1 ∷ 10 ∷ []) ∷ (1 ∷ 20 ∷ []) ∷ (2 ∷ 5 ∷ []) ∷ (2 ∷ 9 ∷ []) ∷ [])))
    ∷ end
    ∷ left (frame_of 2 (rows ((1 ∷ 15 ∷ []) ∷ (2 ∷ 4 ∷ []) ∷ (2 ∷ 7 ∷ []) ∷ (2 ∷ 9 ∷ []) ∷ [])))
    ∷ turn (space 12)
    ∷ []

unfoldable pub second : List Call
unfolding rows
second =
    left (frame_of 2 (rows ((2 ∷ 4 ∷ []) ∷ (2 ∷ 7 ∷ []) ∷ [])))
    ∷ right (frame_of 2 ((null ∷ value (pos 1) ∷ []) ∷ rows ((2 ∷ 5 ∷ []) ∷ [])))
    ∷ turn (space 12)
    ∷ right (frame_of 2 (rows ((2 ∷ 9 ∷ []) ∷ (3 ∷ 1 ∷ []) ∷ [])))
    ∷ turn (space 12)
    ∷ left (frame_of 2 (rows ((2 ∷ 9 ∷ []) ∷ (3 ∷ 2 ∷ []) ∷ [])))
    ∷ end
    ∷ turn (space 12)
    ∷ []

abbrev pub entry : ℕ → ℕ → Entry
entry n m = record { values = pos n ∷ []; marks = pos m ∷ [] }

-- What is written: company 1 has notice 0, the house none, 2 and 3; and the house none, 1 and 2, company 3 notice 3.
pub numbers : (matches o (left_area 60) (right_area 40) first ≡ entry 0 1 ∷ entry 0 0 ∷ entry 2 1 ∷ entry 3 1 ∷ [])
    × (matches o (left_area 60) (right_area 40) second ≡ entry 0 0 ∷ entry 1 1 ∷ entry 2 1 ∷ entry 3 1 ∷ [])
unfolding first second speak_all events final left_frames right_frames rows_in outputs matches_in written_in entries_of
numbers = (refl, refl)

-- Among the house's own notices: none, 0 and 1, in both.
pub places : (own_matches o house (left_area 60) (right_area 40) first ≡ none ∷ place 0 ∷ place 1 ∷ [])
    × (own_matches o house (left_area 60) (right_area 40) second ≡ none ∷ place 0 ∷ place 1 ∷ [])
unfolding first second speak_all events final left_frames right_frames rows_in outputs matches_in written_in entries_of written_for of_group own own_at cmp_first
places = (refl, refl)

-- A number that names another's notice has no place among them.
pub others : map (own o house (rows ((1 ∷ 10 ∷ []) ∷ (2 ∷ 5 ∷ []) ∷ []))) (entry 0 1 ∷ entry 1 1 ∷ entry 2 1 ∷ entry 0 0 ∷ []) ≡ foreign ∷ place 0 ∷ foreign ∷ none ∷ []
unfolding rows of_group own own_at cmp_first
others = refl
