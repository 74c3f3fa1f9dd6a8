-- One list of calls with refused ones, a want, a prune and a late right frame: its rows are sorted as declared, and what was written is the whole table's, by
-- computation. It ends with the node done and no frame waiting; RestWitness has a list that meets the premises of rest-written. Assumes nothing.
use mathlib.Core.Path.{◌≡◌, refl}
use mathlib.Core.Bool.{true}
use mathlib.Core.List.{List, [], ◌∷◌, map}
use Prim.Native.Nat.{ℕ}
use lib.IntN.{pos}
use Rattle.frames.specs.Cells.{Words}
use Rattle.order.specs.Order.{sorted, cmp_row, cmp_first, null_in}
use Rattle.order.proofs.Samples.{plain, keys, frame_of}
use Rattle.order.specs.declared.options.Options.{Options}
use Rattle.matching.specs.Answer.{cells_from, answer_row}
use Rattle.matching.specs.Match.{choose, takes_over, fits, tolerate, match_table, whole_table}
use Rattle.frames.specs.declared.outcomes.PortState.TheVariants.{Ready, Done as PortDone}
use Rattle.lists.specs.Lists.{Call, left, right, end, ports, turn, start, events, final, left_frames, right_frames, rows_in, outputs, Entry, entries_of, written_in, matches_in}
use Rattle.lists.specs.WholeTables.{due_over, lefts, rights, turned_rows, matches}
use Rattle.lists.proofs.Script.{ok, refused, wrote, wants, idle, ports as said-ports, left_area, right_area, space, says, speak_all}

abbrev pub o : Options
o = plain 0 true

unfoldable pub frame : List ℕ → Words
frame ks = frame_of 1 (keys ks)

abbrev pub entry : ℕ → ℕ → Entry
entry n m = record { values = pos n ∷ []; marks = pos m ∷ [] }

-- Backward over right 10, 20 and then 20, 30: room for four right rows.
unfoldable pub calls : List Call
unfolding frame
calls =
    turn (space 9)
    ∷ right (frame (10 ∷ 20 ∷ []))
    ∷ left (pos 1 ∷ pos 2 ∷ pos 5 ∷ pos 1 ∷ [])
    ∷ left (frame (5 ∷ 15 ∷ []))
    ∷ turn (space 5)
    ∷ turn (space 9)
    ∷ left (frame (20 ∷ 25 ∷ []))
    ∷ turn (space 9)
    ∷ right (frame (20 ∷ 30 ∷ 40 ∷ []))
    ∷ right (frame (20 ∷ 30 ∷ []))
    ∷ turn (space 9)
    ∷ left (frame (27 ∷ []))
    ∷ end
    ∷ right (frame (50 ∷ []))
    ∷ ports PortDone Ready Ready
    ∷ left (frame (60 ∷ []))
    ∷ turn (space 4)
    ∷ ports PortDone Ready Ready
    ∷ turn (space 9)
    ∷ []

pub answers : says o (left_area 20) (right_area 8) calls
    ≡ idle ∷ ok ∷ refused 5 ∷ ok ∷ refused 6
    ∷ wrote 0 (pos 2 ∷ pos 1 ∷ pos 0 ∷ pos 0 ∷ pos 0 ∷ pos 1 ∷ [])
    ∷ ok ∷ wants ∷ refused 6 ∷ ok
    ∷ wrote 2 (pos 2 ∷ pos 1 ∷ pos 2 ∷ pos 2 ∷ pos 1 ∷ pos 1 ∷ [])
    ∷ ok ∷ ok ∷ refused 4 ∷ said-ports 2 1 1 1 ∷ refused 4
    ∷ wrote 4 (pos 1 ∷ pos 1 ∷ pos 2 ∷ pos 1 ∷ [])
    ∷ said-ports 2 2 2 2 ∷ refused 4 ∷ []
unfolding calls says
answers = refl

-- What the whole-table theorem reads off this list: the accepted rows of each side, which are sorted, the rows turned, and the matches written.
pub told : (lefts o (left_area 20) (right_area 8) calls ≡ keys (5 ∷ 15 ∷ 20 ∷ 25 ∷ 27 ∷ []))
    × (rights o (left_area 20) (right_area 8) calls ≡ keys (10 ∷ 20 ∷ 20 ∷ 30 ∷ []))
    × (turned_rows o (left_area 20) (right_area 8) calls ≡ keys (5 ∷ 15 ∷ 20 ∷ 25 ∷ 27 ∷ []))
    × ((final (start o (left_area 20) (right_area 8)) calls).join.pruned ≡ 2)
    × (matches o (left_area 20) (right_area 8) calls ≡ entry 0 0 ∷ entry 0 1 ∷ entry 2 1 ∷ entry 2 1 ∷ entry 2 1 ∷ [])
unfolding calls speak_all events final left_frames right_frames rows_in outputs matches_in written_in entries_of
told = (refl, refl, refl, refl, refl)

pub both_sorted : (sorted o (keys (5 ∷ 15 ∷ 20 ∷ 25 ∷ 27 ∷ [])) ≡ true) × (sorted o (keys (10 ∷ 20 ∷ 20 ∷ 30 ∷ [])) ≡ true)
unfolding sorted cmp_row cmp_first
both_sorted = (refl, refl)

-- The whole-table rule, for the same rows.
pub whole : map (due_over o (keys (10 ∷ 20 ∷ 20 ∷ 30 ∷ []))) (keys (5 ∷ 15 ∷ 20 ∷ 25 ∷ 27 ∷ []))
    ≡ entry 0 0 ∷ entry 0 1 ∷ entry 2 1 ∷ entry 2 1 ∷ entry 2 1 ∷ []
unfolding answer_row cells_from whole_table match_table choose takes_over fits tolerate cmp_first null_in
whole = refl
